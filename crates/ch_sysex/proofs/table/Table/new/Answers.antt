use Rattle.std.proofs.Common.{sym}
use Rattle.ch_sysex.specs.TableLaws.{sysex_none}
use Rattle.ch_sysex.proofs.table.Table.new.Goals as goal

pub returns-clause-stands : goal.returns-clause-stands
returns-clause-stands c = rw c.in_ok-messages.ensures (sym sysex_none)
