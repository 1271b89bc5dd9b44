use Rattle.std.proofs.Common.{sym}
use Rattle.ch_system.specs.TableLaws.{time_none}
use Rattle.ch_system.proofs.time_table.TimeTable.new.Goals as goal

pub returns-clause-stands : goal.returns-clause-stands
returns-clause-stands c = rw c.none.ensures (sym time_none)
