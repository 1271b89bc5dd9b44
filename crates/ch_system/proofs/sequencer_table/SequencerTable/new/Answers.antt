use Rattle.std.proofs.Common.{sym}
use Rattle.ch_system.specs.TableLaws.{sequencer_none}
use Rattle.ch_system.proofs.sequencer_table.SequencerTable.new.Goals as goal

pub returns-clause-stands : goal.returns-clause-stands
returns-clause-stands c = rw c.none.ensures (sym sequencer_none)
