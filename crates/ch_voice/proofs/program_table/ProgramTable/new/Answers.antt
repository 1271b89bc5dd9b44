use Rattle.std.proofs.Common.{sym}
use Rattle.ch_voice.specs.TableLaws.{program_none}
use Rattle.ch_voice.proofs.program_table.ProgramTable.new.Goals as goal

pub returns-clause-stands : goal.returns-clause-stands
returns-clause-stands c = λ channel. rw c.none.ensures (sym (program_none channel))
