use Rattle.std.proofs.Common.{sym}
use Rattle.ch_notes.specs.ExtraTableLaws.{extra_none}
use Rattle.ch_notes.proofs.extra_table.ExtraTable.new.Goals as goal

pub returns-clause-stands : goal.returns-clause-stands
returns-clause-stands c = λ channel. rw c.new.ensures (sym (extra_none channel))
