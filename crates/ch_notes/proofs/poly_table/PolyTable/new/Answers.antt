use Rattle.std.proofs.Common.{sym}
use Rattle.ch_notes.specs.PolyTableLaws.{presses_none}
use Rattle.ch_notes.proofs.poly_table.PolyTable.new.Goals as goal

pub returns-clause-stands : goal.returns-clause-stands
returns-clause-stands c = λ channel. rw c.new.ensures (sym (presses_none channel))
