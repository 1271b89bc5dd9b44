use Rattle.ch_notes.specs.PolyTableLaws.{rows_muted, rows_unmuted}
use Rattle.ch_notes.proofs.poly_table.PolyTable.mute.Goals as goal

pub returns-then-ends : goal.returns-then-ends
returns-then-ends c = rw (c.if-ends.true, ← c.self.view_is) (rows_muted c.self.inside.rows c.self.inside.recent)

pub returns-else-ends : goal.returns-else-ends
returns-else-ends c = rw (c.if-ends.false, ← c.self.view_is) (rows_unmuted c.self.inside.rows c.self.inside.recent)
