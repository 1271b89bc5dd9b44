use Rattle.std.proofs.Common.{◌≡◌, ◌+◌, ◌≤◌, length}
use Rattle.jm_recency.specs.Recency.{from_key, IsAtKey}
use Rattle.ch_notes.specs.Count.{IsCount}
use Rattle.ch_notes.specs.Shape.{no_notes}
use Rattle.ch_notes.specs.NoteTable.{rows_counted, note_rows, RowsWithin}
use Rattle.ch_notes.proofs.note_rows.notes_shape.Given as goal

abbrev pub invariant-loop-at : goal.invariant-loop-at
invariant-loop-at l =
    IsAtKey l.recent l.at
    × (rows_counted l.packet l.shape (note_rows l.rows (from_key l.recent l.at)) ≡ rows_counted l.packet no_notes (note_rows l.rows l.recent))
    × (RowsWithin (note_rows l.rows (from_key l.recent l.at)) → RowsWithin (note_rows l.rows l.recent))
    × IsCount l.shape
    × (l.shape.logs + l.shape.off + length (from_key l.recent l.at) ≤ length l.recent)

abbrev pub decreases-loop-at : goal.decreases-loop-at
decreases-loop-at l = length (from_key l.recent l.at)
