use Rattle.std.proofs.Common.{length}
use Rattle.jm_wire.specs.Octets.{Owes}
use Rattle.jm_recency.specs.Recency.{from_key, IsAtKey}
use Rattle.ch_notes.specs.NoteTable.{note_lines, note_rows}
use Rattle.ch_notes.proofs.note_rows.write_lines.Given as goal

abbrev pub invariant-loop-at : goal.invariant-loop-at
invariant-loop-at l =
    IsAtKey l.recent l.at
    × Owes l.initial.out l.out (note_lines l.packet l.tick (note_rows l.rows l.recent)) (note_lines l.packet l.tick (note_rows l.rows (from_key l.recent l.at)))

abbrev pub decreases-loop-at : goal.decreases-loop-at
decreases-loop-at l = length (from_key l.recent l.at)
