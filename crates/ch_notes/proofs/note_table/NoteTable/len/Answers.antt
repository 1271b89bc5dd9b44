use Rattle.std.proofs.Common.{ℕ, List, length, ap, ◌∙◌}
use Rattle.ch_notes.specs.NoteTable.{NoteRow, RowsWithin, notes_kept, notes_text}
use Rattle.ch_notes.specs.NoteTableLaws.{notes_coded}
use Rattle.ch_notes.proofs.note_table.NoteTable.len.Goals as goal

pub returns-clause-stands : goal.returns-clause-stands
returns-clause-stands c = λ channel from sent e h.
    let w : RowsWithin (notes_kept channel from sent) = rw e at c.text_len.ensures.within in
    c.text_len.ensures.number ∙ ap length (ap (λ (t : List (ℕ × NoteRow)). notes_text c.args.packet c.args.tick t) e ∙ notes_coded channel from c.args.packet c.args.tick sent w h)
