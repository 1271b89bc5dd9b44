use Rattle.std.proofs.Common.{ℕ, List, ap, ◌∙◌}
use Rattle.ch_notes.specs.NoteTable.{NoteRow, RowsWithin, notes_kept, notes_text}
use Rattle.ch_notes.specs.NoteTableLaws.{notes_coded}
use Rattle.ch_notes.proofs.note_table.NoteTable.write.Goals as goal

pub returns-clause-stands : goal.returns-clause-stands
returns-clause-stands c = λ channel from sent e h.
    let w : RowsWithin (notes_kept channel from sent) = rw e at c.write_text.ensures.within in
    let same = ap (λ (t : List (ℕ × NoteRow)). notes_text c.args.packet c.args.tick t) e ∙ notes_coded channel from c.args.packet c.args.tick sent w h in
    rw same at c.write_text.ensures.text
