use Rattle.std.proofs.Common.{ap, sym, ◌∙◌}
use Rattle.ch_notes.specs.declared.shape.Shape.{Shape}
use Rattle.ch_notes.specs.Shape.{shape_len}
use Rattle.ch_notes.specs.NoteTable.{note_rows}
use Rattle.ch_notes.specs.NoteTableLaws.{notes_length}
use Rattle.ch_notes.proofs.note_table.NoteTable.text_len.Goals as goal

pub returns-clause-number : goal.returns-clause-number
returns-clause-number c =
    rw (← c.self.view_is)
    (c.len.ensures.number ∙ ap (λ (s : Shape). shape_len s) c.notes_shape.ensures.notes ∙ sym (notes_length c.args.packet c.args.tick (note_rows c.self.inside.rows c.self.inside.recent)))
