use Rattle.std.proofs.Common.{ℕ, List, ap, ◌∙◌}
use Rattle.ch_notes.specs.Shape.{no_notes}
use Rattle.ch_notes.specs.NoteTable.{NoteRow, rows_counted}
use Rattle.ch_notes.specs.NoteTableLaws.{notes_fresh}
use Rattle.ch_notes.proofs.note_table.NoteTable.fresh.Goals as goal

pub returns-clause-stands : goal.returns-clause-stands
returns-clause-stands c = λ channel from sent e h.
    c.is_fresh.ensures ∙ ap (λ (t : List (ℕ × NoteRow)). (rows_counted c.args.packet no_notes t).fresh) e ∙ notes_fresh channel from c.args.packet sent h
