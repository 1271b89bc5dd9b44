use Rattle.std.proofs.Common.{◌≡◌, ◌≤◌, ◌+◌, ℕ, List, false, length, ap, sym, ◌∙◌, arith}
use Rattle.ch_notes.specs.declared.shape.Shape.{Shape}
use Rattle.ch_notes.specs.Shape.{is_bare, shaped, span}
use Rattle.ch_notes.specs.ChapterLaws.{length-shaped-full}
use Rattle.ch_notes.specs.NoteTable.{note_lines, notes_text, note_rows}
use Rattle.ch_notes.proofs.note_table.NoteTable.write_text.Goals as goal

room : (whole text : List ℕ) (s : Shape) (spare : ℕ) → whole ≡ shaped s text → is_bare s ≡ false → length whole ≤ spare → 2 + (length text + span s) ≤ spare
room whole text s spare e b l = omega (arith, ap length e, length-shaped-full s text b, l)

pub write_rows-requires-clause-spare : goal.write_rows-requires-clause-spare
write_rows-requires-clause-spare c =
    let s = c.notes_shape-shape.result in
    let rows = note_rows c.self.inside.rows c.self.inside.recent in
    let lines = note_lines c.args.packet c.args.tick rows in
    let whole = notes_text c.args.packet c.args.tick rows in
    let all : length whole ≤ c.args.out.now.spare = rw c.self.view_is c.requires in
    room whole lines s c.args.out.now.spare (ap (λ (k : Shape). shaped k lines) (sym c.notes_shape-shape.ensures.notes)) (sym c.is_bare.ensures ∙ c.if-not-is_bare.true) all
