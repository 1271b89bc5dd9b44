use Rattle.std.proofs.Common.{◌≡◌, ℕ, length, ap, ◌∙◌}
use Rattle.std.specs.List.{AllByRecursion}
use Rattle.ch_notes.specs.NoteEvent.{IsWithin}
use Rattle.ch_notes.specs.KeptRows.{key_listed}
use Rattle.ch_notes.specs.RowLaws.{keys_listed}
use Rattle.ch_notes.specs.NoteTable.{note_row_of}
use Rattle.ch_notes.specs.ExtraTable.{extra_row_logs}
use Rattle.ch_notes.specs.ExtraTableLaws.{rows_within}
use Rattle.ch_notes.proofs.extra_table.ExtraTable.text_len.Goals as goal

pub returns-clause-number : goal.returns-clause-number
returns-clause-number c =
    let row = note_row_of c.self.inside.rows.notes in
    let logs = extra_row_logs c.self.inside.rows.counts in
    let number : c.key_len.result ≡ length (key_listed (λ k. logs (row k)) c.args.packet c.self.inside.recent) = c.key_len.ensures.number in
    rw (← c.self.view_is) (number ∙ ap length (keys_listed logs row c.args.packet c.self.inside.recent))

pub returns-clause-within : goal.returns-clause-within
returns-clause-within c =
    let all : AllByRecursion (λ (e : ℕ × ℕ). IsWithin (note_row_of c.self.inside.rows.notes e.0).event) c.self.inside.recent = c.key_len.ensures.within in
    rw (← c.self.view_is) (rows_within c.self.inside.rows.notes c.self.inside.recent all)
