use Rattle.std.proofs.Common.{◌≡◌, length, ap, ◌∙◌}
use Rattle.ch_notes.specs.KeptRows.{key_listed}
use Rattle.ch_notes.specs.RowLaws.{keys_listed}
use Rattle.ch_notes.specs.PolyTable.{press_row_of, press_row_logs}
use Rattle.ch_notes.proofs.poly_table.PolyTable.text_len.Goals as goal

pub returns-clause-number : goal.returns-clause-number
returns-clause-number c =
    let row = press_row_of c.self.inside.rows in
    let number : c.key_len.result ≡ length (key_listed (λ k. press_row_logs (row k)) c.args.packet c.self.inside.recent) = c.key_len.ensures.number in
    rw (← c.self.view_is) (number ∙ ap length (keys_listed press_row_logs row c.args.packet c.self.inside.recent))
