use Rattle.std.proofs.Common.{◌≡◌, ◌∙◌}
use Rattle.ch_notes.specs.KeptRows.{key_fresh}
use Rattle.ch_notes.specs.RowLaws.{keys_fresh}
use Rattle.ch_notes.specs.PolyTable.{press_row_of, press_row_logs}
use Rattle.ch_notes.proofs.poly_table.PolyTable.is_fresh.Goals as goal

pub returns : goal.returns
returns c =
    let row = press_row_of c.self.inside.rows in
    let fresh : c.key_tally.result.fresh ≡ key_fresh (λ k. press_row_logs (row k)) c.args.packet c.self.inside.recent = c.key_tally.ensures.fresh in
    rw (← c.self.view_is) (fresh ∙ keys_fresh press_row_logs row c.args.packet c.self.inside.recent)
