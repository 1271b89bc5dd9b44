use Rattle.std.proofs.Common.{ℕ, List, ap, ◌∙◌}
use Rattle.ch_notes.specs.KeptRows.{rows_listed}
use Rattle.ch_notes.specs.PolyTable.{PressRow, press_row_logs}
use Rattle.ch_notes.specs.PolyTableLaws.{presses_coded}
use Rattle.ch_notes.proofs.poly_table.PolyTable.write.Goals as goal

pub returns-clause-stands : goal.returns-clause-stands
returns-clause-stands c = λ channel from sent e h.
    let same = ap (λ (t : List (ℕ × PressRow)). rows_listed press_row_logs c.args.packet t) e ∙ presses_coded channel from c.args.packet sent h in
    rw same at c.write_text.ensures
