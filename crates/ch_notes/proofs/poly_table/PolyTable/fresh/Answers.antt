use Rattle.std.proofs.Common.{ℕ, List, ap, ◌∙◌}
use Rattle.ch_notes.specs.KeptRows.{row_fresh}
use Rattle.ch_notes.specs.PolyTable.{PressRow, press_row_logs}
use Rattle.ch_notes.specs.PolyTableLaws.{presses_fresh}
use Rattle.ch_notes.proofs.poly_table.PolyTable.fresh.Goals as goal

pub returns-clause-stands : goal.returns-clause-stands
returns-clause-stands c = λ channel from sent e h.
    c.is_fresh.ensures ∙ ap (λ (t : List (ℕ × PressRow)). row_fresh press_row_logs c.args.packet t) e ∙ presses_fresh channel from c.args.packet sent h
