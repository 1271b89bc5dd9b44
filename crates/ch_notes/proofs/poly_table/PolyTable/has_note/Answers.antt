use Rattle.std.proofs.Common.{ℕ, List, ap, ◌∙◌}
use Rattle.ch_notes.specs.PolyTable.{PressRow, has_press}
use Rattle.ch_notes.specs.PolyTableLaws.{presses_has}
use Rattle.ch_notes.proofs.poly_table.PolyTable.has_note.Goals as goal

pub returns-clause-stands : goal.returns-clause-stands
returns-clause-stands c = λ channel from sent e.
    c.holds.ensures ∙ ap (λ (t : List (ℕ × PressRow)). has_press c.args.note t) e ∙ presses_has channel from c.args.note sent
