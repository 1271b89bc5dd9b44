use Rattle.std.proofs.Common.{ℕ, List, length, ap, ◌∙◌}
use Rattle.ch_notes.specs.PolyTable.{PressRow}
use Rattle.ch_notes.specs.PolyTableLaws.{presses_count}
use Rattle.ch_notes.proofs.poly_table.PolyTable.notes.Goals as goal

pub returns-clause-stands : goal.returns-clause-stands
returns-clause-stands c = λ channel from sent e.
    c.count.ensures.number ∙ ap (λ (t : List (ℕ × PressRow)). length t) e ∙ presses_count channel from sent
