use Rattle.std.proofs.Common.{leb, ℕ, List, ap, sym, ◌∙◌}
use Rattle.jm_cmds.specs.KeptItem.{kept_since}
use Rattle.ch_notes.specs.RowLaws.{up_to_filter}
use Rattle.ch_notes.specs.PolyTable.{PressRow}
use Rattle.ch_notes.specs.PolyTableLaws.{presses_later}
use Rattle.ch_notes.proofs.poly_table.PolyTable.trim.Goals as goal

pub returns-clause-stands : goal.returns-clause-stands
returns-clause-stands c = λ channel from sent e l.
    c.cut.ensures ∙ ap (λ (t : List (ℕ × PressRow)). kept_since c.args.packet t) e ∙ sym (presses_later channel from c.args.packet sent l)

pub returns-clause-order : goal.returns-clause-order
returns-clause-order c = λ later h.
    rw c.cut.ensures (up_to_filter later (λ (k : ℕ × PressRow). leb c.args.packet k.0) c.args.self.now h)
