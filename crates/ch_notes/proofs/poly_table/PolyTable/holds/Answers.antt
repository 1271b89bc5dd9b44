use Rattle.std.proofs.Common.{◌≡◌, ℕ, arith, ap, ◌∙◌}
use Rattle.jm_recency.specs.Recency.{holds}
use Rattle.ch_notes.specs.PolyTableLaws.{keys_held}
use Rattle.ch_notes.proofs.poly_table.PolyTable.holds.Goals as goal

pub returns : goal.returns
returns c =
    let k : c.from.result ≡ c.args.note = omega (arith, c.from.ensures, c.get.ensures.value) in
    rw (← c.self.view_is)
    (c.holds.ensures.here ∙ ap (λ (n : ℕ). holds n c.self.inside.recent) k ∙ keys_held c.self.inside.rows c.args.note c.self.inside.recent)
