use Rattle.std.proofs.Common.{◌≡◌, ◌<◌, true, sym, ◌∙◌, ap, not, eqb, cond}
use Rattle.jm_recency.specs.Recency.{holds}
use Rattle.jm_recency.proofs.LinkLaws.{holds-by_link, holds-below}
use Rattle.jm_recency.proofs.recency.Recency.holds.Goals as goal

-- a key has a link exactly where it is there
pub returns-clause-here : goal.returns-clause-here
returns-clause-here g c =
    let e = c.link_of.ensures in
    ap (λ link. not (eqb link 65534)) e.link ∙ holds-by_link g.row.N 0 c.args.k c.args.self.now e.few e.order

pub returns-clause-bound : goal.returns-clause-bound
returns-clause-bound g c = λ t.
    let e = c.link_of.ensures in
    let here : not (eqb c.link_of.result 65534) ≡ holds c.args.k c.args.self.now =
    ap (λ link. not (eqb link 65534)) e.link ∙ holds-by_link g.row.N 0 c.args.k c.args.self.now e.few e.order in
    holds-below g.row.N 0 c.args.k c.args.self.now e.order (sym here ∙ t)
