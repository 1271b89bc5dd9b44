use Rattle.std.proofs.Common.{◌≡◌, ◌∙◌, ap, arith, ◌∷◌}
use Rattle.jm_recency.specs.Recency.{holds, from_key}
use Rattle.jm_recency.proofs.LinkLaws.{holds-below, visited}
use Rattle.jm_recency.proofs.recency.Recency.visit.Goals as goal

pub bounds-self-inside-k : goal.bounds-self-inside-k
bounds-self-inside-k g c =
    let l = rw c.self.view_is at c.self.invariant in
    holds-below g.row.N 0 c.args.k c.args.self.now l.entries c.requires

pub returns-clause-here : goal.returns-clause-here
returns-clause-here g c =
    let l = rw c.self.view_is at c.self.invariant in
    rw c.next.ensures.next (visited g.row.N 0 c.args.k c.self.inside.stamps c.args.self.now l.entries l.stamps_are c.requires)
