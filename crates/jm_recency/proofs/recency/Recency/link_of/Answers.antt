use Rattle.std.proofs.Common.{◌≡◌, ◌≤◌, sym, arith}
use Rattle.jm_recency.proofs.LinkLaws.{holds-past, link-absent}
use Rattle.jm_recency.proofs.recency.Recency.link_of.Goals as goal

-- a key past the array isn't there
pub returns-else-place-clause-link : goal.returns-else-place-clause-link
returns-else-place-clause-link g c =
    let l = rw c.self.view_is at c.self.invariant in
    let past : g.row.N ≤ c.args.k = (let n = l.nexts in omega arith) in
    sym (link-absent c.args.k c.args.self.now (holds-past g.row.N 0 c.args.k c.args.self.now l.entries past))
