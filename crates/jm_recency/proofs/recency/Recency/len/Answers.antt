use Rattle.std.proofs.Common.{◌≡◌, ◌≤◌, arith}
use Rattle.jm_recency.proofs.LinkLaws.{few_keys}
use Rattle.jm_recency.proofs.recency.Recency.len.Goals as goal

-- distinct keys below N
pub returns-clause-bound : goal.returns-clause-bound
returns-clause-bound g c =
    let l = rw c.self.view_is at c.self.invariant in
    let few = few_keys g.row.N 0 c.args.self.now l.entries in
    let counted = l.counted in
    omega arith
