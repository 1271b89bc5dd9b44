use Rattle.std.proofs.Common.{◌≡◌, true, false, sym}
use Rattle.jm_recency.specs.Recency.{holds}
use Rattle.jm_recency.proofs.LinkLaws.{stamp-there, stamp_of-absent}
use Rattle.jm_recency.proofs.recency.Recency.stamp.Goals as goal

pub returns-then-holds : goal.returns-then-holds
returns-then-holds g c =
    let l = rw c.self.view_is at c.self.invariant in
    let there : holds c.args.k c.args.self.now ≡ true = cc in
    sym (stamp-there c.self.inside.stamps c.args.k c.args.self.now l.stamps_are there)

pub returns-else-holds : goal.returns-else-holds
returns-else-holds g c =
    let absent : holds c.args.k c.args.self.now ≡ false = cc in
    sym (stamp_of-absent c.args.k c.args.self.now absent)
