use Rattle.std.proofs.Common.{◌≡◌, true, false, sym}
use Rattle.jm_recency.specs.Recency.{holds}
use Rattle.jm_recency.specs.RecencyLaws.{without-absent}
use Rattle.jm_recency.proofs.LinkLaws.{walk_of, links_of}
use Rattle.jm_recency.proofs.Dropped.{links_dropped}
use Rattle.jm_recency.proofs.recency.Recency.drop_key.Goals as goal

-- the links after the writes are those of the list without the key
pub invariant_of-self : goal.invariant_of-self
invariant_of-self g c =
    let l = rw c.self.view_is at c.self.invariant in
    let there : holds c.args.k c.args.self.now ≡ true = cc in
    let dropped = links_dropped g.row.N c.self.inside.next c.self.inside.previous c.self.inside.stamps c.self.inside.oldest c.self.inside.newest c.self.inside.count c.args.self.now c.args.k l there in
    rw (c.relink.ensures.links, c.relink.ensures.end, c.relink-then-holds.ensures.links, c.relink-then-holds.ensures.end) (links_of _ _ _ _ _ _ _ _ dropped)

pub returns-then-holds : goal.returns-then-holds
returns-then-holds g c =
    let l = rw c.self.view_is at c.self.invariant in
    let there : holds c.args.k c.args.self.now ≡ true = cc in
    let dropped = links_dropped g.row.N c.self.inside.next c.self.inside.previous c.self.inside.stamps c.self.inside.oldest c.self.inside.newest c.self.inside.count c.args.self.now c.args.k l there in
    rw (c.relink.ensures.links, c.relink.ensures.end) (walk_of _ _ _ _ _ _ _ _ dropped)

pub returns-else-holds : goal.returns-else-holds
returns-else-holds g c =
    let absent : holds c.args.k c.args.self.now ≡ false = cc in
    sym (without-absent c.args.k c.args.self.now absent)
