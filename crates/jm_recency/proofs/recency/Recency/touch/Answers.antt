use Rattle.std.proofs.Common.{◌≡◌, ◌≤◌, ◌++◌, ◌∷◌, [], false, sym, ◌∙◌, ap, arith, subst, List, ℕ}
use Rattle.jm_recency.specs.Recency.{holds, without, AreUpTo}
use Rattle.jm_recency.specs.RecencyLaws.{AreUpTo-without, holds-without}
use Rattle.jm_recency.proofs.LinkLaws.{walk_of, links_of, few_keys}
use Rattle.jm_recency.proofs.Pushed.{links_pushed}
use Rattle.jm_recency.proofs.recency.Recency.touch.Goals as goal

pub overflow_add-self : goal.overflow_add-self
overflow_add-self g c =
    let l = c.self.invariant in
    let few = few_keys g.row.N 0 _ l.entries in
    let counted = l.counted in
    let small = l.few in
    omega arith

-- the links after the writes are those of the list with the key behind it
pub invariant_of-self : goal.invariant_of-self
invariant_of-self g c =
    let l = rw (c.self.view_is, c.drop_key.ensures) at c.self.invariant in
    let pushed = links_pushed g.row.N c.self.inside.next c.self.inside.previous c.self.inside.stamps c.self.inside.oldest c.self.inside.newest c.self.inside.count
    (without c.args.k c.args.self.now) c.args.k c.args.stamp l c.requires.key (holds-without c.args.k c.args.self.now) (AreUpTo-without c.args.stamp c.args.k c.args.self.now c.requires.order) in
    rw (c.relink.ensures.links, c.relink.ensures.end) (links_of _ _ _ _ _ _ _ _ pushed)

pub returns : goal.returns
returns g c =
    let l = rw (c.self.view_is, c.drop_key.ensures) at c.self.invariant in
    let pushed = links_pushed g.row.N c.self.inside.next c.self.inside.previous c.self.inside.stamps c.self.inside.oldest c.self.inside.newest c.self.inside.count
    (without c.args.k c.args.self.now) c.args.k c.args.stamp l c.requires.key (holds-without c.args.k c.args.self.now) (AreUpTo-without c.args.stamp c.args.k c.args.self.now c.requires.order) in
    rw (c.relink.ensures.links, c.relink.ensures.end) (walk_of _ _ _ _ _ _ _ _ pushed)
