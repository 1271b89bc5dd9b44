use Rattle.std.proofs.Common.{◌≡◌, List, Some, None, sym, subst, ◌∙◌}
use Rattle.std.specs.List.{position}
use Rattle.std.proofs.Math.ListN.{set, length-set}
use Rattle.apple_session.specs.declared.peer.Peer.{Peer}
use Rattle.apple_session.specs.Peers.{is_from, IsOrderly}
use Rattle.apple_session.specs.PeerLists.{replaced_at, replaced-Absent, Absent-no_place, refill_same, IsOrderly-replaced}
use Rattle.apple_session.proofs.list.replace.Goals as goal

pub returns-in-Some-clause-peers : goal.returns-in-Some-clause-peers
returns-in-Some-clause-peers c =
    let items = c.args.peers.now.items in
    let place : position (is_from c.args.peer.ssrc) items ≡ Some c.in-Some.place = rw (← c.as_slice.ensures.value) (sym c.place_of.ensures ∙ c.in-Some.is) in
    rw c.deref_mut.ensures.value (refill_same items (set items c.in-Some.place c.args.peer) (simp length-set) ∙ replaced_at c.args.peer items c.in-Some.place c.requires place)

pub returns-in-Some-clause-orderly : goal.returns-in-Some-clause-orderly
returns-in-Some-clause-orderly c = λ host o.
    subst (λ (x : List Peer). IsOrderly host x) (sym (returns-in-Some-clause-peers c)) (IsOrderly-replaced host c.args.peer c.args.peers.now.items o)

pub returns-in_default-clause-peers : goal.returns-in_default-clause-peers
returns-in_default-clause-peers c =
    let items = c.args.peers.now.items in
    let none : position (is_from c.args.peer.ssrc) items ≡ None = rw (← c.as_slice.ensures.value) (sym c.place_of.ensures ∙ c.in_default.is) in
    sym (replaced-Absent c.args.peer items (Absent-no_place c.args.peer.ssrc items none))
