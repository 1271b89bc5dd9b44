use Rattle.std.proofs.Common.{◌≡◌, List, Some, None, sym, subst, ◌∙◌}
use Rattle.std.specs.List.{position}
use Rattle.apple_session.specs.declared.peer.Peer.{Peer}
use Rattle.apple_session.specs.Peers.{is_from, Absent, IsOrderly}
use Rattle.apple_session.specs.PeerLists.{removed_at, without-Absent, Absent-no_place, Absent-without, IsOrderly-without}
use Rattle.apple_session.proofs.list.remove.Goals as goal

pub returns-in-Some-clause-peers : goal.returns-in-Some-clause-peers
returns-in-Some-clause-peers c =
    let items = c.args.peers.now.items in
    let place : position (is_from c.args.ssrc) items ≡ Some c.in-Some.place = rw (← c.as_slice.ensures.value) (sym c.place_of.ensures ∙ c.in-Some.is) in
    c.remove.ensures.items ∙ removed_at c.args.ssrc items c.in-Some.place c.requires place

pub returns-in-Some-clause-orderly : goal.returns-in-Some-clause-orderly
returns-in-Some-clause-orderly c = λ host o.
    subst (λ (x : List Peer). IsOrderly host x) (sym (returns-in-Some-clause-peers c)) (IsOrderly-without host c.args.ssrc c.args.peers.now.items o)

pub returns-in-Some-clause-absent : goal.returns-in-Some-clause-absent
returns-in-Some-clause-absent c = λ other h.
    subst (λ (x : List Peer). Absent other x) (sym (returns-in-Some-clause-peers c)) (Absent-without other c.args.ssrc c.args.peers.now.items h)

pub returns-in_default-clause-peers : goal.returns-in_default-clause-peers
returns-in_default-clause-peers c =
    let items = c.args.peers.now.items in
    let none : position (is_from c.args.ssrc) items ≡ None = rw (← c.as_slice.ensures.value) (sym c.place_of.ensures ∙ c.in_default.is) in
    sym (without-Absent c.args.ssrc items (Absent-no_place c.args.ssrc items none))
