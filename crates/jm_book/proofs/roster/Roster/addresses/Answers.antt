use Rattle.std.proofs.Common.{◌≡◌, ◌∙◌, sym, ap, Option, Some, None, append-nil, ◌++◌, List, arith}
use Rattle.std.specs.List.{slice_get}
use Rattle.jm_edge.specs.declared.Addr.{Addr}
use Rattle.apple_session.specs.declared.peer.Peer.{Peer}
use Rattle.jm_book.proofs.Picking.{filter_past, picked, cons_few}
use Rattle.jm_book.proofs.roster.Roster.addresses.Goals as goal

pub returns-in_default : goal.returns-in_default
returns-in_default c =
    let peers = c.self.inside.host.peers in
    let pick : Peer → Option Addr = λ peer. peer.data in
    let past : slice_get peers c.loop-k.k ≡ None = sym c.peer.ensures.peer ∙ c.in_default.is in
    rw (← c.self.view_is) (sym (append-nil c.loop-k.out) ∙ ap (λ (rest : List Addr). c.loop-k.out ++ rest) (sym (filter_past pick peers c.loop-k.k past)) ∙ rw (← c.self.view_is) at c.loop-k.invariant.rest)

pub loop-k-preserved : goal.loop-k-preserved
loop-k-preserved c =
    let peers = c.self.inside.host.peers in
    let pick : Peer → Option Addr = λ peer. peer.data in
    let there : slice_get peers c.loop-k.k ≡ Some c.in-Some.peer = sym c.peer.ensures.peer ∙ c.in-Some.is in
    rw (← c.self.view_is, c.add.ensures) record {
      rest = picked pick peers c.loop-k.k c.in-Some.peer c.loop-k.out there ∙ rw (← c.self.view_is) at c.loop-k.invariant.rest;
      few = omega (arith, cons_few c.loop-k.out (pick c.in-Some.peer), c.loop-k.invariant.few);
    }
