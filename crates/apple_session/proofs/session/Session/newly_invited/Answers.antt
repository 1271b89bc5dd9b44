use Rattle.std.proofs.Common.{◌≡◌, ◌≢◌, None, ap}
use Rattle.apple_session.specs.Host.{Host}
use Rattle.apple_session.specs.Peers.{peer_of, Absent}
use Rattle.apple_session.specs.PeerLists.{IsOrderly-push, Absent-no_peer}
use Rattle.apple_session.proofs.session.Session.newly_invited.Goals as goal

pub invariant_of-self-2 : goal.invariant_of-self-2
invariant_of-self-2 c =
    let inside = c.self.inside in
    let peers_are : inside.peers.items ≡ c.args.self.now.peers = ap (λ (h : Host). h.peers) c.self.view_is in
    let ssrc_is : inside.ssrc ≡ c.args.self.now.ssrc = ap (λ (h : Host). h.ssrc) c.self.view_is in
    let new : peer_of c.args.peer.ssrc inside.peers.items ≡ None = rw peers_are c.requires.new in
    let guest : c.args.peer.ssrc ≢ inside.ssrc = rw ssrc_is c.requires.guest in
    let absent : Absent c.args.peer.ssrc c.make_room.new.peers.items = c.make_room.ensures.absent c.args.peer.ssrc (Absent-no_peer c.args.peer.ssrc inside.peers.items new) in
    rw c.push.ensures.items (IsOrderly-push inside.ssrc c.args.peer c.make_room.new.peers.items (c.make_room.ensures.orderly inside.ssrc c.self.invariant) (c.make_room.ensures.few c.if-not-make_room.false) absent guest)
