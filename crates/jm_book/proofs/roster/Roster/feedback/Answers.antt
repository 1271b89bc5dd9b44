use Rattle.std.proofs.Common.{◌≡◌, ◌∙◌, sym, ap, Option, Some, None, append-nil, ◌++◌, List, arith}
use Rattle.std.specs.List.{slice_get}
use Rattle.apple_session.specs.declared.peer.Peer.{Peer}
use Rattle.apple_session.specs.Peers.{is_joined as is_joined_peer}
use Rattle.jm_book.specs.declared.lists.FeedbackEntry.{FeedbackEntry}
use Rattle.jm_book.specs.Participants.{find_joined}
use Rattle.jm_book.specs.Answers.{entry_of, number_heard}
use Rattle.jm_book.proofs.Picking.{filter_past, picked, cons_few}
use Rattle.jm_book.proofs.roster.Roster.feedback.Goals as goal

pub returns-in_default : goal.returns-in_default
returns-in_default c =
    let peers = c.self.inside.host.peers in
    let joined = c.self.inside.joined in
    let pick : Peer → Option FeedbackEntry = λ peer. entry_of (is_joined_peer peer) peer.control (number_heard (find_joined peer.ssrc joined)) in
    let past : slice_get peers c.loop-k.k ≡ None = sym c.peer.ensures.peer ∙ c.in_default.is in
    rw (← c.self.view_is) (sym (append-nil c.loop-k.out) ∙ ap (λ (rest : List FeedbackEntry). c.loop-k.out ++ rest) (sym (filter_past pick peers c.loop-k.k past)) ∙ rw (← c.self.view_is) at c.loop-k.invariant.rest)

pub loop-k-preserved : goal.loop-k-preserved
loop-k-preserved c =
    let peers = c.self.inside.host.peers in
    let joined = c.self.inside.joined in
    let pick : Peer → Option FeedbackEntry = λ peer. entry_of (is_joined_peer peer) peer.control (number_heard (find_joined peer.ssrc joined)) in
    let there : slice_get peers c.loop-k.k ≡ Some c.in-Some.peer = sym c.peer.ensures.peer ∙ c.in-Some.is in
    let given = rw (← c.self.view_is) at c.feedback_to.ensures in
    rw (← c.self.view_is, c.add.ensures, given) record {
      rest = picked pick peers c.loop-k.k c.in-Some.peer c.loop-k.out there ∙ rw (← c.self.view_is) at c.loop-k.invariant.rest;
      few = omega (arith, cons_few c.loop-k.out (pick c.in-Some.peer), c.loop-k.invariant.few);
    }
