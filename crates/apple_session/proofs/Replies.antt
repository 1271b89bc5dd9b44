-- A reply is never replied to; and how offsets are rounded.
use Rattle.std.proofs.Common.{◌≡◌, ℕ, Bool, true, false, cond, eqb, List, [], ◌∷◌, Option, Some, None, refl, arith}
use Rattle.std.specs.Prelude.{slice_index, IfSome}
use Rattle.std.proofs.lemmas.Int.{ints}
use Rattle.jm_edge.specs.declared.Addr.{Addr}
use Rattle.apple_msg.specs.declared.message.Message.{Message}
use Rattle.apple_msg.specs.declared.message.Message.TheVariants.{Invite, Accept, Reject, Bye, Clock, Feedback, RateLimit}
use Rattle.apple_session.specs.declared.peer.Peer.{Peer}
use Rattle.apple_session.specs.declared.answer.Act.TheVariants.{Plain, Join, Ack, Clocked, Ignored}
use Rattle.apple_session.specs.declared.answer.Why.TheVariants.{NotJoined, NotUsed}
use Rattle.apple_session.specs.declared.answer.PortKind.{PortKind}
use Rattle.apple_session.specs.declared.answer.PortKind.TheVariants.{Ctl, Rtp}
use Rattle.apple_session.specs.Host.{Host}
use Rattle.apple_session.specs.Peers.{is_joined, peer_of, replaced}
use Rattle.apple_session.specs.Machine.{Outcome, silent, replied, accepted, rejected, ends, with_room, newly_invited, invited, on_control, joining, called, on_data, gone, of_joined, offset, counted, step}
use Rattle.apple_session.specs.Conduct.{RepliesAreFinal, OffsetsRoundDown}
use Rattle.apple_session.specs.Steps.{guest_of, joined_at}

-- what a host replies: OK, NO, and the second step of a clock exchange
IsFinal : Message → Type 0
IsFinal (Accept token ssrc name) = Unit {0}
IsFinal (Reject token ssrc name) = Unit {0}
IsFinal (Clock ssrc count times) = count ≡ 1
IsFinal (Invite token ssrc name) = ⊥
IsFinal (Bye token ssrc) = ⊥
IsFinal (Feedback ssrc seq) = ⊥
IsFinal RateLimit = ⊥

abbrev AnswersFinally : Outcome → Type 0
AnswersFinally o = IfSome o.answer.reply IsFinal

-- nothing is replied to it
counted-second : (host : Host) (count : ℕ) (times : List ℕ) (now : ℕ) → count ≡ 1 → counted host count times now ≡ silent (Ignored NotUsed) host.peers
counted-second host count times now e = rw e refl

joined-silent : (host : Host) (o : Option Peer) (outcome : Outcome) → outcome.answer.reply ≡ None → (of_joined host o outcome).answer.reply ≡ None
joined-silent host None outcome h = refl
joined-silent host (Some peer) outcome h =
    elim (is_joined peer) as (λ (b : Bool). (cond b outcome (silent (Ignored NotJoined) host.peers)).answer.reply ≡ None) [
      | true ↦ h
      | false ↦ refl
    ]

unanswered : (host : Host) (room : Bool) (port : PortKind) (from : Addr) (reply : Message) (now : ℕ) → IsFinal reply → (step host room port from reply now).answer.reply ≡ None
unfolding step IsFinal
unanswered host room port from (Accept token ssrc name) now h = refl
unanswered host room port from (Reject token ssrc name) now h = refl
unanswered host room Ctl from (Clock ssrc count times) now h = refl
unanswered host room Rtp from (Clock ssrc count times) now h =
    joined-silent host (peer_of ssrc host.peers) (counted host count times now) (rw (counted-second host count times now h) refl)
unanswered host room port from (Invite token ssrc name) now h = absurd h
unanswered host room port from (Bye token ssrc) now h = absurd h
unanswered host room port from (Feedback ssrc seq) now h = absurd h
unanswered host room port from RateLimit now h = absurd h

-- ---- every reply is one of these

final_control : (host : Host) (from : Addr) (token ssrc : ℕ) → AnswersFinally (on_control host from token ssrc)
unfolding IsFinal
final_control host from token ssrc =
    elim (eqb ssrc host.ssrc) as (λ (b : Bool). AnswersFinally (cond b (rejected host token) (invited host (guest_of from token ssrc) (peer_of ssrc host.peers)))) [
      | true ↦ tt
      | false ↦ elim (peer_of ssrc host.peers) as (λ (o : Option Peer). AnswersFinally (invited host (guest_of from token ssrc) o)) [
        | None ↦ elim (with_room host.peers) as (λ (r : Option (List Peer)). AnswersFinally (newly_invited host (guest_of from token ssrc) r)) [
          | None ↦ tt
          | Some others ↦ tt
        ]
        | Some old ↦ elim (eqb old.token token) as (λ (b : Bool). AnswersFinally (cond b (accepted host token Plain host.peers) (accepted host token (ends old) (replaced (guest_of from token ssrc) host.peers)))) [
          | true ↦ tt
          | false ↦ tt
        ]
      ]
    ]

final_data : (host : Host) (room : Bool) (from : Addr) (token ssrc : ℕ) → AnswersFinally (on_data host room from token ssrc)
unfolding IsFinal
final_data host room from token ssrc =
    elim (peer_of ssrc host.peers) as (λ (o : Option Peer). AnswersFinally (called host room from token o)) [
      | None ↦ tt
      | Some peer ↦ elim (eqb peer.token token) as (λ (b : Bool). AnswersFinally (cond b (joining host room from peer) (rejected host token))) [
        | false ↦ tt
        | true ↦ elim (is_joined peer) as (λ (b : Bool). AnswersFinally (cond b (accepted host peer.token Plain host.peers) (cond room (accepted host peer.token (Join peer.ssrc) (replaced (joined_at from peer) host.peers)) (rejected host peer.token)))) [
          | true ↦ tt
          | false ↦ elim room as (λ (b : Bool). AnswersFinally (cond b (accepted host peer.token (Join peer.ssrc) (replaced (joined_at from peer) host.peers)) (rejected host peer.token))) [
            | true ↦ tt
            | false ↦ tt
          ]
        ]
      ]
    ]

final_gone : (host : Host) (o : Option Peer) → AnswersFinally (gone host o)
final_gone host None = tt
final_gone host (Some peer) = tt

final_counted : (host : Host) (count : ℕ) (times : List ℕ) (now : ℕ) → AnswersFinally (counted host count times now)
unfolding IsFinal
final_counted host count times now =
    elim (eqb count 0) as (λ (b : Bool). AnswersFinally (cond b (replied (Clock host.ssrc 1 (slice_index times 0 ∷ now ∷ 0 ∷ [])) Plain host.peers) (cond (eqb count 2) (silent (Clocked (offset times)) host.peers) (silent (Ignored NotUsed) host.peers)))) [
      | true ↦ refl
      | false ↦ elim (eqb count 2) as (λ (b : Bool). AnswersFinally (cond b (silent (Clocked (offset times)) host.peers) (silent (Ignored NotUsed) host.peers))) [
        | true ↦ tt
        | false ↦ tt
      ]
    ]

final_joined : (host : Host) (o : Option Peer) (outcome : Outcome) → AnswersFinally outcome → AnswersFinally (of_joined host o outcome)
final_joined host None outcome h = tt
final_joined host (Some peer) outcome h =
    elim (is_joined peer) as (λ (b : Bool). AnswersFinally (cond b outcome (silent (Ignored NotJoined) host.peers))) [
      | true ↦ h
      | false ↦ tt
    ]

final_step : (host : Host) (room : Bool) (port : PortKind) (from : Addr) (message : Message) (now : ℕ) → AnswersFinally (step host room port from message now)
unfolding step
final_step host room Ctl from (Invite token ssrc name) now = final_control host from token ssrc
final_step host room Rtp from (Invite token ssrc name) now = final_data host room from token ssrc
final_step host room port from (Accept token ssrc name) now = tt
final_step host room port from (Reject token ssrc name) now = tt
final_step host room port from (Bye token ssrc) now = final_gone host (peer_of ssrc host.peers)
final_step host room Ctl from (Clock ssrc count times) now = tt
final_step host room Rtp from (Clock ssrc count times) now = final_joined host (peer_of ssrc host.peers) (counted host count times now) (final_counted host count times now)
final_step host room port from (Feedback ssrc seq) now = final_joined host (peer_of ssrc host.peers) (silent (Ack ssrc seq) host.peers) tt
final_step host room port from RateLimit now = tt

weaker : (o : Option Message) (P Q : Message → Type 0) → ((m : Message) → P m → Q m) → IfSome o P → IfSome o Q
weaker None P Q f h = tt
weaker (Some m) P Q f h = f m h

pub replies_are_final : RepliesAreFinal
replies_are_final host room port from message now =
    weaker (step host room port from message now).answer.reply IsFinal
    (λ reply. (other : Host) (room' : Bool) (port' : PortKind) (from' : Addr) (now' : ℕ) → (step other room' port' from' reply now').answer.reply ≡ None)
    (λ reply final other room' port' from' now'. unanswered other room' port' from' reply now' final)
    (final_step host room port from message now)

-- ---- offsets

pub offsets_round_down : OffsetsRoundDown
offsets_round_down first second third = record { not_over = omega (arith, ints); next_is_over = omega (arith, ints) }
