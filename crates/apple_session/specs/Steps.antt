-- What each message leaves of the list of peers.
use Rattle.std.proofs.Common.{◌≡◌, ◌≢◌, ℕ, Bool, true, false, cond, eqb, List, [], ◌∷◌, ◌++◌, Option, Some, None, refl}
use Rattle.std.specs.Prelude.{slice_index}
use Rattle.std.proofs.lemmas.Bool.{eqb-true, eqb-false}
use Rattle.jm_edge.specs.declared.Addr.{Addr}
use Rattle.apple_msg.specs.declared.message.Message.{Message}
use Rattle.apple_msg.specs.declared.message.Message.TheVariants.{Invite, Accept, Reject, Bye, Clock, Feedback, RateLimit}
use Rattle.apple_session.specs.declared.peer.Peer.{Peer}
use Rattle.apple_session.specs.declared.answer.PortKind.{PortKind}
use Rattle.apple_session.specs.declared.answer.PortKind.TheVariants.{Ctl, Rtp}
use Rattle.apple_session.specs.Host.{Host}
use Rattle.apple_session.specs.Peers.{is_joined, peer_of, without, replaced}
use Rattle.apple_session.specs.declared.answer.Act.{Act}
use Rattle.apple_session.specs.declared.answer.Act.TheVariants.{Plain, Join, Leave, Ack, Clocked, Ignored}
use Rattle.apple_session.specs.declared.answer.Why.TheVariants.{Unknown, NotJoined, WrongPort, NotUsed}
use Rattle.apple_session.specs.Machine.{Outcome, accepted, rejected, replied, ends, offset, with_room, newly_invited, invited, on_control, joining, called, on_data, gone, of_joined, silent, counted, step}

-- the peer that an invitation on the control port would make
abbrev pub guest_of : Addr → (token ssrc : ℕ) → Peer
guest_of from token ssrc = record { ssrc = ssrc; token = token; control = from; «data» = None }

abbrev pub joined_at : Addr → Peer → Peer
joined_at from peer = record peer { «data» = Some from }

-- an act by which nobody joins or leaves
abbrev pub IsQuiet : Act → Type 0
IsQuiet (Join ssrc) = ⊥
IsQuiet (Leave ssrc) = ⊥
IsQuiet Plain = Unit {0}
IsQuiet (Ack ssrc seq) = Unit {0}
IsQuiet (Clocked difference) = Unit {0}
IsQuiet (Ignored why) = Unit {0}

-- what has to hold of each act with the list that it comes with
pub record StepCases (Q : Act → List Peer → Type 0) (host : Host) (room : Bool) (port : PortKind) (from : Addr) (message : Message) : Type 0 where
  pub same : (act : Act) → IsQuiet act → Q act host.peers
  -- a first invitation
  pub guest : (token ssrc : ℕ) (name : List ℕ) (others : List Peer) → port ≡ Ctl → message ≡ Invite token ssrc name → ssrc ≢ host.ssrc → peer_of ssrc host.peers ≡ None → with_room host.peers ≡ Some others
      → Q Plain (others ++ guest_of from token ssrc ∷ [])
  -- one with another token
  pub again : (token ssrc : ℕ) (name : List ℕ) (old : Peer) → port ≡ Ctl → message ≡ Invite token ssrc name → peer_of ssrc host.peers ≡ Some old
      → Q (ends old) (replaced (guest_of from token ssrc) host.peers)
  pub join : (token ssrc : ℕ) (name : List ℕ) (peer : Peer) → port ≡ Rtp → room ≡ true → message ≡ Invite token ssrc name → peer_of ssrc host.peers ≡ Some peer → peer.token ≡ token → is_joined peer ≡ false
      → Q (Join peer.ssrc) (replaced (joined_at from peer) host.peers)
  pub bye : (token ssrc : ℕ) (peer : Peer) → message ≡ Bye token ssrc → peer_of ssrc host.peers ≡ Some peer → Q (ends peer) (without peer.ssrc host.peers)

-- the act of an outcome with its list
abbrev pub Both : (Act → List Peer → Type 0) → Outcome → Type 0
Both Q outcome = Q outcome.answer.act outcome.peers

control_by : (Q : Act → List Peer → Type 0) (host : Host) (room : Bool) (from : Addr) (token ssrc : ℕ) (name : List ℕ) → StepCases Q host room Ctl from (Invite token ssrc name) → Both Q (on_control host from token ssrc)
control_by Q host room from token ssrc name c =
    elim (eqb ssrc host.ssrc) as (λ (b : Bool). eqb ssrc host.ssrc ≡ b → Both Q (cond b (rejected host token) (invited host (guest_of from token ssrc) (peer_of ssrc host.peers)))) [
      | true ↦ λ own. c.same Plain tt
      | false ↦ λ own. elim (peer_of ssrc host.peers) as (λ (o : Option Peer). peer_of ssrc host.peers ≡ o → Both Q (invited host (guest_of from token ssrc) o)) [
        | None ↦ λ none. elim (with_room host.peers) as (λ (r : Option (List Peer)). with_room host.peers ≡ r → Both Q (newly_invited host (guest_of from token ssrc) r)) [
          | None ↦ λ full. c.same Plain tt
          | Some others ↦ λ made. c.guest token ssrc name others refl refl (eqb-false ssrc host.ssrc own) none made
        ] refl
        | Some old ↦ λ some. elim (eqb old.token token) as (λ (b : Bool). Both Q (cond b (accepted host token Plain host.peers) (accepted host token (ends old) (replaced (guest_of from token ssrc) host.peers)))) [
          | true ↦ c.same Plain tt
          | false ↦ c.again token ssrc name old refl refl some
        ]
      ] refl
    ] refl

data_by : (Q : Act → List Peer → Type 0) (host : Host) (room : Bool) (from : Addr) (token ssrc : ℕ) (name : List ℕ) → StepCases Q host room Rtp from (Invite token ssrc name) → Both Q (on_data host room from token ssrc)
data_by Q host room from token ssrc name c =
    elim (peer_of ssrc host.peers) as (λ (o : Option Peer). peer_of ssrc host.peers ≡ o → Both Q (called host room from token o)) [
      | None ↦ λ none. c.same Plain tt
      | Some peer ↦ λ some. elim (eqb peer.token token) as (λ (b : Bool). eqb peer.token token ≡ b → Both Q (cond b (joining host room from peer) (rejected host token))) [
        | false ↦ λ other. c.same Plain tt
        | true ↦ λ own. elim (is_joined peer) as (λ (b : Bool). is_joined peer ≡ b → Both Q (cond b (accepted host peer.token Plain host.peers) (cond room (accepted host peer.token (Join peer.ssrc) (replaced (joined_at from peer) host.peers)) (rejected host peer.token)))) [
          | true ↦ λ already. c.same Plain tt
          | false ↦ λ waits. elim room as (λ (b : Bool). room ≡ b → Both Q (cond b (accepted host peer.token (Join peer.ssrc) (replaced (joined_at from peer) host.peers)) (rejected host peer.token))) [
            | true ↦ λ open_. c.join token ssrc name peer refl open_ refl some (eqb-true peer.token token own) waits
            | false ↦ λ full. c.same Plain tt
          ] refl
        ] refl
      ] refl
    ] refl

joined_by : (Q : Act → List Peer → Type 0) (host : Host) (o : Option Peer) (outcome : Outcome) → ((act : Act) → IsQuiet act → Q act host.peers) → Both Q outcome → Both Q (of_joined host o outcome)
joined_by Q host None outcome same h = same (Ignored Unknown) tt
joined_by Q host (Some peer) outcome same h =
    elim (is_joined peer) as (λ (b : Bool). Both Q (cond b outcome (silent (Ignored NotJoined) host.peers))) [
      | true ↦ h
      | false ↦ same (Ignored NotJoined) tt
    ]

counted_by : (Q : Act → List Peer → Type 0) (host : Host) (count : ℕ) (times : List ℕ) (now : ℕ) → ((act : Act) → IsQuiet act → Q act host.peers) → Both Q (counted host count times now)
counted_by Q host count times now same =
    elim (eqb count 0) as (λ (b : Bool). Both Q (cond b (replied (Clock host.ssrc 1 (slice_index times 0 ∷ now ∷ 0 ∷ [])) Plain host.peers) (cond (eqb count 2) (silent (Clocked (offset times)) host.peers) (silent (Ignored NotUsed) host.peers)))) [
      | true ↦ same Plain tt
      | false ↦ elim (eqb count 2) as (λ (b : Bool). Both Q (cond b (silent (Clocked (offset times)) host.peers) (silent (Ignored NotUsed) host.peers))) [
        | true ↦ same (Clocked (offset times)) tt
        | false ↦ same (Ignored NotUsed) tt
      ]
    ]

-- what holds of each act with its list holds of the act and the list of a step
pub step_by : (Q : Act → List Peer → Type 0) (host : Host) (room : Bool) (port : PortKind) (from : Addr) (message : Message) (now : ℕ) → StepCases Q host room port from message → Both Q (step host room port from message now)
unfolding step
step_by Q host room Ctl from (Invite token ssrc name) now c = control_by Q host room from token ssrc name c
step_by Q host room Rtp from (Invite token ssrc name) now c = data_by Q host room from token ssrc name c
step_by Q host room port from (Accept token ssrc name) now c = c.same (Ignored NotUsed) tt
step_by Q host room port from (Reject token ssrc name) now c = c.same (Ignored NotUsed) tt
step_by Q host room port from (Bye token ssrc) now c =
    elim (peer_of ssrc host.peers) as (λ (o : Option Peer). peer_of ssrc host.peers ≡ o → Both Q (gone host o)) [
      | None ↦ λ none. c.same (Ignored Unknown) tt
      | Some peer ↦ λ some. c.bye token ssrc peer refl some
    ] refl
step_by Q host room Ctl from (Clock ssrc count times) now c = c.same (Ignored WrongPort) tt
step_by Q host room Rtp from (Clock ssrc count times) now c = joined_by Q host (peer_of ssrc host.peers) (counted host count times now) c.same (counted_by Q host count times now c.same)
step_by Q host room port from (Feedback ssrc seq) now c = joined_by Q host (peer_of ssrc host.peers) (silent (Ack ssrc seq) host.peers) c.same (c.same (Ack ssrc seq) tt)
step_by Q host room port from RateLimit now c = c.same (Ignored NotUsed) tt

-- the same of the list alone
pub record LeftCases (Q : List Peer → Type 0) (host : Host) (room : Bool) (port : PortKind) (from : Addr) (message : Message) : Type 0 where
  pub same : Q host.peers
  pub guest : (token ssrc : ℕ) (name : List ℕ) (others : List Peer) → port ≡ Ctl → message ≡ Invite token ssrc name → ssrc ≢ host.ssrc → peer_of ssrc host.peers ≡ None → with_room host.peers ≡ Some others
      → Q (others ++ guest_of from token ssrc ∷ [])
  pub again : (token ssrc : ℕ) (name : List ℕ) (old : Peer) → port ≡ Ctl → message ≡ Invite token ssrc name → peer_of ssrc host.peers ≡ Some old
      → Q (replaced (guest_of from token ssrc) host.peers)
  pub join : (token ssrc : ℕ) (name : List ℕ) (peer : Peer) → port ≡ Rtp → room ≡ true → message ≡ Invite token ssrc name → peer_of ssrc host.peers ≡ Some peer → peer.token ≡ token
      → Q (replaced (joined_at from peer) host.peers)
  pub bye : (token ssrc : ℕ) (peer : Peer) → message ≡ Bye token ssrc → peer_of ssrc host.peers ≡ Some peer → Q (without peer.ssrc host.peers)

pub left_by : (Q : List Peer → Type 0) (host : Host) (room : Bool) (port : PortKind) (from : Addr) (message : Message) (now : ℕ) → LeftCases Q host room port from message → Q (step host room port from message now).peers
left_by Q host room port from message now c =
    step_by (λ (act : Act) (peers : List Peer). Q peers) host room port from message now (record {
      same = λ act quiet. c.same;
      guest = c.guest;
      again = c.again;
      join = λ token ssrc name peer p r m some t waits. c.join token ssrc name peer p r m some t;
      bye = c.bye;
    })
