-- What a host answers to a message, and its peers after it.
use Rattle.std.specs.Prelude.{◌≡◌, ℕ, ◌+◌, ◌/◌, ℤ, pos, ◌-ℤ◌, Bool, List, [], ◌∷◌, ◌++◌, length, find, slice_index, Option, Some, None, option_map, nat_lt, ◌==◌, if◌then◌else◌}
use Rattle.jm_edge.specs.declared.Addr.{Addr}
use Rattle.apple_msg.specs.declared.message.Message.{Message}
use Rattle.apple_msg.specs.declared.message.Message.TheVariants.{Invite, Accept, Reject, Bye, Clock, Feedback, RateLimit}
use Rattle.apple_session.specs.declared.peer.Peer.{Peer}
use Rattle.apple_session.specs.declared.answer.Answer.{Answer}
use Rattle.apple_session.specs.declared.answer.Act.{Act}
use Rattle.apple_session.specs.declared.answer.Act.TheVariants.{Plain, Join, Leave, Ack, Clocked, Ignored}
use Rattle.apple_session.specs.declared.answer.Why.TheVariants.{Unknown, NotJoined, WrongPort, NotUsed}
use Rattle.apple_session.specs.declared.answer.PortKind.{PortKind}
use Rattle.apple_session.specs.declared.answer.PortKind.TheVariants.{Ctl, Rtp}
use Rattle.apple_session.specs.Host.{Host}
use Rattle.apple_session.specs.Peers.{is_joined, is_waiting, peer_of, without, replaced}

-- the answer to a message, and the peers after it
pub record Outcome : Type 0 where
  pub answer : Answer
  pub peers : List Peer

-- ---- the kinds of answer

abbrev pub silent : Act → List Peer → Outcome
silent act peers = record { answer = record { reply = None; act = act }; peers = peers }

abbrev pub replied : Message → Act → List Peer → Outcome
replied reply act peers = record { answer = record { reply = Some reply; act = act }; peers = peers }

-- OK and NO carry the token of the invitation, and the host's own SSRC and name
abbrev pub accepted : Host → (token : ℕ) → Act → List Peer → Outcome
accepted host token act peers = replied (Accept token host.ssrc host.name) act peers

abbrev pub rejected : Host → (token : ℕ) → Outcome
rejected host token = replied (Reject token host.ssrc host.name) Plain host.peers

-- what the end of a peer comes to
abbrev pub ends : Peer → Act
ends peer = if is_joined peer then Leave peer.ssrc else Plain

-- ---- an invitation on the control port

-- the peers with room for one more: where 32 are there, the first that is only invited gives way
abbrev pub with_room : List Peer → Option (List Peer)
with_room peers = if nat_lt (length peers) 32 then Some peers else option_map (λ waiting. without waiting.ssrc peers) (find is_waiting peers)

abbrev pub newly_invited : Host → Peer → Option (List Peer) → Outcome
newly_invited host peer (Some others) = accepted host peer.token Plain (others ++ peer ∷ [])
newly_invited host peer None = rejected host peer.token

-- one that is there already; another token begins anew
abbrev pub invited_again : Host → (peer old : Peer) → Outcome
invited_again host peer old =
    if old.token == peer.token then accepted host peer.token Plain host.peers
    else accepted host peer.token (ends old) (replaced peer host.peers)

abbrev pub invited : Host → Peer → Option Peer → Outcome
invited host peer (Some old) = invited_again host peer old
invited host peer None = newly_invited host peer (with_room host.peers)

abbrev pub on_control : Host → Addr → (token ssrc : ℕ) → Outcome
on_control host from token ssrc =
    if ssrc == host.ssrc then rejected host token
    else invited host (record { ssrc = ssrc; token = token; control = from; «data» = None }) (peer_of ssrc host.peers)

-- ---- an invitation on the data port

abbrev pub joining : Host → (room : Bool) → Addr → Peer → Outcome
joining host room from peer =
    if is_joined peer then accepted host peer.token Plain host.peers
    else (if room then accepted host peer.token (Join peer.ssrc) (replaced (record peer { «data» = Some from }) host.peers)
    else rejected host peer.token)

abbrev pub called : Host → (room : Bool) → Addr → (token : ℕ) → Option Peer → Outcome
called host room from token (Some peer) = if peer.token == token then joining host room from peer else rejected host token
called host room from token None = rejected host token

abbrev pub on_data : Host → (room : Bool) → Addr → (token ssrc : ℕ) → Outcome
on_data host room from token ssrc = called host room from token (peer_of ssrc host.peers)

abbrev pub on_invite : Host → (room : Bool) → PortKind → Addr → (token ssrc : ℕ) → Outcome
on_invite host room Ctl from token ssrc = on_control host from token ssrc
on_invite host room Rtp from token ssrc = on_data host room from token ssrc

-- ---- the other messages

abbrev pub gone : Host → Option Peer → Outcome
gone host (Some peer) = silent (ends peer) (without peer.ssrc host.peers)
gone host None = silent (Ignored Unknown) host.peers

-- only a joined peer is heard
abbrev pub of_joined : Host → Option Peer → Outcome → Outcome
of_joined host (Some peer) outcome = if is_joined peer then outcome else silent (Ignored NotJoined) host.peers
of_joined host None outcome = silent (Ignored Unknown) host.peers

-- the middle of the peer's two moments, rounded down, less the host's
abbrev pub offset : List ℕ → ℤ
offset times = pos ((slice_index times 0 + slice_index times 2) / 2) -ℤ pos (slice_index times 1)

abbrev pub counted : Host → (count : ℕ) (times : List ℕ) (now : ℕ) → Outcome
counted host count times now =
    if count == 0 then replied (Clock host.ssrc 1 (slice_index times 0 ∷ now ∷ 0 ∷ [])) Plain host.peers
    else (if count == 2 then silent (Clocked (offset times)) host.peers
    else silent (Ignored NotUsed) host.peers)

abbrev pub on_clock : Host → PortKind → (ssrc count : ℕ) (times : List ℕ) (now : ℕ) → Outcome
on_clock host Ctl ssrc count times now = silent (Ignored WrongPort) host.peers
on_clock host Rtp ssrc count times now = of_joined host (peer_of ssrc host.peers) (counted host count times now)

-- ---- any message

unfoldable pub step : Host → (room : Bool) → PortKind → Addr → Message → (now : ℕ) → Outcome
step host room port from (Invite token ssrc name) now = on_invite host room port from token ssrc
step host room port from (Accept token ssrc name) now = silent (Ignored NotUsed) host.peers
step host room port from (Reject token ssrc name) now = silent (Ignored NotUsed) host.peers
step host room port from (Bye token ssrc) now = gone host (peer_of ssrc host.peers)
step host room port from (Clock ssrc count times) now = on_clock host port ssrc count times now
step host room port from (Feedback ssrc seq) now = of_joined host (peer_of ssrc host.peers) (silent (Ack ssrc seq) host.peers)
step host room port from RateLimit now = silent (Ignored NotUsed) host.peers

-- what a call returned and left is this outcome
pub record Gives (old new : Host) (answer : Answer) (outcome : Outcome) : Type 0 where
  pub answer_is : answer ≡ outcome.answer
  pub host_is : new ≡ record old { peers = outcome.peers }
