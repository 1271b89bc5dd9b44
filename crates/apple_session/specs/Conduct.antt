-- What holds of the machine, in the words of those who use it.
use Rattle.std.specs.Prelude.{◌≡◌, ◌≢◌, ℕ, ◌+◌, ◌*◌, ◌≤◌, ℤ, pos, ◌+ℤ◌, ◌-ℤ◌, ◌≤ℤ◌, ◌<ℤ◌, ◌⊎◌, Bool, true, false, List, [], ◌∷◌, ◌++◌, length, map, filter, fold, find, All, Option, Some, None, IfSome}
use Rattle.jm_edge.specs.declared.Addr.{Addr}
use Rattle.apple_msg.specs.declared.message.Message.{Message}
use Rattle.apple_msg.specs.declared.message.Message.TheVariants.{Invite, Accept, Reject, Bye, Clock, Feedback, RateLimit}
use Rattle.apple_session.specs.declared.peer.Peer.{Peer}
use Rattle.apple_session.specs.declared.answer.Act.{Act}
use Rattle.apple_session.specs.declared.answer.Act.TheVariants.{Join, Leave}
use Rattle.apple_session.specs.declared.answer.PortKind.{PortKind}
use Rattle.apple_session.specs.declared.answer.PortKind.TheVariants.{Ctl, Rtp}
use Rattle.apple_session.specs.Host.{Host}
use Rattle.apple_session.specs.Peers.{is_joined, is_waiting, peer_of, without, IsOrderly}
use Rattle.apple_session.specs.Machine.{step, offset}

-- ---- runs of the machine

-- a call: a message with all that came with it, or a peer that the host dropped
pub data Call : Type 0 where
  heard : Bool → PortKind → Addr → Message → ℕ → Call
  dropped : ℕ → Call

-- the peers after a call
abbrev pub after_call : (ssrc : ℕ) (name : List ℕ) → List Peer → Call → List Peer
after_call ssrc name peers (heard room port from message now) = (step (record { ssrc = ssrc; name = name; peers = peers }) room port from message now).peers
after_call ssrc name peers (dropped other) = without other peers

-- the peers of a host with this SSRC and name after these calls, the first of them first
abbrev pub peers_after : (ssrc : ℕ) (name : List ℕ) → List Call → List Peer
peers_after ssrc name calls = fold (after_call ssrc name) [] calls

-- ---- at any time there are at most 32 peers, no two of one SSRC, and none of the host's

abbrev pub PeersStayOrderly : Type 0
PeersStayOrderly = (ssrc : ℕ) (name : List ℕ) (calls : List Call) → IsOrderly ssrc (peers_after ssrc name calls)

-- ---- a joined peer was invited on the control port, and then on the data port, with one token

pub record WasInvited (calls : List Call) (peer : Peer) : Type 0 where
  pub earlier : List Call
  pub later : List Call
  pub room : Bool
  pub name : List ℕ
  pub now : ℕ
  pub parts : calls ≡ earlier ++ (heard room Ctl peer.control (Invite peer.token peer.ssrc name) now ∷ later)

pub record WasJoined (calls : List Call) (peer : Peer) (from : Addr) : Type 0 where
  pub earlier : List Call
  pub later : List Call
  pub name : List ℕ
  pub now : ℕ
  pub parts : calls ≡ earlier ++ (heard true Rtp from (Invite peer.token peer.ssrc name) now ∷ later)
  pub invited : WasInvited earlier peer

pub record CameByInvitation (calls : List Call) (peer : Peer) : Type 0 where
  pub invited : WasInvited calls peer
  pub joined : (from : Addr) → peer.data ≡ Some from → WasJoined calls peer from

abbrev pub PeersCameByInvitation : Type 0
PeersCameByInvitation = (ssrc : ℕ) (name : List ℕ) (calls : List Call) → All (CameByInvitation calls) (peers_after ssrc name calls)

-- ---- no message of one SSRC changes another peer, but for the one that gives way

-- the SSRC that a message names
abbrev pub ssrc_of : Message → Option ℕ
ssrc_of (Invite token ssrc name) = Some ssrc
ssrc_of (Accept token ssrc name) = Some ssrc
ssrc_of (Reject token ssrc name) = Some ssrc
ssrc_of (Bye token ssrc) = Some ssrc
ssrc_of (Clock ssrc count times) = Some ssrc
ssrc_of (Feedback ssrc seq) = Some ssrc
ssrc_of RateLimit = None

-- the list was full, and this peer was the first that was only invited
pub record GaveWay (host : Host) (port : PortKind) (message : Message) (other : ℕ) (peers : List Peer) : Type 0 where
  pub waiting : Peer
  pub first : find is_waiting host.peers ≡ Some waiting
  pub its_ssrc : waiting.ssrc ≡ other
  pub full : 32 ≤ length host.peers
  pub on_control : port ≡ Ctl
  pub token : ℕ
  pub guest : ℕ
  pub name : List ℕ
  pub invited : message ≡ Invite token guest name
  pub unknown : peer_of guest host.peers ≡ None
  pub gone : peer_of other peers ≡ None

abbrev pub OthersStay : Type 0
OthersStay = (host : Host) (room : Bool) (port : PortKind) (from : Addr) (message : Message) (now other : ℕ)
    → ssrc_of message ≢ Some other
    → (peer_of other (step host room port from message now).peers ≡ peer_of other host.peers)
    ⊎ GaveWay host port message other (step host room port from message now).peers

-- a joined peer never gives way
abbrev pub JoinedStay : Type 0
JoinedStay = (host : Host) (room : Bool) (port : PortKind) (from : Addr) (message : Message) (now : ℕ) (peer : Peer)
    → IsOrderly host.ssrc host.peers → ssrc_of message ≢ Some peer.ssrc
    → peer_of peer.ssrc host.peers ≡ Some peer → is_joined peer ≡ true
    → peer_of peer.ssrc (step host room port from message now).peers ≡ Some peer

-- ---- the order of first invitations

-- some of the old ones in their order, and at most one new one behind them
pub record KeepsOrder (old new : List ℕ) : Type 0 where
  pub keep : ℕ → Bool
  pub added : List ℕ
  pub at_most_one : length added ≤ 1
  pub parts : new ≡ filter keep old ++ added

abbrev pub ssrcs : List Peer → List ℕ
ssrcs peers = map (λ peer. peer.ssrc) peers

abbrev pub OrderStays : Type 0
OrderStays = (host : Host) (room : Bool) (port : PortKind) (from : Addr) (message : Message) (now : ℕ)
    → KeepsOrder (ssrcs host.peers) (ssrcs (step host room port from message now).peers)

-- ---- a reply is never replied to

abbrev pub RepliesAreFinal : Type 0
RepliesAreFinal = (host : Host) (room : Bool) (port : PortKind) (from : Addr) (message : Message) (now : ℕ)
    → IfSome (step host room port from message now).answer.reply (λ reply.
    (other : Host) (room' : Bool) (port' : PortKind) (from' : Addr) (now' : ℕ) → (step other room' port' from' reply now').answer.reply ≡ None)

-- ---- offsets

-- a whole number that, twice, isn't over the peer's two moments less twice the host's, and the greatest such
pub record IsRoundedDown (first second third : ℕ) (o : ℤ) : Type 0 where
  pub not_over : (o +ℤ o) ≤ℤ (pos (first + third) -ℤ pos (2 * second))
  pub next_is_over : (pos (first + third) -ℤ pos (2 * second)) <ℤ ((o +ℤ o) +ℤ pos 2)

abbrev pub OffsetsRoundDown : Type 0
OffsetsRoundDown = (first second third : ℕ) → IsRoundedDown first second third (offset (first ∷ second ∷ third ∷ []))

-- ---- the acts tell who takes part

abbrev pub is_joined_one : Option Peer → Bool
is_joined_one (Some peer) = is_joined peer
is_joined_one None = false

abbrev pub takes_part : (ssrc : ℕ) → List Peer → Bool
takes_part ssrc peers = is_joined_one (peer_of ssrc peers)

-- a peer takes part from its Join to its Leave
pub record Tells (ssrc : ℕ) (act : Act) (old new : List Peer) : Type 0 where
  pub joins : act ≡ Join ssrc → (takes_part ssrc old ≡ false) × (takes_part ssrc new ≡ true)
  pub leaves : act ≡ Leave ssrc → (takes_part ssrc old ≡ true) × (takes_part ssrc new ≡ false)
  pub neither : act ≢ Join ssrc → act ≢ Leave ssrc → takes_part ssrc new ≡ takes_part ssrc old

abbrev pub ActsTell : Type 0
ActsTell = (host : Host) (room : Bool) (port : PortKind) (from : Addr) (message : Message) (now ssrc : ℕ)
    → IsOrderly host.ssrc host.peers
    → Tells ssrc (step host room port from message now).answer.act host.peers (step host room port from message now).peers
