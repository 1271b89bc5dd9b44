-- What the answer to a message says of its sender, and where each peer stands in the list afterwards.
use Rattle.std.specs.Prelude.{◌≡◌, ℕ, ℤ, ◌⊎◌, Bool, true, false, List, [], ◌∷◌, ◌++◌, filter, Some, None}
use Rattle.jm_edge.specs.declared.Addr.{Addr}
use Rattle.apple_msg.specs.declared.message.Message.{Message}
use Rattle.apple_msg.specs.declared.message.Message.TheVariants.{Invite, Accept, Reject, Bye, Clock, Feedback}
use Rattle.apple_session.specs.declared.peer.Peer.{Peer}
use Rattle.apple_session.specs.declared.answer.Act.TheVariants.{Plain, Ack, Clocked}
use Rattle.apple_session.specs.declared.answer.PortKind.{PortKind}
use Rattle.apple_session.specs.declared.answer.PortKind.TheVariants.{Ctl, Rtp}
use Rattle.apple_session.specs.Host.{Host}
use Rattle.apple_session.specs.Peers.{is_joined, peer_of}
use Rattle.apple_session.specs.Machine.{Outcome, step, offset}
use Rattle.apple_session.specs.Conduct.{ssrcs, takes_part}

-- ---- the order of first invitations

-- some of the old peers, each at its place among them
pub record KeepsPlaces (old new : List Peer) : Type 0 where
  pub keep : ℕ → Bool
  pub places : ssrcs new ≡ filter keep (ssrcs old)

-- a peer that wasn't listed stands last, as its invitation on the control port makes it: only invited
pub record AddsGuest (port : PortKind) (from : Addr) (message : Message) (old new : List Peer) : Type 0 where
  pub guest : Peer
  pub others : List Peer
  pub parts : new ≡ others ++ guest ∷ []
  pub others_keep : KeepsPlaces old others
  pub on_control : port ≡ Ctl
  pub name : List ℕ
  pub invited : message ≡ Invite guest.token guest.ssrc name
  pub its_address : guest.control ≡ from
  pub unknown : peer_of guest.ssrc old ≡ None
  pub only_invited : is_joined guest ≡ false

abbrev pub OrderIsOfFirstInvitations : Type 0
OrderIsOfFirstInvitations = (host : Host) (room : Bool) (port : PortKind) (from : Addr) (message : Message) (now : ℕ)
    → KeepsPlaces host.peers (step host room port from message now).peers
    ⊎ AddsGuest port from message host.peers (step host room port from message now).peers

-- a peer that joins or is invited again keeps its place, and so do all others
abbrev pub InvitedKeepTheirPlaces : Type 0
InvitedKeepTheirPlaces = (host : Host) (room : Bool) (port : PortKind) (from : Addr) (token ssrc : ℕ) (name : List ℕ) (now : ℕ) (peer : Peer)
    → peer_of ssrc host.peers ≡ Some peer
    → ssrcs (step host room port from (Invite token ssrc name) now).peers ≡ ssrcs host.peers

-- ---- OK and NO

-- The host, by its own SSRC and name, answers an invitation with this token whose sender is then listed with it,
-- and on the data port is joined.
pub record IsTaken (host : Host) (port : PortKind) (message : Message) (token ssrc : ℕ) (name : List ℕ) (peers : List Peer) : Type 0 where
  pub guest : ℕ
  pub guest_name : List ℕ
  pub invited : message ≡ Invite token guest guest_name
  pub peer : Peer
  pub listed : peer_of guest peers ≡ Some peer
  pub its_token : peer.token ≡ token
  pub joined : port ≡ Rtp → is_joined peer ≡ true
  pub own_ssrc : ssrc ≡ host.ssrc
  pub own_name : name ≡ host.name

abbrev pub OkIsOfListed : Type 0
OkIsOfListed = (host : Host) (room : Bool) (port : PortKind) (from : Addr) (message : Message) (now token ssrc : ℕ) (name : List ℕ)
    → (step host room port from message now).answer.reply ≡ Some (Accept token ssrc name)
    → IsTaken host port message token ssrc name (step host room port from message now).peers

-- The host, by its own SSRC and name, answers an invitation with this token, and nothing else comes of it.
pub record IsRefused (host : Host) (message : Message) (token ssrc : ℕ) (name : List ℕ) (outcome : Outcome) : Type 0 where
  pub guest : ℕ
  pub guest_name : List ℕ
  pub invited : message ≡ Invite token guest guest_name
  pub plain : outcome.answer.act ≡ Plain
  pub same : outcome.peers ≡ host.peers
  pub own_ssrc : ssrc ≡ host.ssrc
  pub own_name : name ≡ host.name

abbrev pub NoChangesNothing : Type 0
NoChangesNothing = (host : Host) (room : Bool) (port : PortKind) (from : Addr) (message : Message) (now token ssrc : ℕ) (name : List ℕ)
    → (step host room port from message now).answer.reply ≡ Some (Reject token ssrc name)
    → IsRefused host message token ssrc name (step host room port from message now)

-- ---- the end of a peer

abbrev pub ByesEnd : Type 0
ByesEnd = (host : Host) (room : Bool) (port : PortKind) (from : Addr) (token ssrc now : ℕ)
    → peer_of ssrc (step host room port from (Bye token ssrc) now).peers ≡ None

-- ---- feedback and clocks

pub record IsFeedback (host : Host) (message : Message) (ssrc seq : ℕ) : Type 0 where
  pub its_number : message ≡ Feedback ssrc seq
  pub joined : takes_part ssrc host.peers ≡ true

abbrev pub AcksAreOfJoined : Type 0
AcksAreOfJoined = (host : Host) (room : Bool) (port : PortKind) (from : Addr) (message : Message) (now ssrc seq : ℕ)
    → (step host room port from message now).answer.act ≡ Ack ssrc seq
    → IsFeedback host message ssrc seq

-- the third message of a clock exchange
pub record IsThirdClock (host : Host) (port : PortKind) (message : Message) (difference : ℤ) : Type 0 where
  pub ssrc : ℕ
  pub times : List ℕ
  pub on_data : port ≡ Rtp
  pub third : message ≡ Clock ssrc 2 times
  pub joined : takes_part ssrc host.peers ≡ true
  pub difference_is : difference ≡ offset times

abbrev pub ClockedAreOfJoined : Type 0
ClockedAreOfJoined = (host : Host) (room : Bool) (port : PortKind) (from : Addr) (message : Message) (now : ℕ) (difference : ℤ)
    → (step host room port from message now).answer.act ≡ Clocked difference
    → IsThirdClock host port message difference
