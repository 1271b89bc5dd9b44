-- The list of peers, in the order of their first invitations.
use Rattle.std.specs.Prelude.{◌≢◌, ℕ, ◌≤◌, Bool, not, List, [], ◌∷◌, length, map, filter, find, Option, is_some, ◌==◌, if◌then◌else◌}
use Rattle.apple_session.specs.declared.peer.Peer.{Peer}

abbrev pub is_from : (ssrc : ℕ) → Peer → Bool
is_from ssrc peer = peer.ssrc == ssrc

abbrev pub is_joined : Peer → Bool
is_joined peer = is_some peer.data

-- only invited
abbrev pub is_waiting : Peer → Bool
is_waiting peer = not (is_some peer.data)

abbrev pub peer_of : (ssrc : ℕ) → List Peer → Option Peer
peer_of ssrc peers = find (is_from ssrc) peers

abbrev pub without : (ssrc : ℕ) → List Peer → List Peer
without ssrc peers = filter (λ peer. not (is_from ssrc peer)) peers

-- this peer in the place of the one with its SSRC
abbrev pub replaced : Peer → List Peer → List Peer
replaced peer peers = map (λ other. if is_from peer.ssrc other then peer else other) peers

-- no peer has this SSRC
abbrev pub Absent : (ssrc : ℕ) → List Peer → Type 0
Absent ssrc [] = Unit {0}
Absent ssrc (peer ∷ peers) = (peer.ssrc ≢ ssrc) × Absent ssrc peers

-- no two peers have one SSRC
abbrev pub AreDistinct : List Peer → Type 0
AreDistinct [] = Unit {0}
AreDistinct (peer ∷ peers) = Absent peer.ssrc peers × AreDistinct peers

-- what holds of the peers of a host at any time
pub record IsOrderly (host : ℕ) (peers : List Peer) : Type 0 where
  pub few : length peers ≤ 32
  pub distinct : AreDistinct peers
  pub strangers : Absent host peers
