-- What a session is seen as.
use Rattle.std.specs.Prelude.{ℕ, List}
use Rattle.apple_session.specs.declared.peer.Peer.{Peer}

-- the host's SSRC and name, and its peers in the order of their first invitations
pub record Host : Type 0 where
  pub ssrc : ℕ
  pub name : List ℕ
  pub peers : List Peer
