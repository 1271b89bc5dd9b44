-- What an inviter is seen as.
use Rattle.std.specs.Prelude.{ℕ, ◌+◌, List}
use Rattle.jm_edge.specs.declared.Addr.{Addr}
use Rattle.apple_session.specs.declared.answer.PortKind.{PortKind}
use Rattle.apple_session.specs.declared.answer.PortKind.TheVariants.{Ctl, Rtp}
use Rattle.apple_invite.specs.declared.dialed.Phase.{Phase}
use Rattle.apple_invite.specs.declared.dialed.Phase.TheVariants as phase
use Rattle.apple_invite.specs.declared.stage.Stage.{Stage}
use Rattle.apple_invite.specs.declared.stage.Stage.TheVariants.{Fresh, AskCtl, AskRtp, Open, Closed}

-- its own SSRC, token and name, the address of the host's control port, and how far the invitation has come
pub record Caller : Type 0 where
  pub ssrc : ℕ
  pub token : ℕ
  pub name : List ℕ
  pub to : Addr
  pub stage : Stage

abbrev pub fresh : (ssrc token : ℕ) (name : List ℕ) → Addr → Caller
fresh ssrc token name to = record { ssrc = ssrc; token = token; name = name; to = to; stage = Fresh }

-- the host's address of a port: the data port is the one behind the control port
abbrev pub address_of : Addr → PortKind → Addr
address_of to Ctl = to
address_of to Rtp = record { host = to.host; port = to.port + 1 }

abbrev pub phase_of : Stage → Phase
phase_of Fresh = phase.Fresh
phase_of (AskCtl tries due) = phase.AskCtl
phase_of (AskRtp host tries due) = phase.AskRtp
phase_of (Open host due asked) = phase.Open
phase_of (Closed cause) = phase.Closed cause
