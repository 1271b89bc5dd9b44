-- What holds of an inviter after any calls, and of an inviter and a host in any run.
use Rattle.std.specs.Prelude.{◌≡◌, ℕ, List, Option}
use Rattle.jm_edge.specs.declared.Addr.{Addr}
use Rattle.apple_session.specs.declared.answer.PortKind.{PortKind}
use Rattle.apple_session.specs.Host.{Host}
use Rattle.apple_invite.specs.declared.dialed.Phase.TheVariants as phase
use Rattle.apple_invite.specs.declared.stage.Stage.TheVariants as stage
use Rattle.apple_invite.specs.Caller.{fresh, phase_of}
use Rattle.apple_invite.specs.Machine.{Call}
use Rattle.apple_invite.specs.Calls.{after, WasOpened}
use Rattle.apple_invite.specs.World.{begins, Event, run, IsAllowed, WasHeld}

-- An invitation is open with a host only where its control port and then its data port said OK, and no end came since.
-- One that opened at the first OK, or at one of a stranger, another token or another SSRC, would not keep this.
abbrev pub OpenWasTakenTwice : Type 0
OpenWasTakenTwice = (ssrc token : ℕ) (name : List ℕ) (to : Addr) (calls : List Call) (host due : ℕ) (asked : Option ℕ)
    → (after (fresh ssrc token name to) calls).stage ≡ stage.Open host due asked
    → WasOpened to token host calls

-- Where an invitation is open, the host held the inviter as joined at an earlier moment of the run.
abbrev pub OpenWasHeld : Type 0
OpenWasHeld = (here : PortKind → Addr) (host : Host) (ssrc token : ℕ) (name : List ℕ) (to : Addr) (events : List Event)
    → IsAllowed here (begins host (fresh ssrc token name to)) events
    → phase_of (run here (begins host (fresh ssrc token name to)) events).caller.stage ≡ phase.Open
    → WasHeld here (begins host (fresh ssrc token name to)) events ssrc token

-- some run that may come leaves an invitation open, so the law above says something
pub record OpensSomewhere : Type 0 where
  pub here : PortKind → Addr
  pub host : Host
  pub ssrc : ℕ
  pub token : ℕ
  pub name : List ℕ
  pub to : Addr
  pub events : List Event
  pub allowed : IsAllowed here (begins host (fresh ssrc token name to)) events
  pub opens : phase_of (run here (begins host (fresh ssrc token name to)) events).caller.stage ≡ phase.Open
