-- Which calls open an invitation.
use Rattle.std.specs.Prelude.{◌≡◌, ℕ, List, ◌∷◌, ◌++◌, fold, All, ⊤}
use Rattle.jm_edge.specs.declared.Addr.{Addr}
use Rattle.apple_msg.specs.declared.message.Message.{Message}
use Rattle.apple_msg.specs.declared.message.Message.TheVariants.{Invite, Accept, Reject, Bye, Clock, Feedback, RateLimit}
use Rattle.apple_session.specs.declared.answer.PortKind.TheVariants.{Ctl, Rtp}
use Rattle.apple_invite.specs.Caller.{Caller, address_of}
use Rattle.apple_invite.specs.Machine.{Call, ticks, hears, reports, closes, step}

abbrev pub after_call : Caller → Call → Caller
after_call caller call = (step caller call).caller

-- the inviter after these calls, the first of them first
abbrev pub after : Caller → List Call → Caller
after caller calls = fold after_call caller calls

-- the host's control port said OK with this token, by this SSRC
pub record WasTaken (to : Addr) (token host : ℕ) (calls : List Call) : Type 0 where
  pub earlier : List Call
  pub later : List Call
  pub name : List ℕ
  pub now : ℕ
  pub parts : calls ≡ earlier ++ (hears Ctl (address_of to Ctl) (Accept token host name) now ∷ later)

-- a bye of this SSRC
abbrev pub IsBye : (host : ℕ) → Message → Type 0
IsBye host (Bye token ssrc) = ssrc ≡ host
IsBye host (Invite token ssrc name) = ⊥
IsBye host (Accept token ssrc name) = ⊥
IsBye host (Reject token ssrc name) = ⊥
IsBye host (Clock ssrc count times) = ⊥
IsBye host (Feedback ssrc seq) = ⊥
IsBye host RateLimit = ⊥

-- the host said bye from its address of the port, or it was closed here
abbrev pub Ends : Addr → (host : ℕ) → Call → Type 0
Ends to host (hears port from message now) = (from ≡ address_of to port) × IsBye host message
Ends to host closes = ⊤
Ends to host (ticks now) = ⊥
Ends to host (reports seq) = ⊥

-- Behind the OK of the control port the data port said OK with this token, by the same SSRC, and no end came since.
pub record WasOpened (to : Addr) (token host : ℕ) (calls : List Call) : Type 0 where
  pub earlier : List Call
  pub later : List Call
  pub name : List ℕ
  pub now : ℕ
  pub parts : calls ≡ earlier ++ (hears Rtp (address_of to Rtp) (Accept token host name) now ∷ later)
  pub taken : WasTaken to token host earlier
  pub since : All (λ call. Ends to host call → ⊥) later
