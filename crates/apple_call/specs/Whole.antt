-- A whole call: some turns, and then the inviter is closed.
use Rattle.std.specs.Prelude.{◌≡◌, ℕ, ◌<◌, List, [], ◌∷◌, ◌++◌, length, Option}
use Rattle.jm_edge.specs.declared.Addr.{Addr}
use Rattle.jm_edge.specs.Faults.{Rose}
use Rattle.jm_edge.specs.Wire.{Letter, Wire}
use Rattle.apple_session.specs.declared.answer.PortKind.TheVariants.{Ctl, Rtp}
use Rattle.apple_invite.specs.Caller.{Caller, phase_of}
use Rattle.apple_invite.specs.Machine.{Call, ticks}
use Rattle.apple_invite.specs.declared.dialed.Phase.{Phase}
use Rattle.apple_invite.specs.Calls.{after}
use Rattle.apple_call.specs.declared.turns.TurnsEnd.{TurnsEnd}
use Rattle.apple_call.specs.declared.turns.TurnsEnd.TheVariants.{Made, ControlFailed, DataFailed}
use Rattle.apple_call.specs.Turns.{clocks_of, Turn, first_calls, calls_of, moments_of, control_givens, data_givens, Goes, closing}
use Rattle.jm_edge.specs.Moments.{Gave}

-- what a call goes through: two ports and a clock
pub record Outside : Type 0 where
  pub control : Wire
  pub rtp : Wire
  pub coming : Option (ℕ → ℕ)

-- the phase in which calls leave an inviter
abbrev pub phase_after : Caller → List Call → Phase
phase_after caller calls = phase_of (after caller calls).stage

-- some calls, and then the close where the invitation hasn't come to its end
abbrev pub then_closed : Caller → List Call → List Call
then_closed caller calls = calls ++ closing (phase_after caller calls)

-- These calls of turns left the inviter in this phase and compared the clocks so often. With the close behind them they went
-- through the ports, which gave this, and the clock gave these moments.
pub record Passes (calls : List Call) (control_gave data_gave : List (Option Letter)) (moments : List ℕ) (phase : Phase) (clocks : ℕ) (to : Addr) (caller : Caller) (old new : Outside) : Type 0 where
  pub phase_is : phase ≡ phase_after caller calls
  pub clocks_are : clocks ≡ clocks_of caller calls
  pub on_control : Goes Ctl to (then_closed caller calls) control_gave caller old.control new.control
  pub on_data : Goes Rtp to (then_closed caller calls) data_gave caller old.rtp new.rtp
  pub gave : Gave moments old.coming new.coming

-- all turns were made, and then the close
pub record EndsWhole (turns : ℕ) (phase : Phase) (clocks : ℕ) (to : Addr) (caller : Caller) (old new : Outside) : Type 0 where
  pub made : List Turn
  pub count : length made ≡ turns
  pub passes : Passes (calls_of made) (control_givens made) (data_givens made) (moments_of made) phase clocks to caller old new

-- these were, then the control port's receive failed, and then came the close
pub record EndsByControl (turns : ℕ) (phase : Phase) (clocks : ℕ) (to : Addr) (caller : Caller) (old new : Outside) : Type 0 where
  pub made : List Turn
  pub few : length made < turns
  pub now : ℕ
  pub passes : Passes (calls_of made ++ (ticks now ∷ [])) (control_givens made) (data_givens made) (moments_of made ++ (now ∷ [])) phase clocks to caller old new
  pub rose : Rose old.control.recv_faults new.control.recv_faults

-- these were, then the data port's receive failed, and then came the close
pub record EndsByData (turns : ℕ) (phase : Phase) (clocks : ℕ) (to : Addr) (caller : Caller) (old new : Outside) : Type 0 where
  pub made : List Turn
  pub few : length made < turns
  pub now : ℕ
  pub control : Option Letter
  pub passes : Passes (calls_of made ++ first_calls now control) (control_givens made ++ (control ∷ [])) (data_givens made) (moments_of made ++ (now ∷ [])) phase clocks to caller old new
  pub rose : Rose old.rtp.recv_faults new.rtp.recv_faults

abbrev pub CallEnds : TurnsEnd → (turns : ℕ) → Phase → (clocks : ℕ) → Addr → Caller → (old new : Outside) → Type 0
CallEnds Made turns phase clocks to caller old new = EndsWhole turns phase clocks to caller old new
CallEnds ControlFailed turns phase clocks to caller old new = EndsByControl turns phase clocks to caller old new
CallEnds DataFailed turns phase clocks to caller old new = EndsByData turns phase clocks to caller old new
