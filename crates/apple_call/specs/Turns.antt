-- The turns of a call: each asks the clock once, tells the inviter, and receives once on each port, control first.
use Rattle.std.specs.Prelude.{◌≡◌, ℕ, ◌+◌, ◌<◌, List, [], ◌∷◌, ◌++◌, length, Option, Some, None}
use Rattle.std.specs.declared.result.Result.{Result}
use Rattle.std.specs.declared.result.Result.TheVariants.{Ok, Err}
use Rattle.jm_edge.specs.declared.Addr.{Addr}
use Rattle.jm_edge.specs.Wire.{Letter, Wire}
use Rattle.apple_msg.specs.declared.message.Message.{Message}
use Rattle.apple_msg.specs.declared.message.MsgFault.{MsgFault}
use Rattle.apple_msg.specs.Spelling.{text}
use Rattle.apple_msg.specs.Reading.{read}
use Rattle.apple_session.specs.declared.answer.PortKind.{PortKind}
use Rattle.apple_session.specs.declared.answer.PortKind.TheVariants.{Ctl, Rtp}
use Rattle.apple_invite.specs.declared.dialed.DialAct.{DialAct}
use Rattle.apple_invite.specs.declared.dialed.DialAct.TheVariants.{Plain, Opened, Ended, Clocked, Ignored}
use Rattle.apple_invite.specs.Caller.{Caller, address_of}
use Rattle.apple_invite.specs.Machine.{Call, ticks, hears, closes, step}
use Rattle.apple_invite.specs.declared.dialed.Phase.{Phase}
use Rattle.apple_invite.specs.declared.dialed.Phase.TheVariants as phase
use Rattle.apple_invite.specs.Calls.{after_call, after}
use Rattle.apple_call.specs.declared.turns.TurnsEnd.{TurnsEnd}
use Rattle.apple_call.specs.declared.turns.TurnsEnd.TheVariants.{Made, ControlFailed, DataFailed}
use Rattle.jm_edge.specs.Faults.{Rose}
use Rattle.jm_edge.specs.Exchange.{Sending, letters_in, Exchanges}
use Rattle.jm_edge.specs.Moments.{Gave}

-- ---- what the calls of an inviter send and compare

-- a message for a port, as the datagram that goes there
abbrev pub letters_on : PortKind → Addr → Option (PortKind × Message) → List Letter
letters_on Ctl to (Some (Ctl, message)) = record { addr = address_of to Ctl; octets = text message } ∷ []
letters_on Rtp to (Some (Rtp, message)) = record { addr = address_of to Rtp; octets = text message } ∷ []
letters_on Ctl to (Some (Rtp, message)) = []
letters_on Rtp to (Some (Ctl, message)) = []
letters_on port to None = []

-- all that calls give for a port, in order
abbrev pub letters_of : PortKind → Addr → Caller → List Call → List Letter
letters_of port to caller [] = []
letters_of port to caller (call ∷ calls) = letters_on port to (step caller call).dialed.send ++ letters_of port to (after_call caller call) calls

abbrev pub clocks_by : DialAct → ℕ
clocks_by (Clocked difference) = 1
clocks_by Plain = 0
clocks_by Opened = 0
clocks_by (Ended why) = 0
clocks_by Ignored = 0

-- how often the clocks were compared
abbrev pub clocks_of : Caller → List Call → ℕ
clocks_of caller [] = 0
clocks_of caller (call ∷ calls) = clocks_by (step caller call).dialed.act + clocks_of (after_call caller call) calls

-- ---- what a turn has to do with

-- what a datagram says, and where it came from
abbrev pub said : (from : Addr) → Result Message MsgFault → Option (Addr × Message)
said from (Ok message) = Some (from, message)
said from (Err fault) = None

abbrev pub message_of : Option Letter → Option (Addr × Message)
message_of (Some letter) = said letter.addr (read letter.octets)
message_of None = None

abbrev pub hearing : PortKind → Option (Addr × Message) → (now : ℕ) → List Call
hearing port (Some (from, message)) now = hears port from message now ∷ []
hearing port None now = []

-- the moment, and what each port gave
pub record Turn : Type 0 where
  pub now : ℕ
  pub control : Option Letter
  pub rtp : Option Letter

-- ---- the calls, the moments and what was received

abbrev pub first_calls : (now : ℕ) → (control : Option Letter) → List Call
first_calls now control = ticks now ∷ hearing Ctl (message_of control) now

abbrev pub turn_calls : Turn → List Call
turn_calls turn = first_calls turn.now turn.control ++ hearing Rtp (message_of turn.rtp) turn.now

abbrev pub calls_of : List Turn → List Call
calls_of [] = []
calls_of (turn ∷ turns) = turn_calls turn ++ calls_of turns

abbrev pub moments_of : List Turn → List ℕ
moments_of [] = []
moments_of (turn ∷ turns) = turn.now ∷ moments_of turns

abbrev pub control_givens : List Turn → List (Option Letter)
control_givens [] = []
control_givens (turn ∷ turns) = turn.control ∷ control_givens turns

abbrev pub data_givens : List Turn → List (Option Letter)
data_givens [] = []
data_givens (turn ∷ turns) = turn.rtp ∷ data_givens turns

-- ---- what was done

-- what one call gave for a port went through it
pub record Posts (port : PortKind) (to : Addr) (send : Option (PortKind × Message)) (old new : Wire) : Type 0 where
  pub sendings : List Sending
  pub given : letters_in sendings ≡ letters_on port to send
  pub exchanges : Exchanges [] sendings old new

-- what calls gave for a port went through it, with what it gave
pub record Goes (port : PortKind) (to : Addr) (calls : List Call) (givens : List (Option Letter)) (caller : Caller) (old new : Wire) : Type 0 where
  pub sendings : List Sending
  pub given : letters_in sendings ≡ letters_of port to caller calls
  pub exchanges : Exchanges givens sendings old new

-- These calls were made, and each port gave this.
pub record Does (calls : List Call) (control_gave data_gave : List (Option Letter)) (clocks : ℕ) (to : Addr) (caller caller' : Caller) (control control' rtp rtp' : Wire) : Type 0 where
  pub caller_is : caller' ≡ after caller calls
  pub clocks_are : clocks ≡ clocks_of caller calls
  pub on_control : Goes Ctl to calls control_gave caller control control'
  pub on_data : Goes Rtp to calls data_gave caller rtp rtp'

-- the call at the end, where the invitation hasn't come to its end
abbrev pub closing : Phase → List Call
closing (phase.Closed why) = []
closing phase.Fresh = closes ∷ []
closing phase.AskCtl = closes ∷ []
closing phase.AskRtp = closes ∷ []
closing phase.Open = closes ∷ []

-- ---- the ends

-- what there is before and behind some calls: an inviter, two ports and a clock
pub record Scene : Type 0 where
  pub caller : Caller
  pub control : Wire
  pub rtp : Wire
  pub coming : Option (ℕ → ℕ)

abbrev pub Plays : List Call → (control_gave data_gave : List (Option Letter)) → (moments : List ℕ) → (clocks : ℕ) → Addr → Scene → Scene → Type 0
Plays calls control_gave data_gave moments clocks to old new =
    Does calls control_gave data_gave clocks to old.caller new.caller old.control new.control old.rtp new.rtp
    × Gave moments old.coming new.coming

-- all turns were made
pub record MadeAll (turns clocks : ℕ) (to : Addr) (old new : Scene) : Type 0 where
  pub made : List Turn
  pub count : length made ≡ turns
  pub plays : Plays (calls_of made) (control_givens made) (data_givens made) (moments_of made) clocks to old new

-- these were, and then the control port's receive failed
pub record ControlBroke (turns clocks : ℕ) (to : Addr) (old new : Scene) : Type 0 where
  pub made : List Turn
  pub few : length made < turns
  pub now : ℕ
  pub plays : Plays (calls_of made ++ (ticks now ∷ [])) (control_givens made) (data_givens made) (moments_of made ++ (now ∷ [])) clocks to old new
  pub rose : Rose old.control.recv_faults new.control.recv_faults

-- these were, and then the data port's receive failed
pub record DataBroke (turns clocks : ℕ) (to : Addr) (old new : Scene) : Type 0 where
  pub made : List Turn
  pub few : length made < turns
  pub now : ℕ
  pub control : Option Letter
  pub plays : Plays (calls_of made ++ first_calls now control) (control_givens made ++ (control ∷ [])) (data_givens made) (moments_of made ++ (now ∷ [])) clocks to old new
  pub rose : Rose old.rtp.recv_faults new.rtp.recv_faults

abbrev pub Comes : TurnsEnd → (turns clocks : ℕ) → Addr → Scene → Scene → Type 0
Comes Made turns clocks to old new = MadeAll turns clocks to old new
Comes ControlFailed turns clocks to old new = ControlBroke turns clocks to old new
Comes DataFailed turns clocks to old new = DataBroke turns clocks to old new
