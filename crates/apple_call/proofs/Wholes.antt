-- Turns, and then the close, are a whole call.
use Rattle.std.proofs.Common.{◌≡◌, ℕ, ◌+◌, ◌≤◌, List, ◌∷◌, [], ◌++◌, Option, ap, subst, arith}
use Rattle.std.proofs.lemmas.List.{append-nil}
use Rattle.jm_edge.specs.declared.Addr.{Addr}
use Rattle.jm_edge.specs.Faults.{Rose}
use Rattle.jm_edge.specs.Wire.{Letter, Wire}
use Rattle.apple_session.specs.declared.answer.PortKind.{PortKind}
use Rattle.apple_session.specs.declared.answer.PortKind.TheVariants.{Ctl, Rtp}
use Rattle.apple_invite.specs.Caller.{Caller, phase_of}
use Rattle.apple_invite.specs.Machine.{Call, ticks}
use Rattle.apple_invite.specs.declared.dialed.Phase.{Phase}
use Rattle.apple_call.specs.declared.turns.TurnsEnd.{TurnsEnd}
use Rattle.apple_call.specs.declared.turns.TurnsEnd.TheVariants.{Made, ControlFailed, DataFailed}
use Rattle.apple_call.specs.Turns.{first_calls, calls_of, moments_of, control_givens, data_givens, Goes, Does, closing, Scene, Plays, Comes}
use Rattle.apple_call.specs.Whole.{Outside, phase_after, then_closed, Passes, CallEnds}
use Rattle.apple_call.proofs.Joins.{does-then}

-- the scene without its inviter
abbrev pub outside_of : Scene → Outside
outside_of scene = record { control = scene.control; rtp = scene.rtp; coming = scene.coming }

-- the close, in the phase in which the inviter was
abbrev Closes : (phase : Phase) → Addr → (caller last : Caller) → (control control' rtp rtp' : Wire) → Type 0
Closes phase to caller last control control' rtp rtp' = Does (closing phase) [] [] 0 to caller last control control' rtp rtp'

goes_as : (port : PortKind) (to : Addr) (calls : List Call) (givens : List (Option Letter)) (phase : Phase) (caller : Caller) (old new : Wire)
    → phase ≡ phase_after caller calls → Goes port to (calls ++ closing phase) (givens ++ []) caller old new → Goes port to (then_closed caller calls) givens caller old new
goes_as port to calls givens phase caller old new same goes =
    subst (λ (k : List (Option Letter)). Goes port to (then_closed caller calls) k caller old new) (append-nil givens)
    (subst (λ (p : Phase). Goes port to (calls ++ closing p) (givens ++ []) caller old new) same goes)

passes : (calls : List Call) (control_gave data_gave : List (Option Letter)) (moments : List ℕ) (clocks : ℕ) (to : Addr) (a b : Scene) (last : Caller) (c d : Wire)
    → Plays calls control_gave data_gave moments clocks to a b
    → Closes (phase_of b.caller.stage) to b.caller last b.control c b.rtp d
    → Passes calls control_gave data_gave moments (phase_of b.caller.stage) clocks to a.caller (outside_of a) (record { control = c; rtp = d; coming = b.coming })
passes calls control_gave data_gave moments clocks to a b last c d plays closes =
    let same : phase_of b.caller.stage ≡ phase_after a.caller calls = ap (λ (k : Caller). phase_of k.stage) plays.0.caller_is in
    let all : Does (calls ++ closing (phase_of b.caller.stage)) (control_gave ++ []) (data_gave ++ []) (clocks + 0) to a.caller last a.control c a.rtp d = does-then plays.0 closes in
    record {
      phase_is = same;
      clocks_are = plays.0.clocks_are;
      on_control = goes_as Ctl to calls control_gave (phase_of b.caller.stage) a.caller a.control c same all.on_control;
      on_data = goes_as Rtp to calls data_gave (phase_of b.caller.stage) a.caller a.rtp d same all.on_data;
      gave = plays.1;
    }

-- a count that rose has risen, whatever comes
rose_still : (a b c : ℕ) → Rose a b → b ≤ c → Rose a c
rose_still a b c rose more = λ below. grind (arith, rose, below, more)

pub call_ends : (end : TurnsEnd) (turns clocks : ℕ) (to : Addr) (a b : Scene) (last : Caller) (c d : Wire)
    → Comes end turns clocks to a b
    → Closes (phase_of b.caller.stage) to b.caller last b.control c b.rtp d
    → CallEnds end turns (phase_of b.caller.stage) clocks to a.caller (outside_of a) (record { control = c; rtp = d; coming = b.coming })
call_ends Made turns clocks to a b last c d comes closes = record {
  made = comes.made;
  count = comes.count;
  passes = passes (calls_of comes.made) (control_givens comes.made) (data_givens comes.made) (moments_of comes.made) clocks to a b last c d comes.plays closes;
}
call_ends ControlFailed turns clocks to a b last c d comes closes = record {
  made = comes.made;
  few = comes.few;
  now = comes.now;
  passes = passes (calls_of comes.made ++ (ticks comes.now ∷ [])) (control_givens comes.made) (data_givens comes.made) (moments_of comes.made ++ (comes.now ∷ [])) clocks to a b last c d comes.plays closes;
  rose = rose_still a.control.recv_faults b.control.recv_faults c.recv_faults comes.rose closes.on_control.exchanges.counted;
}
call_ends DataFailed turns clocks to a b last c d comes closes = record {
  made = comes.made;
  few = comes.few;
  now = comes.now;
  control = comes.control;
  passes = passes (calls_of comes.made ++ first_calls comes.now comes.control) (control_givens comes.made ++ (comes.control ∷ [])) (data_givens comes.made) (moments_of comes.made ++ (comes.now ∷ [])) clocks to a b last c d comes.plays closes;
  rose = rose_still a.rtp.recv_faults b.rtp.recv_faults d.recv_faults comes.rose closes.on_data.exchanges.counted;
}
