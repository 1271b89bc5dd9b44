-- An open inviter was held by its host, along any run that may come.
use Rattle.std.proofs.Common.{◌≡◌, ℕ, Bool, true, false, cond, List, [], ◌∷◌, ◌++◌, Option, Some, None, refl, sym, ap, subst, ◌∙◌, append_assoc, arith}
use Rattle.std.specs.Prelude.{⊤, All, IfSome}
use Rattle.std.proofs.lemmas.List.{append-nil}
use Rattle.std.proofs.lemmas.List.Elements.{All-push, All-contains}
use Rattle.std.proofs.lemmas.List.Sums.{fold-append}
use Rattle.jm_edge.specs.declared.Addr.{Addr}
use Rattle.apple_msg.specs.declared.message.Message.{Message}
use Rattle.apple_msg.specs.declared.message.Message.TheVariants.{Invite, Accept}
use Rattle.apple_session.specs.declared.answer.PortKind.{PortKind}
use Rattle.apple_session.specs.declared.answer.PortKind.TheVariants.{Rtp}
use Rattle.apple_session.specs.Peers.{peer_of}
use Rattle.apple_session.specs.Machine as machine
use Rattle.apple_session.specs.AnswerLaws.{ok_is_of_listed}
use Rattle.apple_invite.specs.declared.dialed.Phase.TheVariants as phase
use Rattle.apple_invite.specs.declared.stage.Stage.{Stage}
use Rattle.apple_invite.specs.declared.stage.Stage.TheVariants.{Fresh, AskCtl, AskRtp, Open, Closed}
use Rattle.apple_invite.specs.Caller.{Caller, address_of, phase_of, fresh}
use Rattle.apple_invite.specs.Machine.{Call, hears, step}
use Rattle.apple_invite.specs.World.{World, begins, Event, dials, reaches, tells, drops, is_ours, posted, through, after_event, run, IsHeard, IsSent, IsNoOk, MayCome, IsAllowed, IsHeld, WasHeld}
use Rattle.apple_invite.specs.Laws.{OpenWasHeld}
use Rattle.apple_invite.proofs.Stages.{stage_by}
use Rattle.apple_invite.proofs.Kept.{IsOwn, IsOwnIfAny, step_kept}

-- ---- that the host holds the inviter, or held it

-- it was held at some moment so far, this one included
record HasHeld (here : PortKind → Addr) (start : World) (events : List Event) (ssrc token : ℕ) : Type 0 where
  earlier : List Event
  later : List Event
  parts : events ≡ earlier ++ later
  held : IsHeld (run here start earlier).host ssrc token

still_held : (here : PortKind → Addr) (start : World) (events : List Event) (event : Event) (ssrc token : ℕ) → HasHeld here start events ssrc token → HasHeld here start (events ++ event ∷ []) ssrc token
still_held here start events event ssrc token h = record {
  earlier = h.earlier;
  later = h.later ++ event ∷ [];
  parts = ap (λ (x : List Event). x ++ event ∷ []) h.parts ∙ append_assoc h.earlier h.later (event ∷ []);
  held = h.held;
}

still_was_held : (here : PortKind → Addr) (start : World) (events : List Event) (event : Event) (ssrc token : ℕ) → WasHeld here start events ssrc token → WasHeld here start (events ++ event ∷ []) ssrc token
still_was_held here start events event ssrc token h = record {
  earlier = h.earlier;
  next = h.next;
  later = h.later ++ event ∷ [];
  parts = ap (λ (x : List Event). x ++ event ∷ []) h.parts ∙ append_assoc h.earlier (h.next ∷ h.later) (event ∷ []);
  held = h.held;
}

-- one event later the moment is an earlier one
passed : (here : PortKind → Addr) (start : World) (earlier later : List Event) (event : Event) (ssrc token : ℕ) → IsHeld (run here start earlier).host ssrc token → WasHeld here start (earlier ++ (later ++ event ∷ [])) ssrc token
passed here start earlier [] event ssrc token held = record { earlier = earlier; next = event; later = []; parts = refl; held = held }
passed here start earlier (first ∷ later) event ssrc token held = record { earlier = earlier; next = first; later = later ++ event ∷ []; parts = refl; held = held }

now_was_held : (here : PortKind → Addr) (start : World) (events : List Event) (event : Event) (ssrc token : ℕ) → HasHeld here start events ssrc token → WasHeld here start (events ++ event ∷ []) ssrc token
now_was_held here start events event ssrc token h =
    let same : events ++ event ∷ [] ≡ h.earlier ++ (h.later ++ event ∷ []) = ap (λ (x : List Event). x ++ event ∷ []) h.parts ∙ append_assoc h.earlier h.later (event ∷ []) in
    subst (λ (x : List Event). WasHeld here start x ssrc token) (sym same) (passed here start h.earlier h.later event ssrc token h.held)

-- ---- what holds along a run

-- an OK of the data port with this token came where the host held the inviter
abbrev TellsHeld : (here : PortKind → Addr) (start : World) (events : List Event) (ssrc token : ℕ) → PortKind × Message → Type 0
TellsHeld here start events ssrc token (Rtp, Accept its_token host name) = HasHeld here start events ssrc token
TellsHeld here start events ssrc token (port, message) = ⊤

-- where it is open the host held the inviter
abbrev OpenHeld : (here : PortKind → Addr) (start : World) (events : List Event) (ssrc token : ℕ) → Stage → Type 0
OpenHeld here start events ssrc token Fresh = ⊤
OpenHeld here start events ssrc token (AskCtl tries due) = ⊤
OpenHeld here start events ssrc token (AskRtp host tries due) = ⊤
OpenHeld here start events ssrc token (Open host due asked) = WasHeld here start events ssrc token
OpenHeld here start events ssrc token (Closed why) = ⊤

record Holds (here : PortKind → Addr) (start : World) (events : List Event) (ssrc token : ℕ) (world : World) : Type 0 where
  reached : world ≡ run here start events
  its_ssrc : world.caller.ssrc ≡ ssrc
  its_token : world.caller.token ≡ token
  asked : All (IsOwn ssrc token) world.asked
  told : All (TellsHeld here start events ssrc token) world.told
  opens : OpenHeld here start events ssrc token world.caller.stage

reached_on : (here : PortKind → Addr) (start : World) (events : List Event) (event : Event) (world : World) → world ≡ run here start events → after_event here world event ≡ run here start (events ++ event ∷ [])
reached_on here start events event world e = ap (λ (w : World). after_event here w event) e ∙ sym (fold-append (after_event here) start events (event ∷ []))

all_posted : (P : PortKind × Message → Type 0) (letters : List (PortKind × Message)) (o : Option (PortKind × Message)) → All P letters → IfSome o P → All P (posted letters o)
all_posted P letters None h own = h
all_posted P letters (Some letter) h own = All-push P letters letter h own

tells_on : (here : PortKind → Addr) (start : World) (events : List Event) (event : Event) (ssrc token : ℕ) (letter : PortKind × Message) → TellsHeld here start events ssrc token letter → TellsHeld here start (events ++ event ∷ []) ssrc token letter
tells_on here start events event ssrc token (Rtp, Accept its_token host name) h = still_held here start events event ssrc token h
tells_on here start events event ssrc token (port, message) h = tt

all_on : (P Q : PortKind × Message → Type 0) (letters : List (PortKind × Message)) → ((letter : PortKind × Message) → P letter → Q letter) → All P letters → All Q letters
all_on P Q letters on h = λ k d lt. on _ (h k d lt)

open_on : (here : PortKind → Addr) (start : World) (events : List Event) (event : Event) (ssrc token : ℕ) (stage : Stage) → OpenHeld here start events ssrc token stage → OpenHeld here start (events ++ event ∷ []) ssrc token stage
open_on here start events event ssrc token Fresh h = tt
open_on here start events event ssrc token (AskCtl tries due) h = tt
open_on here start events event ssrc token (AskRtp host tries due) h = tt
open_on here start events event ssrc token (Open host due asked) h = still_was_held here start events event ssrc token h
open_on here start events event ssrc token (Closed why) h = tt

-- ---- a call of the inviter

own_if_any : (ssrc token : ℕ) (o : Option (PortKind × Message)) → IsOwnIfAny ssrc token o → IfSome o (IsOwn ssrc token)
own_if_any ssrc token None h = tt
own_if_any ssrc token (Some letter) h = h

-- what opens it the host told it
dialed_opens : (here : PortKind → Addr) (start : World) (events : List Event) (ssrc token : ℕ) (world : World) (call : Call)
    → Holds here start events ssrc token world → IsHeard world call → OpenHeld here start (events ++ dials call ∷ []) ssrc token (step world.caller call).caller.stage
dialed_opens here start events ssrc token world call h may =
    stage_by (OpenHeld here start (events ++ dials call ∷ []) ssrc token) world.caller call (record {
      fresh = tt;
      asking = λ tries due. tt;
      closed = λ why. tt;
      taken = λ host name now due says. tt;
      waiting = λ host tries due tries' due' is. tt;
      opened = λ host tries due name now due' asked is says.
          let heard : IsHeard world (hears Rtp (address_of world.caller.to Rtp) (Accept world.caller.token host name) now) = subst (IsHeard world) says may in
          let held : HasHeld here start events ssrc token = All-contains (TellsHeld here start events ssrc token) world.told (Rtp, Accept world.caller.token host name) h.told (heard refl) in
          now_was_held here start events (dials call) ssrc token held;
      open_on = λ host due asked due' asked' is on.
          still_was_held here start events (dials call) ssrc token (subst (OpenHeld here start events ssrc token) is h.opens);
    })

dials_hold : (here : PortKind → Addr) (start : World) (events : List Event) (ssrc token : ℕ) (world : World) (call : Call)
    → Holds here start events ssrc token world → IsHeard world call → Holds here start (events ++ dials call ∷ []) ssrc token (after_event here world (dials call))
dials_hold here start events ssrc token world call h may =
    let kept = step_kept world.caller call in
    let own : IsOwnIfAny ssrc token (step world.caller call).dialed.send =
    subst (λ (s : ℕ). IsOwnIfAny s token (step world.caller call).dialed.send) h.its_ssrc (subst (λ (t : ℕ). IsOwnIfAny world.caller.ssrc t (step world.caller call).dialed.send) h.its_token kept.own) in
    record {
      reached = reached_on here start events (dials call) world h.reached;
      its_ssrc = ap (λ (c : Caller). c.ssrc) kept.same ∙ h.its_ssrc;
      its_token = ap (λ (c : Caller). c.token) kept.same ∙ h.its_token;
      asked = all_posted (IsOwn ssrc token) world.asked (step world.caller call).dialed.send h.asked (own_if_any ssrc token (step world.caller call).dialed.send own);
      told = all_on (TellsHeld here start events ssrc token) (TellsHeld here start (events ++ dials call ∷ []) ssrc token) world.told (tells_on here start events (dials call) ssrc token) h.told;
      opens = dialed_opens here start events ssrc token world call h may;
    }

-- ---- what the host does

-- a new world, with the same inviter and nothing more asked
others_hold : (here : PortKind → Addr) (start : World) (events : List Event) (event : Event) (ssrc token : ℕ) (world next : World)
    → Holds here start events ssrc token world → after_event here world event ≡ next → next.caller ≡ world.caller → next.asked ≡ world.asked
    → All (TellsHeld here start (events ++ event ∷ []) ssrc token) next.told
    → Holds here start (events ++ event ∷ []) ssrc token next
others_hold here start events event ssrc token world next h made same nothing told = record {
  reached = sym made ∙ reached_on here start events event world h.reached;
  its_ssrc = ap (λ (c : Caller). c.ssrc) same ∙ h.its_ssrc;
  its_token = ap (λ (c : Caller). c.token) same ∙ h.its_token;
  asked = subst (λ (x : List (PortKind × Message)). All (IsOwn ssrc token) x) (sym nothing) h.asked;
  told = told;
  opens = subst (λ (c : Caller). OpenHeld here start (events ++ event ∷ []) ssrc token c.stage) (sym same) (open_on here start events event ssrc token world.caller.stage h.opens);
}

told_on : (here : PortKind → Addr) (start : World) (events : List Event) (event : Event) (ssrc token : ℕ) (world : World) → Holds here start events ssrc token world → All (TellsHeld here start (events ++ event ∷ []) ssrc token) world.told
told_on here start events event ssrc token world h =
    all_on (TellsHeld here start events ssrc token) (TellsHeld here start (events ++ event ∷ []) ssrc token) world.told (tells_on here start events event ssrc token) h.told

-- an OK of the data port is said where the inviter is held
reply_held : (here : PortKind → Addr) (start : World) (events : List Event) (ssrc token : ℕ) (world : World) (room : Bool) (port : PortKind) (from : Addr) (message : Message) (now : ℕ) (reply : Option Message)
    → Holds here start events ssrc token world → IsOwn ssrc token (port, message)
    → (machine.step world.host room port from message now).answer.reply ≡ reply
    → IfSome (through port reply) (TellsHeld here start (events ++ reaches room port from message now ∷ []) ssrc token)
reply_held here start events ssrc token world room Rtp from message now (Some (Accept its_token host name)) h own e =
    let event : Event = reaches room Rtp from message now in
    let ok = ok_is_of_listed world.host room Rtp from message now its_token host name e in
    let named : IsOwn ssrc token (Rtp, Invite its_token ok.guest ok.guest_name) = subst (λ (m : Message). IsOwn ssrc token (Rtp, m)) ok.invited own in
    let held : IsHeld (after_event here world event).host ssrc token = record {
      peer = ok.peer;
      listed = subst (λ (s : ℕ). peer_of s (machine.step world.host room Rtp from message now).peers ≡ Some ok.peer) named.1 ok.listed;
      its_token = ok.its_token ∙ named.0;
      joined = ok.joined refl;
    } in
    record {
      earlier = events ++ event ∷ [];
      later = [];
      parts = sym (append-nil (events ++ event ∷ []));
      held = subst (λ (w : World). IsHeld w.host ssrc token) (reached_on here start events event world h.reached) held;
    }
reply_held here start events ssrc token world room port from message now None h own e = tt
reply_held here start events ssrc token world room port from message now (Some other) h own e = tt

reaches_hold : (here : PortKind → Addr) (start : World) (events : List Event) (ssrc token : ℕ) (world : World) (room : Bool) (port : PortKind) (from : Addr) (message : Message) (now : ℕ)
    → Holds here start events ssrc token world → (is_ours here from ≡ true → IsSent here world port from message)
    → Holds here start (events ++ reaches room port from message now ∷ []) ssrc token (after_event here world (reaches room port from message now))
reaches_hold here start events ssrc token world room port from message now h may =
    let event : Event = reaches room port from message now in
    let reply : Option Message = (machine.step world.host room port from message now).answer.reply in
    let before : All (TellsHeld here start (events ++ event ∷ []) ssrc token) world.told = told_on here start events event ssrc token world h in
    others_hold here start events event ssrc token world (after_event here world event) h refl refl refl
    (elim (is_ours here from) as (λ (b : Bool). is_ours here from ≡ b → All (TellsHeld here start (events ++ event ∷ []) ssrc token) (cond b (posted world.told (through port reply)) world.told)) [
      | false ↦ λ _. before
      | true ↦ λ ours.
          let own : IsOwn ssrc token (port, message) = All-contains (IsOwn ssrc token) world.asked (port, message) h.asked (may ours).sent in
          all_posted (TellsHeld here start (events ++ event ∷ []) ssrc token) world.told (through port reply) before (reply_held here start events ssrc token world room port from message now reply h own refl)
    ] refl)

no_ok : (here : PortKind → Addr) (start : World) (events : List Event) (ssrc token : ℕ) (port : PortKind) (message : Message) → IsNoOk message → TellsHeld here start events ssrc token (port, message)
no_ok here start events ssrc token Rtp (Accept its_token host name) h = absurd h
no_ok here start events ssrc token port message h = tt

-- ---- any run

event_holds : (here : PortKind → Addr) (start : World) (events : List Event) (ssrc token : ℕ) (world : World) (event : Event)
    → Holds here start events ssrc token world → MayCome here world event → Holds here start (events ++ event ∷ []) ssrc token (after_event here world event)
event_holds here start events ssrc token world (dials call) h may = dials_hold here start events ssrc token world call h may
event_holds here start events ssrc token world (reaches room port from message now) h may = reaches_hold here start events ssrc token world room port from message now h may
event_holds here start events ssrc token world (tells port message) h may =
    let event : Event = tells port message in
    let before : All (TellsHeld here start (events ++ event ∷ []) ssrc token) world.told = told_on here start events event ssrc token world h in
    others_hold here start events event ssrc token world (after_event here world event) h refl refl refl
    (All-push (TellsHeld here start (events ++ event ∷ []) ssrc token) world.told (port, message) before (no_ok here start (events ++ event ∷ []) ssrc token port message may))
event_holds here start events ssrc token world (drops other) h may =
    let event : Event = drops other in
    others_hold here start events event ssrc token world (after_event here world event) h refl refl refl (told_on here start events event ssrc token world h)

run_holds : (here : PortKind → Addr) (start : World) (ssrc token : ℕ) (events before : List Event) (world : World)
    → Holds here start before ssrc token world → IsAllowed here world events → Holds here start (before ++ events) ssrc token (run here world events)
run_holds here start ssrc token [] before world h may = subst (λ (x : List Event). Holds here start x ssrc token world) (sym (append-nil before)) h
run_holds here start ssrc token (event ∷ events) before world h may =
    subst (λ (x : List Event). Holds here start x ssrc token (run here (after_event here world event) events)) (append_assoc before (event ∷ []) events)
    (run_holds here start ssrc token events (before ++ event ∷ []) (after_event here world event) (event_holds here start before ssrc token world event h may.0) may.1)

none_yet : (P : PortKind × Message → Type 0) → All P []
none_yet P = λ k d lt. absurd (omega arith)

at_open : (here : PortKind → Addr) (start : World) (events : List Event) (ssrc token : ℕ) (stage : Stage) → OpenHeld here start events ssrc token stage → phase_of stage ≡ phase.Open → WasHeld here start events ssrc token
at_open here start events ssrc token (Open host due asked) h is = h
at_open here start events ssrc token Fresh h is = absurd cc
at_open here start events ssrc token (AskCtl tries due) h is = absurd cc
at_open here start events ssrc token (AskRtp host tries due) h is = absurd cc
at_open here start events ssrc token (Closed why) h is = absurd cc

pub open_was_held : OpenWasHeld
open_was_held here host ssrc token name to events may is =
    let start : World = begins host (fresh ssrc token name to) in
    let first : Holds here start [] ssrc token start = record {
      reached = refl;
      its_ssrc = refl;
      its_token = refl;
      asked = none_yet (IsOwn ssrc token);
      told = none_yet (TellsHeld here start [] ssrc token);
      opens = tt;
    } in
    at_open here start events ssrc token (run here start events).caller.stage (run_holds here start ssrc token events [] start first may).opens is
