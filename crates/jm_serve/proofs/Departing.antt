-- The sender's calls, put together from the single ones.
use Rattle.std.proofs.Common.{◌≡◌, ℕ, ◌+◌, ◌≤◌, ◌<◌, Bool, true, false, List, [], ◌∷◌, ◌++◌, length, Result, Ok, Err, refl, sym, ap, subst, ◌∙◌, append_assoc, length-append, arith}
use Rattle.std.proofs.lemmas.List.{append-nil}
use Rattle.std.specs.declared.alloc.AllocError.{AllocError}
use Rattle.jm_edge.specs.declared.Addr.{Addr}
use Rattle.jm_edge.specs.Wire.{Wire}
use Rattle.jm_wire.specs.Octets.{Filled, Appends}
use Rattle.jm_turn.specs.declared.view.Made.{Made}
use Rattle.jm_book.specs.declared.steps.Config.{Config}
use Rattle.jm_book.specs.declared.steps.Step.TheVariants as step
use Rattle.jm_book.specs.declared.answers.Cutted.TheVariants as cutted
use Rattle.jm_book.specs.declared.answers.Gone.TheVariants as gone
use Rattle.jm_book.specs.Session.{session_of}
use Rattle.jm_book.specs.Packet.{packet_of}
use Rattle.jm_book.specs.BookAnswers.{address_list}
use Rattle.jm_desk.specs.declared.turn.DeskTurn.{DeskTurn}
use Rattle.jm_desk.specs.declared.turn.Outcome.TheVariants as outcome
use Rattle.jm_desk.specs.History.{taken}
use Rattle.jm_desk.specs.Sharing.{Shared, PassView, config_of}
use Rattle.jm_serve.specs.declared.sender.Sender.{Sender}
use Rattle.jm_serve.specs.declared.sender.Pumped.{Pumped}
use Rattle.jm_serve.specs.declared.sender.Pumped.TheVariants as pumped
use Rattle.jm_serve.specs.Exchange.{letters_to, Posts}
use Rattle.jm_serve.specs.Acts.{Act, act, next_call, Gains, Scene, Works}
use Rattle.jm_serve.specs.Pump.{is_due, packet_letters, Departure, gone_of, departure_acts, departures_acts, Ends, Ended, CutsOnce, LeavesOnce, Departs, DepartsAll, CutsAll, Does, settled, Pumps}
use Rattle.jm_serve.specs.Pump.{cut_packet, tape_full, still_behind, no_room, full_then, no_room_then}
use Rattle.jm_serve.proofs.Joins.{posts_nothing, works-then, works_nothing}

-- ---- one cut

pub room_kept : (old new : Filled) (text : List ℕ) (room : ℕ) → room ≤ old.spare + length old.octets → Appends old new text → room ≤ new.spare + length new.octets
room_kept old new text room h a = omega (arith, h, a.spare, ap length a.octets, length-append old.octets text)

-- what was cut went to where it was to go
pub packet_posts : (config : Config) (before : List (Made DeskTurn)) (moment : ℕ) (old new : Filled) (to : List Addr) (shown : List ℕ) (listed : List Addr) (f g : ℕ) (wire wire' : Wire)
    → old.octets ≡ [] → Appends old new (packet_of (session_of config (taken before)) moment) → to ≡ address_list config (taken before) → shown ≡ new.octets → listed ≡ to
    → Posts [] (letters_to shown listed) f g wire wire' → Posts [] (packet_letters config before moment) f g wire wire'
packet_posts config before moment old new to shown listed f g wire wire' empty a e s l p =
    let packet = packet_of (session_of config (taken before)) moment in
    let octets : shown ≡ packet = s ∙ a.octets ∙ ap (λ (k : List ℕ). k ++ packet) empty in
    subst (λ (k : List Addr). Posts [] (letters_to packet k) f g wire wire') (l ∙ e) (subst (λ (k : List ℕ). Posts [] (letters_to k listed) f g wire wire') octets p)

-- ---- the last calls

pub ended_packet : (desk : Shared) (moment number departures : ℕ) (old new : Scene) → CutsOnce desk moment (Ok (cutted.Packet number)) old new → Ended desk moment departures (Ok (pumped.Packet number)) old new
ended_packet desk moment number departures old new c = record {
  acts = act c.before (step.Cut moment) (outcome.Cut (cutted.Packet number)) ∷ [];
  letters = packet_letters (config_of desk) c.before moment;
  ends = cut_packet c.before number;
  works = c.works;
}

pub ended_full : (desk : Shared) (moment events departures : ℕ) (old new : Scene) → CutsOnce desk moment (Ok (cutted.RecordFull events)) old new → Ended desk moment departures (Ok (pumped.RecordFull events)) old new
ended_full desk moment events departures old new c = record {
  acts = act c.before (step.Cut moment) (outcome.Cut (cutted.RecordFull events)) ∷ [];
  letters = [];
  ends = tape_full c.before events;
  works = c.works;
}

pub ended_behind : (desk : Shared) (moment ssrc mark : ℕ) (old new : Scene) → CutsOnce desk moment (Ok (cutted.Behind ssrc mark)) old new → Ended desk moment 32 (Ok (pumped.Behind ssrc mark)) old new
ended_behind desk moment ssrc mark old new c = record {
  acts = act c.before (step.Cut moment) (outcome.Cut (cutted.Behind ssrc mark)) ∷ [];
  letters = [];
  ends = still_behind c.before ssrc mark refl;
  works = c.works;
}

pub ended_no_memory : (desk : Shared) (moment departures : ℕ) (none : AllocError) (old new : Scene) → CutsOnce desk moment (Err none) old new → Ended desk moment departures (Err none) old new
ended_no_memory desk moment departures none old new c = record {
  acts = act c.before (step.Cut moment) outcome.NoMemory ∷ [];
  letters = [];
  ends = no_room c.before none;
  works = c.works;
}

-- ---- a departure

-- a call that sends nothing, behind what was done
behind : (desk : Shared) (xs ys : List Act) (old middle new : Scene) → Works desk xs [] [] old middle → Gains desk ys middle.pass new.pass → new.wire ≡ middle.wire → new.faults ≡ middle.faults → new.call ≡ next_call middle.call ys
    → Works desk (xs ++ ys) [] [] old new
behind desk xs ys old middle new w gains wire faults calls =
    let posts : Posts [] [] middle.faults middle.faults middle.wire middle.wire = posts_nothing middle.faults middle.wire in
    let then_posts : Posts [] [] middle.faults new.faults middle.wire new.wire =
    subst (λ (k : ℕ). Posts [] [] middle.faults k middle.wire new.wire) (sym faults) (subst (λ (k : Wire). Posts [] [] middle.faults middle.faults middle.wire k) (sym wire) posts) in
    works-then w (record { gains = gains; posts = then_posts; calls = calls })

module _ (desk : Shared) (moment ssrc mark : ℕ) (old middle new : Scene) (cut : CutsOnce desk moment (Ok (cutted.Behind ssrc mark)) old middle) (wire : new.wire ≡ middle.wire) (faults : new.faults ≡ middle.faults) where
  pub departs : (was_there : Bool) → LeavesOnce desk ssrc (Ok (gone_of was_there)) middle.pass new.pass middle.call new.call → Departs desk moment old new
  departs was_there leave = record {
    departure = record { cut_before = cut.before; ssrc = ssrc; mark = mark; leave_before = leave.before; was_there = was_there };
    works = behind desk (act cut.before (step.Cut moment) (outcome.Cut (cutted.Behind ssrc mark)) ∷ []) (act leave.before (step.Leave ssrc) (outcome.Gone (gone_of was_there)) ∷ []) old middle new cut.works leave.gains wire faults leave.calls;
  }

  pub ended_full_then : (events departures : ℕ) → departures < 32 → LeavesOnce desk ssrc (Ok (gone.RecordFull events)) middle.pass new.pass middle.call new.call → Ended desk moment departures (Ok (pumped.RecordFull events)) old new
  ended_full_then events departures few leave = record {
    acts = act cut.before (step.Cut moment) (outcome.Cut (cutted.Behind ssrc mark)) ∷ act leave.before (step.Leave ssrc) (outcome.Gone (gone.RecordFull events)) ∷ [];
    letters = [];
    ends = full_then cut.before leave.before ssrc mark events few;
    works = behind desk (act cut.before (step.Cut moment) (outcome.Cut (cutted.Behind ssrc mark)) ∷ []) (act leave.before (step.Leave ssrc) (outcome.Gone (gone.RecordFull events)) ∷ []) old middle new cut.works leave.gains wire faults leave.calls;
  }

  pub ended_no_memory_then : (none : AllocError) (departures : ℕ) → departures < 32 → LeavesOnce desk ssrc (Err none) middle.pass new.pass middle.call new.call → Ended desk moment departures (Err none) old new
  ended_no_memory_then none departures few leave = record {
    acts = act cut.before (step.Cut moment) (outcome.Cut (cutted.Behind ssrc mark)) ∷ act leave.before (step.Leave ssrc) outcome.NoMemory ∷ [];
    letters = [];
    ends = no_room_then cut.before leave.before ssrc mark none few;
    works = behind desk (act cut.before (step.Cut moment) (outcome.Cut (cutted.Behind ssrc mark)) ∷ []) (act leave.before (step.Leave ssrc) outcome.NoMemory ∷ []) old middle new cut.works leave.gains wire faults leave.calls;
  }

-- ---- so many departures

departures-append : (moment : ℕ) (xs ys : List Departure) → departures_acts moment (xs ++ ys) ≡ departures_acts moment xs ++ departures_acts moment ys
departures-append moment [] ys = refl
departures-append moment (x ∷ xs) ys =
    ap (λ (k : List Act). departure_acts moment x ++ k) (departures-append moment xs ys)
    ∙ sym (append_assoc (departure_acts moment x) (departures_acts moment xs) (departures_acts moment ys))

pub departs_none : (desk : Shared) (moment : ℕ) (scene : Scene) → DepartsAll desk moment 0 scene scene
departs_none desk moment scene = record { departures = []; count_is = refl; works = works_nothing desk scene }

one_more : (a b : ℕ) → a ≡ b → a + 1 ≡ b + 1
one_more a b e = omega (arith, e)

pub departs_more : (desk : Shared) (moment count : ℕ) (old middle new : Scene) → DepartsAll desk moment count old middle → Departs desk moment middle new → DepartsAll desk moment (count + 1) old new
departs_more desk moment count old middle new first second = record {
  departures = first.departures ++ second.departure ∷ [];
  count_is = length-append first.departures (second.departure ∷ []) ∙ one_more (length first.departures) count first.count_is;
  works = subst (λ (k : List Act). Works desk k [] [] old new)
      (ap (λ (k : List Act). departures_acts moment first.departures ++ k) (sym (append-nil (departure_acts moment second.departure))) ∙ sym (departures-append moment first.departures (second.departure ∷ [])))
      (works-then first.works second.works);
}

few_of : (a b : ℕ) → a ≡ b → b ≤ 32 → a ≤ 32
few_of a b e h = omega (arith, e, h)

pub cuts_ended : (desk : Shared) (moment count : ℕ) (result : Result Pumped AllocError) (old middle new : Scene) → DepartsAll desk moment count old middle → count ≤ 32 → Ended desk moment count result middle new → CutsAll desk moment result old new
cuts_ended desk moment count result old middle new first h last = record {
  acts = departures_acts moment first.departures ++ last.acts;
  letters = last.letters;
  cuts = record {
    departures = first.departures;
    few = few_of (length first.departures) count first.count_is h;
    last = last.acts;
    acts_are = refl;
    ends = subst (λ (k : ℕ). Ends (config_of desk) moment k last.acts last.letters result) (sym first.count_is) last.ends;
  };
  works = works-then first.works last.works;
}

-- ---- the whole

pub pumps_due : (desk : Shared) (at_once : Bool) (moment : ℕ) (result : Result Pumped AllocError) (sender sender' : Sender) (old new : Scene) → is_due at_once moment sender ≡ true → CutsAll desk moment result old new → sender' ≡ settled moment result (record sender { call = new.call; send_faults = new.faults }) → Pumps desk at_once moment result sender sender' old new
pumps_due desk at_once moment result sender sender' old new due c e = record {
  acts = c.acts;
  letters = c.letters;
  does = subst (λ (b : Bool). Does b (config_of desk) moment c.acts c.letters result) (sym due) c.cuts;
  works = c.works;
  sender_is = e;
}

pub pumps_idle : (desk : Shared) (at_once : Bool) (moment : ℕ) (sender : Sender) (pass : PassView) (wire : Wire) → is_due at_once moment sender ≡ false
    → Pumps desk at_once moment (Ok pumped.Idle) sender sender (record { pass = pass; wire = wire; call = sender.call; faults = sender.send_faults }) (record { pass = pass; wire = wire; call = sender.call; faults = sender.send_faults })
pumps_idle desk at_once moment sender pass wire idle = record {
  acts = [];
  letters = [];
  does = subst (λ (b : Bool). Does b (config_of desk) moment [] [] (Ok pumped.Idle)) (sym idle) (record { no_acts = refl; no_letters = refl; idle = refl });
  works = works_nothing desk (record { pass = pass; wire = wire; call = sender.call; faults = sender.send_faults });
  sender_is = refl;
}
