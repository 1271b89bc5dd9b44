-- What the turns of a jam come to on its tape.
use Rattle.std.proofs.Common.{◌≡◌, ◌≢◌, ℕ, zero, suc, ◌+◌, ◌<◌, Bool, true, false, ◌==◌, if◌then◌else◌, List, [], ◌∷◌, ◌++◌, refl, sym, ap, subst, ◌∙◌, inl, inr, arith, append_assoc, eq-eqb}
use Rattle.std.proofs.lemmas.Bool.{cases_Bool}
use Rattle.std.proofs.lemmas.Bool.Decides.{nat_tests}
use Rattle.jm_cmds.specs.declared.commands.Command.{Command}
use Rattle.jm_turn.specs.declared.view.Made.{Made}
use Rattle.jm_turn.specs.Turns.{Everyone}
use Rattle.jm_book.specs.declared.steps.Step.{Step}
use Rattle.jm_book.specs.declared.steps.Step.TheVariants as step
use Rattle.jm_book.specs.declared.answers.Played.{Played}
use Rattle.jm_book.specs.declared.answers.Played.TheVariants as played
use Rattle.jm_book.specs.declared.answers.PlayFault.{PlayFault}
use Rattle.jm_book.specs.declared.answers.PlayFault.TheVariants as refusal
use Rattle.jm_book.specs.declared.answers.Cutted.{Cutted}
use Rattle.jm_book.specs.declared.answers.Cutted.TheVariants as cutted
use Rattle.jm_book.specs.declared.answers.Acked.{Acked}
use Rattle.jm_book.specs.declared.answers.Entered.{Entered}
use Rattle.jm_book.specs.Answers.{is_accepted, is_packet}
use Rattle.jm_book.specs.Plays.{played_by}
use Rattle.jm_desk.specs.declared.turn.DeskTurn.{DeskTurn}
use Rattle.jm_desk.specs.declared.turn.Outcome.TheVariants as outcome
use Rattle.jm_desk.specs.History.{is_taken, step_of, taken}
use Rattle.jm_desk.specs.OwnTurns.{turns_by}
use Rattle.jm_jam.specs.Made.{made, start_of, tick_at}
use Rattle.jm_jam.specs.Workers.{play_turn, cut_turn, is_needs_cut, needs_cut, PlaysStep, PlaysSteps, next_report, report_turns, Reports, cut_turns, Cuts}
use Rattle.jm_jam.specs.Workers.{settled, not_cut, cut_first}
use Rattle.jm_jam.specs.Whole.{enter_turns, IsJam}
use Rattle.jm_jam.specs.Plays.{is_barring, is_left_out, PlaysGive, AllTurns}
use Rattle.jm_jam.proofs.Refusals.{made_fits, is_foreseen, AllForeseen, foreseen-apart, turns_foreseen}

-- ---- plays of a list of steps

played_by-append : (player : ℕ) (xs ys : List Step) → played_by player (xs ++ ys) ≡ played_by player xs ++ played_by player ys
played_by-append player [] ys = refl
played_by-append player (step.Play other command tick ∷ xs) ys = elim (cases_Bool (other == player)) [
  | inl t ↦ rw t (ap (λ (l : List Command). command ∷ l) (played_by-append player xs ys))
  | inr t ↦ rw t (played_by-append player xs ys)
]
played_by-append player (step.Enter ∷ xs) ys = played_by-append player xs ys
played_by-append player (step.Cut tick ∷ xs) ys = played_by-append player xs ys
played_by-append player (step.Ack ssrc seq ∷ xs) ys = played_by-append player xs ys
played_by-append player (step.Join ssrc ∷ xs) ys = played_by-append player xs ys
played_by-append player (step.Leave ssrc ∷ xs) ys = played_by-append player xs ys
played_by-append player (step.Hear ssrc seq ∷ xs) ys = played_by-append player xs ys
played_by-append player (step.Feedback ∷ xs) ys = played_by-append player xs ys
played_by-append player (step.Say port from message now ∷ xs) ys = played_by-append player xs ys

-- the commands of the player in these turns
abbrev plays_in : (player : ℕ) → List DeskTurn → List Command
plays_in player [] = []
plays_in player (turn ∷ turns) = played_by player (step_of turn) ++ plays_in player turns

plays_in-append : (player : ℕ) (xs ys : List DeskTurn) → plays_in player (xs ++ ys) ≡ plays_in player xs ++ plays_in player ys
plays_in-append player [] ys = refl
plays_in-append player (x ∷ xs) ys =
    ap (λ (l : List Command). played_by player (step_of x) ++ l) (plays_in-append player xs ys) ∙ sym (append_assoc (played_by player (step_of x)) (plays_in player xs) (plays_in player ys))

-- ---- turns of one pass

-- there was memory, and where the pass isn't the player's the call is no play of the player
record Sound (pass : ℕ) (turn : DeskTurn) : Type 0 where
  pub memory : turn.outcome ≢ outcome.NoMemory
  pub apart : (player : ℕ) → (pass == player + 1) ≡ false → played_by player (turn.call ∷ []) ≡ []

abbrev Each : (pass : ℕ) → List DeskTurn → Type 0
Each pass [] = Unit {0}
Each pass (turn ∷ turns) = Sound pass turn × Each pass turns

each-append : (pass : ℕ) (xs ys : List DeskTurn) → Each pass xs → Each pass ys → Each pass (xs ++ ys)
each-append pass [] ys h i = i
each-append pass (x ∷ xs) ys h i = (h.0, each-append pass xs ys h.1 i)

cut_sound : (pass tick : ℕ) (answer : Cutted) → Sound pass (cut_turn tick answer)
cut_sound pass tick answer = record { memory = λ e. absurd cc; apart = λ player off. refl }

play_sound : (player : ℕ) (command : Command) (tick : ℕ) (answer : Played) → Sound (player + 1) (play_turn player command tick answer)
play_sound player command tick answer = record {
  memory = λ e. absurd cc;
  apart = λ other off. let t : (player == other) ≡ false = grind (arith, nat_tests, off) in rw t refl;
}

step_sound : (player : ℕ) (command : Command) (tick : ℕ) (turns : List DeskTurn) → PlaysStep player command tick turns → Each (player + 1) turns
step_sound player command tick turns (settled answer done) = (play_sound player command tick answer, tt)
step_sound player command tick turns (not_cut answer cut needs none) = (play_sound player command tick answer, (cut_sound (player + 1) tick cut, tt))
step_sound player command tick turns (cut_first answer cut more needs packet plays) =
    (play_sound player command tick answer, (cut_sound (player + 1) tick cut, step_sound player command tick more plays))

steps_sound : (player start steps : ℕ) (turns : List DeskTurn) → PlaysSteps player start steps turns → Each (player + 1) turns
steps_sound player start zero turns h = rw h tt
steps_sound player start (suc step) turns (before, now, e, did, plays) =
    rw e (each-append (player + 1) before now (steps_sound player start step before did) (step_sound player (made player start step) (tick_at step) now plays))

reports_sound : (pass ssrc number : ℕ) (answers : List Acked) → Each pass (report_turns ssrc number answers)
reports_sound pass ssrc number [] = tt
reports_sound pass ssrc number (answer ∷ answers) = (record { memory = λ e. absurd cc; apart = λ player off. refl }, reports_sound pass ssrc (next_report number answer) answers)

cuts_sound : (pass step : ℕ) (answers : List Cutted) → Each pass (cut_turns step answers)
cuts_sound pass step [] = tt
cuts_sound pass step (answer ∷ answers) = (cut_sound pass (tick_at step) answer, cuts_sound pass (step + 1) answers)

enters_sound : (pass : ℕ) (answers : List Entered) → Each pass (enter_turns answers)
enters_sound pass [] = tt
enters_sound pass (answer ∷ answers) = (record { memory = λ e. absurd cc; apart = λ player off. refl }, enters_sound pass answers)

report_sound : (pass ssrc count : ℕ) (turns : List DeskTurn) → Reports ssrc count turns → Each pass turns
report_sound pass ssrc count turns r = rw r.turns_are (reports_sound pass ssrc 1 r.answers)

sender_sound : (pass count : ℕ) (turns : List DeskTurn) → Cuts count turns → Each pass turns
sender_sound pass count turns r = rw r.turns_are (cuts_sound pass 0 r.answers)

below8 : (P : ℕ → Type 0) → P 0 → P 1 → P 2 → P 3 → P 4 → P 5 → P 6 → P 7 → (n : ℕ) → n < 8 → P n
below8 P p0 p1 p2 p3 p4 p5 p6 p7 zero l = p0
below8 P p0 p1 p2 p3 p4 p5 p6 p7 (suc zero) l = p1
below8 P p0 p1 p2 p3 p4 p5 p6 p7 (suc (suc zero)) l = p2
below8 P p0 p1 p2 p3 p4 p5 p6 p7 (suc (suc (suc zero))) l = p3
below8 P p0 p1 p2 p3 p4 p5 p6 p7 (suc (suc (suc (suc zero)))) l = p4
below8 P p0 p1 p2 p3 p4 p5 p6 p7 (suc (suc (suc (suc (suc zero))))) l = p5
below8 P p0 p1 p2 p3 p4 p5 p6 p7 (suc (suc (suc (suc (suc (suc zero)))))) l = p6
below8 P p0 p1 p2 p3 p4 p5 p6 p7 (suc (suc (suc (suc (suc (suc (suc zero))))))) l = p7
below8 P p0 p1 p2 p3 p4 p5 p6 p7 (suc (suc (suc (suc (suc (suc (suc (suc n)))))))) l = absurd (omega arith)

below4 : (P : ℕ → Type 0) → P 0 → P 1 → P 2 → P 3 → (n : ℕ) → n < 4 → P n
below4 P p0 p1 p2 p3 zero l = p0
below4 P p0 p1 p2 p3 (suc zero) l = p1
below4 P p0 p1 p2 p3 (suc (suc zero)) l = p2
below4 P p0 p1 p2 p3 (suc (suc (suc zero))) l = p3
below4 P p0 p1 p2 p3 (suc (suc (suc (suc n)))) l = absurd (omega arith)

-- ---- all turns of a jam

jam_sound : (seed count : ℕ) (turns : List (Made DeskTurn)) → IsJam seed count turns → (pass : ℕ) → pass < 8 → Each pass (turns_by pass turns)
jam_sound seed count turns jam =
    let w = jam.workers in
    below8 (λ (pass : ℕ). Each pass (turns_by pass turns)) caller
    (steps_sound 0 (start_of seed 0) count (turns_by 1 turns) w.0)
    (steps_sound 1 (start_of seed 1) count (turns_by 2 turns) w.1.0)
    (steps_sound 2 (start_of seed 2) count (turns_by 3 turns) w.1.1.0)
    (steps_sound 3 (start_of seed 3) count (turns_by 4 turns) w.1.1.1.0)
    (report_sound 5 1 count (turns_by 5 turns) w.1.1.1.1.0)
    (report_sound 6 2 count (turns_by 6 turns) w.1.1.1.1.1.0)
    (sender_sound 7 count (turns_by 7 turns) w.1.1.1.1.1.1.0)
  where
    last : Each 0 jam.last
    last = rw jam.cuts.turns_are (cut_sound 0 (tick_at count) jam.cuts.answer, tt)

    joins : Each 0 jam.opens.joining
    joins = rw jam.opens.joins.turns_are (record { memory = λ e. absurd cc; apart = λ player off. refl }, (record { memory = λ e. absurd cc; apart = λ player off. refl }, tt))

    enters : Each 0 jam.opens.entering
    enters = rw jam.opens.enters.turns_are (enters_sound 0 jam.opens.enters.answers)

    caller : Each 0 (turns_by 0 turns)
    caller = rw (jam.caller, jam.opens.turns_are) (each-append 0 (jam.opens.entering ++ jam.opens.joining) jam.last (each-append 0 jam.opens.entering jam.opens.joining enters joins) last)

-- so it is of each turn in the whole history
abbrev AllMade : List (Made DeskTurn) → Type 0
AllMade [] = Unit {0}
AllMade (m ∷ turns) = Sound m.by m.what × AllMade turns

first_of : (m : Made DeskTurn) (turns : List (Made DeskTurn)) → Each m.by (turns_by m.by (m ∷ turns)) → Sound m.by m.what
first_of m turns h = let t : (m.by == m.by) ≡ true = eq-eqb m.by m.by refl in (rw t at h).0

rest_of : (pass : ℕ) (m : Made DeskTurn) (turns : List (Made DeskTurn)) → Each pass (turns_by pass (m ∷ turns)) → Each pass (turns_by pass turns)
rest_of pass m turns h = elim (cases_Bool (m.by == pass)) [ inl t ↦ (rw t at h).1 | inr t ↦ (rw t at h) ]

all_made : (turns : List (Made DeskTurn)) → Everyone (λ (by : ℕ). by < 8) turns → ((pass : ℕ) → pass < 8 → Each pass (turns_by pass turns)) → AllMade turns
all_made [] each h = tt
all_made (m ∷ turns) each h = (first_of m turns (h m.by each.0), all_made turns each.1 (λ pass few. rest_of pass m turns (h pass few)))

memories : (turns : List (Made DeskTurn)) → AllMade turns → AllTurns (λ turn. turn.outcome ≢ outcome.NoMemory) turns
memories [] h = tt
memories (m ∷ turns) h = (h.0.memory, memories turns h.1)

pub has_memory : (seed count : ℕ) (turns : List (Made DeskTurn)) → IsJam seed count turns → AllTurns (λ turn. turn.outcome ≢ outcome.NoMemory) turns
has_memory seed count turns jam = memories turns (all_made turns jam.each (jam_sound seed count turns jam))

-- ---- a player's commands on the tape

untaken : (player : ℕ) (turn : DeskTurn) (b : Bool) → played_by player (turn.call ∷ []) ≡ [] → played_by player (if b then turn.call ∷ [] else []) ≡ []
untaken player turn true h = h
untaken player turn false h = refl

plays_own : (player : ℕ) (turns : List (Made DeskTurn)) → AllMade turns → played_by player (taken turns) ≡ plays_in player (turns_by (player + 1) turns)
plays_own player [] h = refl
plays_own player (m ∷ turns) h =
    let apart = played_by-append player (step_of m.what) (taken turns) in
    let ih = plays_own player turns h.1 in
    elim (cases_Bool (m.by == player + 1)) [
      | inl t ↦ rw t (apart ∙ ap (λ (l : List Command). played_by player (step_of m.what) ++ l) ih)
      | inr t ↦ rw t (apart ∙ (ap (λ (l : List Command). l ++ played_by player (taken turns)) (untaken player m.what (is_taken m.what.outcome) (h.0.apart player t)) ∙ ih))
    ]

own_play : (player : ℕ) (command : Command) (tick : ℕ) (b : Bool) → played_by player (if b then step.Play player command tick ∷ [] else []) ≡ (if b then command ∷ [] else [])
own_play player command tick true = let t : (player == player) ≡ true = eq-eqb player player refl in rw t refl
own_play player command tick false = refl

own_cut : (player tick : ℕ) (b : Bool) → played_by player (if b then step.Cut tick ∷ [] else []) ≡ []
own_cut player tick true = refl
own_cut player tick false = refl

refused : (answer : Played) → needs_cut answer ≡ true → is_accepted answer ≡ false
refused (played.Accepted serial kept) h = absurd cc
refused (played.Refused why command) h = refl

-- an answer that ends a step otherwise than by a cut is that the tape is full
settled_as : (why : PlayFault) (command : Command) → needs_cut (played.Refused why command) ≡ false → is_foreseen (played.Refused why command) ≡ true → is_barring (outcome.Played (played.Refused why command)) ≡ true
settled_as (refusal.RecordFull events) command done seen = refl
settled_as (refusal.NeedsCut pending octets delta) command done seen = absurd cc
settled_as (refusal.UnknownPlayer) command done seen = absurd cc
settled_as (refusal.ParamsFull channel kept) command done seen = absurd cc
settled_as (refusal.PolyFull channel kept) command done seen = absurd cc
settled_as (refusal.SysexFull logs octets) command done seen = absurd cc

barring_cut : (cut : Cutted) → is_packet cut ≡ false → is_barring (outcome.Cut cut) ≡ true
barring_cut (cutted.Packet number) none = absurd cc
barring_cut (cutted.RecordFull events) none = refl
barring_cut (cutted.Behind ssrc mark) none = refl

other_cut : (cut : Cutted) → is_packet cut ≡ true → is_barring (outcome.Cut cut) ≡ false
other_cut (cutted.Packet number) packet = refl
other_cut (cutted.RecordFull events) packet = absurd cc
other_cut (cutted.Behind ssrc mark) packet = absurd cc

fault_needs : (why : PlayFault) (command : Command) → is_needs_cut why ≡ true → is_barring (outcome.Played (played.Refused why command)) ≡ false
fault_needs (refusal.NeedsCut pending octets delta) command needs = refl
fault_needs (refusal.RecordFull events) command needs = absurd cc
fault_needs refusal.UnknownPlayer command needs = absurd cc
fault_needs (refusal.ParamsFull channel kept) command needs = absurd cc
fault_needs (refusal.PolyFull channel kept) command needs = absurd cc
fault_needs (refusal.SysexFull logs octets) command needs = absurd cc

other_play : (answer : Played) → needs_cut answer ≡ true → is_barring (outcome.Played answer) ≡ false
other_play (played.Accepted serial kept) needs = refl
other_play (played.Refused why command) needs = fault_needs why command needs

-- of one step
step_plays : (player start step tick : ℕ) (turns : List DeskTurn) → player < 4 → AllForeseen turns → PlaysStep player (made player start step) tick turns → plays_in player turns ≡ (if is_left_out turns then [] else made player start step ∷ [])
step_plays player start step tick turns few seen (settled (played.Accepted serial kept) done) = rw (eq-eqb player player refl) refl
step_plays player start step tick turns few seen (settled (played.Refused why command) done) =
    rw (settled_as why command done (seen.0 player tick (made player start step) (played.Refused why command) refl (made_fits player start step) few)) refl
step_plays player start step tick turns few seen (not_cut answer cut needs none) =
    rw (own_play player (made player start step) tick (is_accepted answer), refused answer needs, own_cut player tick (is_packet cut), other_play answer needs, barring_cut cut none) refl
step_plays player start step tick turns few seen (cut_first answer cut more needs packet plays) =
    rw (own_play player (made player start step) tick (is_accepted answer), refused answer needs, own_cut player tick (is_packet cut), other_play answer needs, other_cut cut packet)
    (step_plays player start step tick more few seen.1.1 plays)

-- of all
steps_give : (player start steps : ℕ) (turns : List DeskTurn) → player < 4 → AllForeseen turns → PlaysSteps player start steps turns → PlaysGive player start steps turns (plays_in player turns)
steps_give player start zero turns few seen h = (h, ap (plays_in player) h)
steps_give player start (suc step) turns few seen (before, now, e, did, plays) =
    let apart = foreseen-apart before now (subst (λ (l : List DeskTurn). AllForeseen l) e seen) in (
      before,
      now,
      plays_in player before,
      e,
      steps_give player start step before few apart.0 did,
      plays,
      ap (plays_in player) e ∙ (plays_in-append player before now ∙ ap (λ (l : List Command). plays_in player before ++ l) (step_plays player start step (tick_at step) now few apart.1 plays)),
    )

pub tape_has : (seed count : ℕ) (turns : List (Made DeskTurn)) → IsJam seed count turns → (player : ℕ) → player < 4 → PlaysGive player (start_of seed player) count (turns_by (player + 1) turns) (played_by player (taken turns))
tape_has seed count turns jam player few =
    let made_all = all_made turns jam.each (jam_sound seed count turns jam) in
    subst (λ (l : List Command). PlaysGive player (start_of seed player) count (turns_by (player + 1) turns) l) (sym (plays_own player turns made_all)) (gives player few)
  where
    gives : (p : ℕ) → p < 4 → PlaysGive p (start_of seed p) count (turns_by (p + 1) turns) (plays_in p (turns_by (p + 1) turns))
    gives p less =
        let w = jam.workers in
        below4 (λ (p : ℕ). PlaysGive p (start_of seed p) count (turns_by (p + 1) turns) (plays_in p (turns_by (p + 1) turns)))
        (steps_give 0 (start_of seed 0) count (turns_by 1 turns) (omega arith) (turns_foreseen seed count turns jam 1) w.0)
        (steps_give 1 (start_of seed 1) count (turns_by 2 turns) (omega arith) (turns_foreseen seed count turns jam 2) w.1.0)
        (steps_give 2 (start_of seed 2) count (turns_by 3 turns) (omega arith) (turns_foreseen seed count turns jam 3) w.1.1.0)
        (steps_give 3 (start_of seed 3) count (turns_by 4 turns) (omega arith) (turns_foreseen seed count turns jam 4) w.1.1.1.0)
        p less
