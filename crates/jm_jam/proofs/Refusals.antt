-- Which refusals a play meets in a jam: each player entered before any worker came, and each command that is made fits.
use Rattle.std.proofs.Common.{◌≡◌, ℕ, ◌+◌, ◌<◌, ◌≤◌, ◌==◌, Bool, true, false, not, nat_lt, nat_le, if◌then◌else◌, List, [], ◌∷◌, ◌++◌, length, Option, Some, None, refl, sym, ap, subst, ◌∙◌, inl, inr, arith, append_assoc, length-append}
use Rattle.std.specs.Prelude.{◌-◌, ◌%◌}
use Rattle.std.proofs.lemmas.Bool.{cases_Bool}
use Rattle.std.proofs.lemmas.Bool.Decides.{nat_tests}
use Rattle.jm_cmds.specs.declared.commands.Command.{Command}
use Rattle.jm_cmds.specs.declared.commands.Command.TheVariants.{NoteOn, NoteOff, Control, Wheel}
use Rattle.jm_cmds.specs.declared.history.Sent.{Sent}
use Rattle.jm_cmds.specs.Control.{is_entry}
use Rattle.jm_journal.specs.declared.fits.Fit.{Fit}
use Rattle.jm_journal.specs.declared.fits.Fit.TheVariants as fit
use Rattle.jm_journal.specs.Limits.{fit_of}
use Rattle.jm_turn.specs.declared.view.Made.{Made}
use Rattle.jm_book.specs.declared.steps.Config.{Config}
use Rattle.jm_book.specs.declared.steps.Step.{Step}
use Rattle.jm_book.specs.declared.steps.Step.TheVariants as step
use Rattle.jm_book.specs.declared.answers.Entered.{Entered}
use Rattle.jm_book.specs.declared.answers.Played.{Played}
use Rattle.jm_book.specs.declared.answers.Played.TheVariants as played
use Rattle.jm_book.specs.declared.answers.PlayFault.{PlayFault}
use Rattle.jm_book.specs.declared.answers.PlayFault.TheVariants as refusal
use Rattle.jm_book.specs.Segments.{Segment}
use Rattle.jm_book.specs.Stream.{sent_of, pending_of}
use Rattle.jm_book.specs.Session.{session_of, members_of, checkpoint_of}
use Rattle.jm_book.specs.Answers.{is_known, fit_refusal, or_else, members_play, is_behind_others, needs_cut, cut_refusal, list_with, delta_with, played_as, is_entered}
use Rattle.jm_book.specs.BookAnswers.{has_room, enter_answer, play_answer}
use Rattle.jm_book.specs.MembersConduct.{enter_count}
use Rattle.jm_book.specs.EnterLaws.{counts_players}
use Rattle.jm_desk.specs.declared.turn.DeskTurn.{DeskTurn}
use Rattle.jm_desk.specs.declared.turn.Outcome.TheVariants as outcome
use Rattle.jm_desk.specs.History.{step_of, IsAnswer, AreAnswers}
use Rattle.jm_desk.specs.OwnTurns.{turns_by}
use Rattle.jm_jam.specs.Made.{made, note_at}
use Rattle.jm_jam.specs.Workers.{play_turn}
use Rattle.jm_jam.specs.Plays.{AllTurns}
use Rattle.jm_jam.specs.Whole.{jam_config, enter_turns, by_caller, IsJam}

-- ---- each command that is made fits

abbrev pub AlwaysFits : Command → Type 0
AlwaysFits command = (checkpoint : ℕ) (sent : List Sent) → fit_of checkpoint sent command ≡ fit.Yes

picked_fits : (channel note earlier velocity : ℕ) (struck first fifth sixth : Bool) → AlwaysFits (if struck then NoteOn channel note velocity else if first then NoteOff channel earlier 64 else if fifth then NoteOff channel note 64 else if sixth then Control channel 7 note else Wheel channel 0 note)
unfolding fit_of is_entry
picked_fits channel note earlier velocity true first fifth sixth = λ checkpoint sent. refl
picked_fits channel note earlier velocity false true fifth sixth = λ checkpoint sent. refl
picked_fits channel note earlier velocity false false true sixth = λ checkpoint sent. refl
picked_fits channel note earlier velocity false false false true = λ checkpoint sent. refl
picked_fits channel note earlier velocity false false false false = λ checkpoint sent. refl

pub made_fits : (player start step : ℕ) → AlwaysFits (made player start step)
made_fits player start step =
    let place = step % 8 in
    picked_fits player (note_at start step) (note_at start (step - 4)) (1 + step % 127) (nat_lt place 4) (place == 4) (place == 5) (place == 6)

-- ---- what a play is answered

-- it is accepted, or refused since the tape is full, or since a cut has to come first
abbrev pub is_foreseen : Played → Bool
is_foreseen (played.Accepted serial kept) = true
is_foreseen (played.Refused (refusal.RecordFull events) command) = true
is_foreseen (played.Refused (refusal.NeedsCut pending octets delta) command) = true
is_foreseen _ = false

needs_foreseen : (serial : ℕ) (command : Command) (needs : Bool) (pending octets delta : ℕ) → is_foreseen (played_as serial command (if needs then Some (refusal.NeedsCut pending octets delta) else None)) ≡ true
needs_foreseen serial command true pending octets delta = refl
needs_foreseen serial command false pending octets delta = refl

cut_foreseen : (serial : ℕ) (command : Command) (waiting : List Segment) (behind : Bool) (pending octets delta : ℕ) → is_foreseen (played_as serial command (cut_refusal waiting behind pending octets delta)) ≡ true
cut_foreseen serial command [] behind pending octets delta = needs_foreseen serial command (needs_cut behind pending octets delta) pending octets delta
cut_foreseen serial command (segment ∷ others) behind pending octets delta = refl

foreseen_as : (serial : ℕ) (command : Command) (known room : Bool) (events : ℕ) (cut : Option PlayFault) → known ≡ true → is_foreseen (played_as serial command cut) ≡ true → is_foreseen (played_as serial command (if not known then Some refusal.UnknownPlayer else if not room then Some (refusal.RecordFull events) else or_else (fit_refusal fit.Yes) cut)) ≡ true
foreseen_as serial command false room events cut h foreseen = absurd cc
foreseen_as serial command true false events cut h foreseen = refl
foreseen_as serial command true true events cut h foreseen = foreseen

play_foreseen : (config : Config) (steps : List Step) (player : ℕ) (command : Command) (tick : ℕ) → AlwaysFits command → player < 4 → 4 ≤ enter_count steps → is_foreseen (play_answer config steps player command tick) ≡ true
play_foreseen config steps player command tick fits few enough =
    let s = session_of config steps in
    let entered : s.members.entered ≡ enter_count steps = (counts_players config steps).0 in
    let low : nat_lt player 64 ≡ true = grind (arith, nat_tests, few) in
    let here : nat_lt player s.members.entered ≡ true = grind (arith, nat_tests, few, enough, entered) in
    let known : is_known s.members player ≡ true = rw low here in
    let pending = length s.stream.pending in
    let octets = list_with s.stream command tick in
    let delta = delta_with s.stream tick in
    let behind = is_behind_others command pending in
    let cut = cut_refusal s.stream.waiting behind pending octets delta in
    let answered = foreseen_as s.stream.plays command (is_known s.members player) (has_room config steps) config.events cut known (cut_foreseen s.stream.plays command s.stream.waiting behind pending octets delta) in
    subst (λ (f : Fit). is_foreseen (played_as s.stream.plays command (members_play (has_room config steps) config.events s.members player f cut)) ≡ true)
    (sym (fits (checkpoint_of s) (sent_of s.stream ++ pending_of s.stream))) answered

-- a play of one of the four players is answered so, where its command always fits
abbrev pub Foreseen : DeskTurn → Type 0
Foreseen turn = (player tick : ℕ) (command : Command) (answer : Played) → turn ≡ play_turn player command tick answer → AlwaysFits command → player < 4 → is_foreseen answer ≡ true

turn_foreseen : (config : Config) (before : List Step) (turn : DeskTurn) → IsAnswer config before turn → 4 ≤ enter_count before → Foreseen turn
turn_foreseen config before turn h enough = λ player tick command answer is fits few.
    let own : IsAnswer config before (play_turn player command tick answer) = subst (λ (t : DeskTurn). IsAnswer config before t) is h in
    let told : outcome.Played answer ≡ outcome.Played (play_answer config before player command tick) = own (λ e. absurd cc) in
    let same : play_answer config before player command tick ≡ answer = cc in
    subst (λ (a : Played). is_foreseen a ≡ true) same (play_foreseen config before player command tick fits few enough)

-- ---- behind four players

counts_both : (xs ys : List Step) → enter_count (xs ++ ys) ≡ enter_count xs + enter_count ys
counts_both [] ys = omega arith
counts_both (step.Enter ∷ xs) ys = omega (arith, counts_both xs ys)
counts_both (step.Play player command tick ∷ xs) ys = counts_both xs ys
counts_both (step.Cut tick ∷ xs) ys = counts_both xs ys
counts_both (step.Ack ssrc seq ∷ xs) ys = counts_both xs ys
counts_both (step.Join ssrc ∷ xs) ys = counts_both xs ys
counts_both (step.Leave ssrc ∷ xs) ys = counts_both xs ys
counts_both (step.Hear ssrc seq ∷ xs) ys = counts_both xs ys
counts_both (step.Feedback ∷ xs) ys = counts_both xs ys
counts_both (step.Say port from message now ∷ xs) ys = counts_both xs ys

all_foreseen : (config : Config) (before : List Step) (turns : List (Made DeskTurn)) → AreAnswers config before turns → 4 ≤ enter_count before → AllTurns Foreseen turns
all_foreseen config before [] h enough = tt
all_foreseen config before (m ∷ turns) h enough =
    let more : 4 ≤ enter_count (before ++ step_of m.what) = omega (arith, counts_both before (step_of m.what), enough) in
    (turn_foreseen config before m.what h.0 enough, all_foreseen config (before ++ step_of m.what) turns h.1 more)

-- a player enters where few did, and few steps were taken
enters_well : (before : List Step) → enter_count before < 64 → length before < 64 → is_entered (enter_answer jam_config before) ≡ true
enters_well before few short =
    let entered : (members_of jam_config before).entered ≡ enter_count before = (counts_players jam_config before).0 in
    let room : nat_lt (length before) 4194304 ≡ true = grind (arith, nat_tests, short) in
    let many : nat_le 64 (members_of jam_config before).entered ≡ false = grind (arith, nat_tests, few, entered) in
    rw (room, many) refl

-- steps were taken in which all of these entered, and what came then is answered after them
enters_in : (before : List Step) (answers : List Entered) (more : List (Made DeskTurn)) → enter_count before + length answers < 64 → length before + length answers < 64 → AreAnswers jam_config before (by_caller (enter_turns answers) ++ more) → (steps : List Step) × (enter_count steps ≡ enter_count before + length answers) × AreAnswers jam_config steps more
enters_in before [] more few short h = (before, omega arith, h)
enters_in before (answer ∷ answers) more few short h =
    let told : outcome.Entered answer ≡ outcome.Entered (enter_answer jam_config before) = h.0 (λ e. absurd cc) in
    let same : enter_answer jam_config before ≡ answer = cc in
    let came : is_entered answer ≡ true = subst (λ (a : Entered). is_entered a ≡ true) same (enters_well before (omega (arith, few)) (omega (arith, short))) in
    let one : enter_count (before ++ step.Enter ∷ []) ≡ enter_count before + 1 = counts_both before (step.Enter ∷ []) in
    let far : length (before ++ step.Enter ∷ []) ≡ length before + 1 = length-append before (step.Enter ∷ []) in
    let others = enters_in (before ++ step.Enter ∷ []) answers more (omega (arith, one, few)) (omega (arith, far, short)) (rw came at h.1) in
    (others.0, omega (arith, one, others.1), others.2)

-- ---- in a jam

enters_foreseen : (answers : List Entered) → AllTurns Foreseen (by_caller (enter_turns answers))
enters_foreseen [] = tt
enters_foreseen (answer ∷ answers) = (λ player tick command played is fits few. absurd (other player tick command (ap (λ (t : DeskTurn). t.call) is)), enters_foreseen answers)
  where
    other : (player tick : ℕ) (command : Command) → step.Enter ≡ step.Play player command tick → ⊥
    other player tick command h = absurd cc

all-append : (P : DeskTurn → Type 0) (xs ys : List (Made DeskTurn)) → AllTurns P xs → AllTurns P ys → AllTurns P (xs ++ ys)
all-append P [] ys h i = i
all-append P (x ∷ xs) ys h i = (h.0, all-append P xs ys h.1 i)

by_caller-append : (xs ys : List DeskTurn) → by_caller (xs ++ ys) ≡ by_caller xs ++ by_caller ys
by_caller-append [] ys = refl
by_caller-append (x ∷ xs) ys = ap (λ (l : List (Made DeskTurn)). record { by = 0; what = x } ∷ l) (by_caller-append xs ys)

jam_foreseen : (seed count : ℕ) (turns : List (Made DeskTurn)) → IsJam seed count turns → AllTurns Foreseen turns
jam_foreseen seed count turns jam =
    let answers = jam.opens.enters.answers in
    let more = by_caller jam.opens.joining ++ jam.rest in
    let opening : by_caller jam.opening ≡ by_caller (enter_turns answers) ++ by_caller jam.opens.joining =
    ap by_caller (jam.opens.turns_are ∙ ap (λ (l : List DeskTurn). l ++ jam.opens.joining) jam.opens.enters.turns_are) ∙ by_caller-append (enter_turns answers) jam.opens.joining in
    let order : turns ≡ by_caller (enter_turns answers) ++ more =
    jam.in_order ∙ (ap (λ (l : List (Made DeskTurn)). l ++ jam.rest) opening ∙ append_assoc (by_caller (enter_turns answers)) (by_caller jam.opens.joining) jam.rest) in
    let legal : AreAnswers jam_config [] (by_caller (enter_turns answers) ++ more) = subst (λ (l : List (Made DeskTurn)). AreAnswers jam_config [] l) order jam.legal in
    let four : length answers ≡ 4 = jam.opens.enters.count_is in
    let came = enters_in [] answers more (omega (arith, four)) (omega (arith, four)) legal in
    subst (λ (l : List (Made DeskTurn)). AllTurns Foreseen l) (sym order)
    (all-append Foreseen (by_caller (enter_turns answers)) more (enters_foreseen answers) (all_foreseen jam_config came.0 more came.2 (omega (arith, came.1, four))))

-- ---- of one pass

abbrev pub AllForeseen : List DeskTurn → Type 0
AllForeseen [] = Unit {0}
AllForeseen (turn ∷ turns) = Foreseen turn × AllForeseen turns

pub foreseen-apart : (xs ys : List DeskTurn) → AllForeseen (xs ++ ys) → AllForeseen xs × AllForeseen ys
foreseen-apart [] ys h = (tt, h)
foreseen-apart (x ∷ xs) ys h = let apart = foreseen-apart xs ys h.1 in ((h.0, apart.0), apart.1)

own_foreseen : (n : ℕ) (turns : List (Made DeskTurn)) → AllTurns Foreseen turns → AllForeseen (turns_by n turns)
own_foreseen n [] h = tt
own_foreseen n (m ∷ turns) h = elim (cases_Bool (m.by == n)) [ inl t ↦ rw t (h.0, own_foreseen n turns h.1) | inr t ↦ rw t (own_foreseen n turns h.1) ]

-- so it is of each player's turns
pub turns_foreseen : (seed count : ℕ) (turns : List (Made DeskTurn)) → IsJam seed count turns → (pass : ℕ) → AllForeseen (turns_by pass turns)
turns_foreseen seed count turns jam pass = own_foreseen pass turns (jam_foreseen seed count turns jam)
