-- The turns that a pass made, put together from its single calls.
use Rattle.std.proofs.Common.{◌≡◌, ℕ, suc, ◌+◌, true, false, List, [], ◌∷◌, ◌++◌, length, refl, sym, ap, subst, ◌∙◌, arith, append_assoc, length-append}
use Rattle.std.proofs.lemmas.List.{append-nil}
use Rattle.jm_cmds.specs.declared.commands.Command.{Command}
use Rattle.jm_turn.specs.declared.view.Made.{Made}
use Rattle.jm_turn.specs.Turns.{made, Begins}
use Rattle.jm_book.specs.declared.steps.Step.{Step}
use Rattle.jm_book.specs.declared.steps.Step.TheVariants as step
use Rattle.jm_book.specs.declared.answers.Played.{Played}
use Rattle.jm_book.specs.declared.answers.Cutted.{Cutted}
use Rattle.jm_book.specs.declared.answers.Acked.{Acked}
use Rattle.jm_book.specs.Answers.{is_packet}
use Rattle.jm_desk.specs.declared.turn.DeskTurn.{DeskTurn}
use Rattle.jm_desk.specs.declared.turn.Outcome.{Outcome}
use Rattle.jm_desk.specs.declared.turn.Outcome.TheVariants as outcome
use Rattle.jm_desk.specs.History.{turned, before_last}
use Rattle.jm_desk.specs.OwnTurns.{turns_by}
use Rattle.jm_desk.specs.Sharing.{Shared, PassView, MakesTurn}
use Rattle.jm_desk.specs.SharingLaws.{adds_own}
use Rattle.jm_jam.specs.Made.{made as command_of, tick_at}
use Rattle.jm_jam.specs.Workers.{play_turn, cut_turn, ack_turn, needs_cut, PlaysStep, next_report, report_after, report_turns, Reports, cut_turns, Cuts, GoesOn, Adds, Worked}
use Rattle.jm_jam.specs.Workers.{cut_first}
use Rattle.jm_jam.specs.Working.{GoesBefore, Trying, Playing, Reporting, Cutting}

-- ---- turns

pub begins-then : (a b c : List (Made DeskTurn)) → Begins a b → Begins b c → Begins a c
begins-then a b c first second =
    (first.0 ++ second.0, second.1 ∙ ap (λ (k : List (Made DeskTurn)). k ++ second.0) first.1 ∙ append_assoc a first.0 second.0)

pub goes_on-then : (old middle new : PassView) → GoesOn old middle → GoesOn middle new → GoesOn old new
goes_on-then old middle new first second =
    second ∙ ap (λ (p : PassView). record p { view = record p.view { stage = new.view.stage; ticket = new.view.ticket; seen = new.view.seen; mine = new.view.mine } }) first

pub adds_none : (pass : PassView) → Adds [] pass pass
adds_none pass = record {
  own = sym (append-nil (turns_by pass.view.number pass.view.seen));
  longer = ([], sym (append-nil pass.view.seen));
  places = λ own. own;
  rest = refl;
}

pub adds_call : (desk : Shared) (old new : PassView) (call : Step) (came : Outcome) → MakesTurn desk old new call came → Adds (turned call came ∷ []) old new
adds_call desk old new call came m =
    let before = before_last new.view.seen in
    let last : Made DeskTurn = made old.view.number (turned call came) in
    let seen : new.view.seen ≡ before ++ last ∷ [] = ap (λ (p : PassView). p.view.seen) m.made in
    record {
      own = adds_own desk old new call came m;
      longer = (m.more.0 ++ last ∷ [], seen ∙ ap (λ (k : List (Made DeskTurn)). k ++ last ∷ []) m.more.1 ∙ append_assoc old.view.seen m.more.0 (last ∷ []));
      places = λ _. m.own;
      rest = subst (λ (p : PassView). GoesOn old p) (sym m.made) refl;
    }

pub adds_then : (xs ys : List DeskTurn) (old middle new : PassView) → Adds xs old middle → Adds ys middle new → Adds (xs ++ ys) old new
adds_then xs ys old middle new first second =
    let n : middle.view.number ≡ old.view.number = ap (λ (p : PassView). p.view.number) first.rest in
    let own : turns_by old.view.number new.view.seen ≡ turns_by old.view.number middle.view.seen ++ ys = subst (λ (k : ℕ). turns_by k new.view.seen ≡ turns_by k middle.view.seen ++ ys) n second.own in
    record {
      own = own ∙ ap (λ (k : List DeskTurn). k ++ ys) first.own ∙ append_assoc (turns_by old.view.number old.view.seen) xs ys;
      longer = begins-then old.view.seen middle.view.seen new.view.seen first.longer second.longer;
      places = λ own. second.places (first.places own);
      rest = goes_on-then old middle new first.rest second.rest;
    }

-- nothing was done
pub undone : (program : List DeskTurn → Type 0) (pass : PassView) → Worked program false pass pass
undone program pass = record { turns = []; adds = adds_none pass; did = λ (no : false ≡ true). absurd cc }

-- a play or a cut, by equal words
pub play_adds : (desk : Shared) (old new : PassView) (player player' : ℕ) (command command' : Command) (tick tick' : ℕ) (answer : Played) → MakesTurn desk old new (step.Play player' command' tick') (outcome.Played answer)
    → player' ≡ player → command' ≡ command → tick' ≡ tick → Adds (play_turn player command tick answer ∷ []) old new
play_adds desk old new player player' command command' tick tick' answer m p c t =
    subst (λ (k : ℕ). Adds (play_turn k command tick answer ∷ []) old new) p
    (subst (λ (k : Command). Adds (play_turn player' k tick answer ∷ []) old new) c
    (subst (λ (k : ℕ). Adds (play_turn player' command' k answer ∷ []) old new) t
    (adds_call desk old new (step.Play player' command' tick') (outcome.Played answer) m)))

pub cut_adds : (desk : Shared) (old new : PassView) (tick tick' : ℕ) (answer : Cutted) → MakesTurn desk old new (step.Cut tick') (outcome.Cut answer) → tick' ≡ tick → Adds (cut_turn tick answer ∷ []) old new
cut_adds desk old new tick tick' answer m t =
    subst (λ (k : ℕ). Adds (cut_turn k answer ∷ []) old new) t (adds_call desk old new (step.Cut tick') (outcome.Cut answer) m)

-- ---- a player

module _ (player : ℕ) (command : Command) (tick : ℕ) where
  pub trying_none : (pass : PassView) → Trying player command tick pass pass
  trying_none pass = record { turns = []; adds = adds_none pass; goes = λ more plays. plays }

  -- a cut came first, and gave a packet
  pub goes_packet : (answer : Played) (cut : Cutted) → needs_cut answer ≡ true → is_packet cut ≡ true → GoesBefore player command tick (play_turn player command tick answer ∷ cut_turn tick cut ∷ [])
  goes_packet answer cut needs packet = λ more plays. cut_first answer cut more needs packet plays

  pub trying_more : (xs : List DeskTurn) (old middle new : PassView) → Trying player command tick old middle → Adds xs middle new → GoesBefore player command tick xs → Trying player command tick old new
  trying_more xs old middle new first adds goes = record {
    turns = first.turns ++ xs;
    adds = adds_then first.turns xs old middle new first.adds adds;
    goes = λ more plays. subst (λ l. PlaysStep player command tick l) (sym (append_assoc first.turns xs more)) (first.goes (xs ++ more) (goes more plays));
  }

  -- the step came to its end
  pub step_done : (xs : List DeskTurn) (old middle new : PassView) → Trying player command tick old middle → Adds xs middle new → PlaysStep player command tick xs → Worked (PlaysStep player command tick) true old new
  step_done xs old middle new first adds plays = record {
    turns = first.turns ++ xs;
    adds = adds_then first.turns xs old middle new first.adds adds;
    did = λ _. first.goes xs plays;
  }

-- there was no memory
pub not_done : (program : List DeskTurn → Type 0) (xs ys : List DeskTurn) (old middle new : PassView) → Adds xs old middle → Adds ys middle new → Worked program false old new
not_done program xs ys old middle new first second = record {
  turns = xs ++ ys;
  adds = adds_then xs ys old middle new first second;
  did = λ (no : false ≡ true). absurd cc;
}

pub playing_none : (player start : ℕ) (pass : PassView) → Playing player start 0 pass pass
playing_none player start pass = record { turns = []; adds = adds_none pass; plays = refl }

pub playing_more : (player start step : ℕ) (old middle new : PassView) → Playing player start step old middle → Worked (PlaysStep player (command_of player start step) (tick_at step)) true middle new → Playing player start (step + 1) old new
playing_more player start step old middle new first now =
    let one : suc step ≡ step + 1 = omega arith in
    let next : Playing player start (suc step) old new = record {
      turns = first.turns ++ now.turns;
      adds = adds_then first.turns now.turns old middle new first.adds now.adds;
      plays = (first.turns, now.turns, refl, first.plays, now.did refl);
    } in
    subst (λ (k : ℕ). Playing player start k old new) one next

-- ---- feedback

report-after : (number : ℕ) (xs : List Acked) (answer : Acked) → report_after number (xs ++ answer ∷ []) ≡ next_report (report_after number xs) answer
report-after number [] answer = refl
report-after number (x ∷ xs) answer = report-after (next_report number x) xs answer

report-turns : (ssrc number : ℕ) (xs : List Acked) (answer : Acked) → report_turns ssrc number (xs ++ answer ∷ []) ≡ report_turns ssrc number xs ++ ack_turn ssrc (report_after number xs) answer ∷ []
report-turns ssrc number [] answer = refl
report-turns ssrc number (x ∷ xs) answer = ap (λ l. ack_turn ssrc number x ∷ l) (report-turns ssrc (next_report number x) xs answer)

pub reporting_none : (ssrc : ℕ) (pass : PassView) → Reporting ssrc 0 1 pass pass
reporting_none ssrc pass = record { answers = []; count_is = refl; number_is = refl; adds = adds_none pass }

pub reporting_more : (ssrc count number number' : ℕ) (answer : Acked) (old middle new : PassView) → Reporting ssrc count number old middle → Adds (ack_turn ssrc number answer ∷ []) middle new → number' ≡ next_report number answer → Reporting ssrc (count + 1) number' old new
reporting_more ssrc count number number' answer old middle new first now is = record {
  answers = first.answers ++ answer ∷ [];
  count_is = omega (arith, length-append first.answers (answer ∷ []), first.count_is);
  number_is = is ∙ ap (λ (k : ℕ). next_report k answer) first.number_is ∙ sym (report-after 1 first.answers answer);
  adds = subst (λ l. Adds l old new) (ap (λ (k : ℕ). report_turns ssrc 1 first.answers ++ ack_turn ssrc k answer ∷ []) first.number_is ∙ sym (report-turns ssrc 1 first.answers answer))
      (adds_then (report_turns ssrc 1 first.answers) (ack_turn ssrc number answer ∷ []) old middle new first.adds now);
}

pub reports_done : (ssrc count made number : ℕ) (old new : PassView) → made ≡ count → Reporting ssrc made number old new → Worked (Reports ssrc count) true old new
reports_done ssrc count made number old new all r = record {
  turns = report_turns ssrc 1 r.answers;
  adds = r.adds;
  did = λ _. record { answers = r.answers; count_is = r.count_is ∙ all; turns_are = refl };
}

-- ---- the sender

cut-turns : (step : ℕ) (xs : List Cutted) (answer : Cutted) → cut_turns step (xs ++ answer ∷ []) ≡ cut_turns step xs ++ cut_turn (tick_at (step + length xs)) answer ∷ []
cut-turns step [] answer = ap (λ (k : ℕ). cut_turn (tick_at k) answer ∷ []) (omega arith)
cut-turns step (x ∷ xs) answer =
    let e : (step + 1) + length xs ≡ step + suc (length xs) = omega arith in
    ap (λ l. cut_turn (tick_at step) x ∷ l) (cut-turns (step + 1) xs answer ∙ ap (λ (k : ℕ). cut_turns (step + 1) xs ++ cut_turn (tick_at k) answer ∷ []) e)

pub cutting_none : (pass : PassView) → Cutting 0 pass pass
cutting_none pass = record { answers = []; count_is = refl; adds = adds_none pass }

pub cutting_more : (count : ℕ) (answer : Cutted) (old middle new : PassView) → Cutting count old middle → Adds (cut_turn (tick_at count) answer ∷ []) middle new → Cutting (count + 1) old new
cutting_more count answer old middle new first now =
    let e : count ≡ 0 + length first.answers = omega (arith, first.count_is) in
    record {
      answers = first.answers ++ answer ∷ [];
      count_is = omega (arith, length-append first.answers (answer ∷ []), first.count_is);
      adds = subst (λ l. Adds l old new) (ap (λ (k : ℕ). cut_turns 0 first.answers ++ cut_turn (tick_at k) answer ∷ []) e ∙ sym (cut-turns 0 first.answers answer))
          (adds_then (cut_turns 0 first.answers) (cut_turn (tick_at count) answer ∷ []) old middle new first.adds now);
    }

pub cuts_done : (count made : ℕ) (old new : PassView) → made ≡ count → Cutting made old new → Worked (Cuts count) true old new
cuts_done count made old new all r = record {
  turns = cut_turns 0 r.answers;
  adds = r.adds;
  did = λ _. record { answers = r.answers; count_is = r.count_is ∙ all; turns_are = refl };
}
