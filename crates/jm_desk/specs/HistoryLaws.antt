-- Lemmas on histories of turns.
use Rattle.std.proofs.Common.{◌≡◌, ◌≢◌, ℕ, ◌-◌, Bool, true, false, if◌then◌else◌, List, [], ◌∷◌, ◌++◌, length, refl, sym, ap, ◌∙◌, arith, append_assoc, append-nil, length-append}
use Rattle.std.proofs.Math.Seq.{take-append_seam}
use Rattle.jm_turn.specs.declared.view.Made.{Made}
use Rattle.jm_turn.specs.Turns.{made}
use Rattle.jm_book.specs.declared.steps.Config.{Config}
use Rattle.jm_book.specs.declared.steps.Step.{Step}
use Rattle.jm_book.specs.declared.steps.Step.TheVariants as step
use Rattle.jm_book.specs.Book.{Takes}
use Rattle.jm_book.specs.BookAnswers.{has_room}
use Rattle.jm_book.specs.Session.{session_of}
use Rattle.jm_book.specs.Legal.{takes, AreTaken}
use Rattle.jm_desk.specs.declared.turn.DeskTurn.{DeskTurn}
use Rattle.jm_desk.specs.declared.turn.Outcome.{Outcome}
use Rattle.jm_desk.specs.declared.turn.Outcome.TheVariants as outcome
use Rattle.jm_desk.specs.declared.held.Held.{Held}
use Rattle.jm_desk.specs.History.{turned, answer_to, is_taken, step_of, taken, IsAnswer, AreAnswers, StandsFor, before_last}

-- ---- one turn more

pub taken_push : (turns : List (Made DeskTurn)) (m : Made DeskTurn) → taken (turns ++ m ∷ []) ≡ taken turns ++ step_of m.what
taken_push [] m = append-nil (step_of m.what)
taken_push (first ∷ turns) m = rw (taken_push turns m) (sym (append_assoc (step_of first.what) (taken turns) (step_of m.what)))

pub answers_push : (config : Config) (before : List Step) (turns : List (Made DeskTurn)) (m : Made DeskTurn) → AreAnswers config before turns → IsAnswer config (before ++ taken turns) m.what → AreAnswers config before (turns ++ m ∷ [])
answers_push config before [] m h is = (rw (append-nil before) at is, tt)
answers_push config before (first ∷ turns) m h is =
    (h.0, answers_push config (before ++ step_of first.what) turns m h.1 (rw (append_assoc before (step_of first.what) (taken turns)) is))

pub answers_pop : (config : Config) (before : List Step) (turns : List (Made DeskTurn)) (m : Made DeskTurn) → AreAnswers config before (turns ++ m ∷ []) → AreAnswers config before turns × IsAnswer config (before ++ taken turns) m.what
answers_pop config before [] m h = (tt, rw (append-nil before) h.0)
answers_pop config before (first ∷ turns) m h =
    let apart = answers_pop config (before ++ step_of first.what) turns m h.1 in
    ((h.0, apart.0), rw (append_assoc before (step_of first.what) (taken turns)) at apart.1)

pub before_last-push : (turns : List (Made DeskTurn)) (m : Made DeskTurn) → before_last (turns ++ m ∷ []) ≡ turns
before_last-push turns m =
    let count : length (turns ++ m ∷ []) - 1 ≡ length turns = omega (arith, length-append turns (m ∷ [])) in
    rw count (take-append_seam turns (m ∷ []))

-- ---- the book after a turn

steps_then : (taken : Bool) (steps : List Step) (call : Step) → (if taken then steps ++ call ∷ [] else steps) ≡ steps ++ (if taken then call ∷ [] else [])
steps_then true steps call = refl
steps_then false steps call = sym (append-nil steps)

-- the book answered a call, and took its step where the answer says so
pub stands_after : (first old new : Held) (turns : List (Made DeskTurn)) (by : ℕ) (call : Step) (came : Outcome) → StandsFor first old turns → came ≡ answer_to old.book.config old.book.steps call → Takes old.book new.book (is_taken came) call → StandsFor first new (turns ++ made by (turned call came) ∷ [])
stands_after first old new turns by call came s is t =
    let answer : came ≡ answer_to first.book.config (taken turns) call =
    is ∙ (ap (λ c. answer_to c old.book.steps call) s.config ∙ ap (λ l. answer_to first.book.config l call) s.steps) in
    record {
      config = t.config ∙ s.config;
      steps = t.steps ∙ (steps_then (is_taken came) old.book.steps call ∙ (ap (λ l. l ++ step_of (turned call came)) s.steps ∙ sym (taken_push turns (made by (turned call came)))));
      legal = answers_push first.book.config [] turns (made by (turned call came)) s.legal (λ _. answer);
    }

-- the book made room, and is else as it was
pub stands_kept : (first old new : Held) (turns : List (Made DeskTurn)) → StandsFor first old turns → new.book.config ≡ old.book.config → new.book.steps ≡ old.book.steps → StandsFor first new turns
stands_kept first old new turns s config steps = record { config = config ∙ s.config; steps = steps ∙ s.steps; legal = s.legal }

-- there was no memory, and the book is as it was
pub stands_still : (first old new : Held) (turns : List (Made DeskTurn)) (by : ℕ) (call : Step) → StandsFor first old turns → new.book.config ≡ old.book.config → new.book.steps ≡ old.book.steps → StandsFor first new (turns ++ made by (turned call outcome.NoMemory) ∷ [])
stands_still first old new turns by call s config steps =
    record {
      config = config ∙ s.config;
      steps = steps ∙ (s.steps ∙ (sym (append-nil (taken turns)) ∙ sym (taken_push turns (made by (turned call outcome.NoMemory)))));
      legal = answers_push first.book.config [] turns (made by (turned call outcome.NoMemory)) s.legal (λ some. absurd (some refl));
    }

-- ---- the steps of a history are legal

takes_is : (config : Config) (steps : List Step) (call : Step) → is_taken (answer_to config steps call) ≡ takes (has_room config steps) config.events (session_of config steps) call
takes_is config steps step.Enter = refl
takes_is config steps (step.Play player command tick) = refl
takes_is config steps (step.Cut tick) = refl
takes_is config steps (step.Ack ssrc seq) = refl
takes_is config steps (step.Join ssrc) = refl
takes_is config steps (step.Leave ssrc) = refl
takes_is config steps (step.Hear ssrc seq) = refl
takes_is config steps step.Feedback = refl
takes_is config steps (step.Say port from message now) = refl

not_none : (came : Outcome) → is_taken came ≡ true → came ≢ outcome.NoMemory
not_none came is none = let no : false ≡ true = ap is_taken (sym none) ∙ is in absurd cc

step_taken : (config : Config) (before : List Step) (turn : DeskTurn) (steps : List Step) (b : Bool) → is_taken turn.outcome ≡ b → IsAnswer config before turn → AreTaken config (before ++ (if b then turn.call ∷ [] else [])) steps → AreTaken config before ((if b then turn.call ∷ [] else []) ++ steps)
step_taken config before turn steps true e is h =
    let answer = is (not_none turn.outcome e) in
    (sym (takes_is config before turn.call) ∙ (ap is_taken (sym answer) ∙ e), h)
step_taken config before turn steps false e is h = rw (append-nil before) at h

pub steps_legal : (config : Config) (before : List Step) (turns : List (Made DeskTurn)) → AreAnswers config before turns → AreTaken config before (taken turns)
steps_legal config before [] h = tt
steps_legal config before (m ∷ turns) h = step_taken config before m.what (taken turns) (is_taken m.what.outcome) refl h.0 (steps_legal config (before ++ step_of m.what) turns h.1)
