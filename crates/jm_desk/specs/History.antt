-- Histories of turns at a desk: what each call is answered, which steps were taken, and which histories can come about.
use Rattle.std.specs.Prelude.{◌≡◌, ◌≢◌, ◌-◌, Bool, false, if◌then◌else◌, List, [], ◌∷◌, ◌++◌, length, take}
use Rattle.jm_turn.specs.declared.view.Made.{Made}
use Rattle.jm_book.specs.declared.steps.Config.{Config}
use Rattle.jm_book.specs.declared.steps.Step.{Step}
use Rattle.jm_book.specs.declared.steps.Step.TheVariants as step
use Rattle.jm_book.specs.Answers.{is_entered, is_accepted, is_packet, is_moved, is_joined, is_left, is_noted, is_given, is_said}
use Rattle.jm_book.specs.BookAnswers.{enter_answer, play_answer, cut_answer, ack_answer, join_answer, leave_answer, hear_answer, feedback_answer, say_answer}
use Rattle.jm_desk.specs.declared.turn.DeskTurn.{DeskTurn}
use Rattle.jm_desk.specs.declared.turn.Outcome.{Outcome}
use Rattle.jm_desk.specs.declared.turn.Outcome.TheVariants as outcome
use Rattle.jm_desk.specs.declared.held.Held.{Held}

abbrev pub turned : Step → Outcome → DeskTurn
turned call came = record { call = call; outcome = came }

-- what the book answers to a call after these steps
abbrev pub answer_to : Config → List Step → Step → Outcome
answer_to config steps step.Enter = outcome.Entered (enter_answer config steps)
answer_to config steps (step.Play player command tick) = outcome.Played (play_answer config steps player command tick)
answer_to config steps (step.Cut tick) = outcome.Cut (cut_answer config steps)
answer_to config steps (step.Ack ssrc seq) = outcome.Acked (ack_answer config steps ssrc seq)
answer_to config steps (step.Join ssrc) = outcome.Joined (join_answer config steps ssrc)
answer_to config steps (step.Leave ssrc) = outcome.Gone (leave_answer config steps ssrc)
answer_to config steps (step.Hear ssrc seq) = outcome.Heard (hear_answer config steps ssrc)
answer_to config steps step.Feedback = outcome.Given (feedback_answer config steps)
answer_to config steps (step.Say port from message now) = outcome.Said (say_answer config steps port from message now)

-- whether the call's step was taken
abbrev pub is_taken : Outcome → Bool
is_taken (outcome.Entered answer) = is_entered answer
is_taken (outcome.Played answer) = is_accepted answer
is_taken (outcome.Cut answer) = is_packet answer
is_taken (outcome.Acked answer) = is_moved answer
is_taken (outcome.Joined answer) = is_joined answer
is_taken (outcome.Gone answer) = is_left answer
is_taken (outcome.Heard answer) = is_noted answer
is_taken (outcome.Given answer) = is_given answer
is_taken (outcome.Said answer) = is_said answer
is_taken outcome.NoMemory = false

-- the turn's step, if it was taken
abbrev pub step_of : DeskTurn → List Step
step_of turn = if is_taken turn.outcome then turn.call ∷ [] else []

-- the steps that were taken in these turns, in order
abbrev pub taken : List (Made DeskTurn) → List Step
taken [] = []
taken (m ∷ turns) = step_of m.what ++ taken turns

-- the outcome is the answer after these steps, unless there was no memory
abbrev pub IsAnswer : Config → List Step → DeskTurn → Type 0
IsAnswer config steps turn = turn.outcome ≢ outcome.NoMemory → turn.outcome ≡ answer_to config steps turn.call

-- each outcome is the answer after the steps before, and those taken in the turns before it
abbrev pub AreAnswers : Config → (before : List Step) → List (Made DeskTurn) → Type 0
AreAnswers config before [] = Unit {0}
AreAnswers config before (m ∷ turns) = IsAnswer config before m.what × AreAnswers config (before ++ step_of m.what) turns

-- the turns are a legal history of a session of this configuration
abbrev pub IsHistory : Config → List (Made DeskTurn) → Type 0
IsHistory config turns = AreAnswers config [] turns

-- the book has taken just the steps of these turns, which are a legal history
pub record StandsFor (first now : Held) (turns : List (Made DeskTurn)) : Type 0 where
  pub config : now.book.config ≡ first.book.config
  pub steps : now.book.steps ≡ taken turns
  pub legal : IsHistory first.book.config turns

-- all turns but the last
abbrev pub before_last : List (Made DeskTurn) → List (Made DeskTurn)
before_last turns = take (length turns - 1) turns

-- the steps that were taken before the last turn
abbrev pub steps_before : List (Made DeskTurn) → List Step
steps_before turns = taken (before_last turns)
