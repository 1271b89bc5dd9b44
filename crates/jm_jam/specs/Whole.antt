-- A whole jam: whose turns its history has, and what they are.
use Rattle.std.specs.Prelude.{◌≡◌, ℕ, ◌+◌, ◌<◌, List, [], ◌∷◌, ◌++◌, length, codes}
use Rattle.jm_turn.specs.declared.view.Made.{Made}
use Rattle.jm_turn.specs.Turns.{Everyone}
use Rattle.jm_book.specs.declared.steps.Config.{Config}
use Rattle.jm_book.specs.declared.steps.Step.{Step}
use Rattle.jm_book.specs.declared.steps.Step.TheVariants as step
use Rattle.jm_book.specs.declared.answers.Entered.{Entered}
use Rattle.jm_book.specs.declared.answers.Joined.{Joined}
use Rattle.jm_book.specs.declared.answers.Cutted.{Cutted}
use Rattle.jm_desk.specs.declared.turn.DeskTurn.{DeskTurn}
use Rattle.jm_desk.specs.declared.turn.Outcome.TheVariants as outcome
use Rattle.jm_desk.specs.History.{turned, taken, IsHistory}
use Rattle.jm_desk.specs.OwnTurns.{turns_by}
use Rattle.jm_jam.specs.Made.{tick_at}
use Rattle.jm_jam.specs.declared.job.Job.{Job}
use Rattle.jm_jam.specs.declared.job.Job.TheVariants.{Player, Feedback, Sender}
use Rattle.jm_jam.specs.Workers.{cut_turn, Program}

-- the session of a jam
abbrev pub jam_config : Config
jam_config = record { ssrc = 0; events = 4194304; name = codes "midi_host" }

-- ---- the caller

abbrev pub enter_turn : Entered → DeskTurn
enter_turn answer = turned step.Enter (outcome.Entered answer)

abbrev pub join_turn : (ssrc : ℕ) → Joined → DeskTurn
join_turn ssrc answer = turned (step.Join ssrc) (outcome.Joined answer)

-- players enter, and are answered so
abbrev pub enter_turns : List Entered → List DeskTurn
enter_turns [] = []
enter_turns (answer ∷ answers) = enter_turn answer ∷ enter_turns answers

-- so many players enter
pub record Enters (count : ℕ) (turns : List DeskTurn) : Type 0 where
  pub answers : List Entered
  pub count_is : length answers ≡ count
  pub turns_are : turns ≡ enter_turns answers

-- two participants join
pub record JoinsBoth (turns : List DeskTurn) : Type 0 where
  pub first : Joined
  pub second : Joined
  pub turns_are : turns ≡ join_turn 1 first ∷ join_turn 2 second ∷ []

-- what the caller does first: four players enter, and two participants join
pub record Opens (turns : List DeskTurn) : Type 0 where
  pub entering : List DeskTurn
  pub joining : List DeskTurn
  pub enters : Enters 4 entering
  pub joins : JoinsBoth joining
  pub turns_are : turns ≡ entering ++ joining

-- what the caller does last: one cut, behind all steps
pub record CutsLast (count : ℕ) (turns : List DeskTurn) : Type 0 where
  pub answer : Cutted
  pub turns_are : turns ≡ cut_turn (tick_at count) answer ∷ []

-- ---- all of it

-- the jobs of the workers, in the order of their passes, of which the first has number 1; the caller's pass has number 0
abbrev pub jam_jobs : List Job
jam_jobs = Player 0 ∷ Player 1 ∷ Player 2 ∷ Player 3 ∷ Feedback 4 1 ∷ Feedback 5 2 ∷ Sender ∷ []

-- the turns of each pass, from this number on, are all of its job
abbrev pub AreDone : (seed count : ℕ) → (turns : List (Made DeskTurn)) → (pass : ℕ) → List Job → Type 0
AreDone seed count turns pass [] = Unit {0}
AreDone seed count turns pass (job ∷ jobs) = Program job seed count (turns_by pass turns) × AreDone seed count turns (pass + 1) jobs

-- the turns of these passes that stand first: the caller's opening, before any worker came
abbrev pub by_caller : List DeskTurn → List (Made DeskTurn)
by_caller [] = []
by_caller (turn ∷ turns) = record { by = 0; what = turn } ∷ by_caller turns

-- The history of a jam: the caller opens, before any worker comes; the workers do their jobs, and the caller cuts once more. Each
-- turn is one of these.
pub record IsJam (seed count : ℕ) (turns : List (Made DeskTurn)) : Type 0 where
  pub opening : List DeskTurn
  pub opens : Opens opening
  pub rest : List (Made DeskTurn)
  pub in_order : turns ≡ by_caller opening ++ rest
  pub last : List DeskTurn
  pub cuts : CutsLast count last
  pub caller : turns_by 0 turns ≡ opening ++ last
  pub workers : AreDone seed count turns 1 jam_jobs
  pub each : Everyone (λ by. by < 8) turns
  pub legal : IsHistory jam_config turns

-- the tape of a jam
pub record IsJamTape (seed count : ℕ) (tape : List Step) : Type 0 where
  pub turns : List (Made DeskTurn)
  pub jam : IsJam seed count turns
  pub tape_is : tape ≡ taken turns
