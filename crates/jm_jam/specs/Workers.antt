-- What the workers of a jam do at the desk: the turns of each, by what its calls were answered.
use Rattle.std.specs.Prelude.{◌≡◌, ℕ, zero, suc, ◌+◌, ◌%◌, Bool, true, false, IsTrue, List, [], ◌∷◌, ◌++◌, length, Some, None}
use Rattle.jm_cmds.specs.declared.commands.Command.{Command}
use Rattle.jm_turn.specs.Turns.{Begins}
use Rattle.jm_book.specs.declared.steps.Step.TheVariants as step
use Rattle.jm_book.specs.declared.answers.Played.{Played}
use Rattle.jm_book.specs.declared.answers.Played.TheVariants as played
use Rattle.jm_book.specs.declared.answers.PlayFault.{PlayFault}
use Rattle.jm_book.specs.declared.answers.PlayFault.TheVariants as refusal
use Rattle.jm_book.specs.declared.answers.Cutted.{Cutted}
use Rattle.jm_book.specs.declared.answers.Acked.{Acked}
use Rattle.jm_book.specs.declared.answers.Acked.TheVariants as acked
use Rattle.jm_book.specs.Answers.{is_packet}
use Rattle.jm_desk.specs.declared.turn.DeskTurn.{DeskTurn}
use Rattle.jm_desk.specs.declared.turn.Outcome.TheVariants as outcome
use Rattle.jm_desk.specs.History.{turned}
use Rattle.jm_desk.specs.OwnTurns.{turns_by}
use Rattle.jm_desk.specs.Sharing.{PassView, OwnsPlaces}
use Rattle.jm_jam.specs.Made.{made, start_of, tick_at}
use Rattle.jm_jam.specs.declared.job.Job.{Job}
use Rattle.jm_jam.specs.declared.job.Job.TheVariants.{Player, Feedback, Sender}

abbrev pub play_turn : (player : ℕ) → Command → (tick : ℕ) → Played → DeskTurn
play_turn player command tick answer = turned (step.Play player command tick) (outcome.Played answer)

abbrev pub cut_turn : (tick : ℕ) → Cutted → DeskTurn
cut_turn tick answer = turned (step.Cut tick) (outcome.Cut answer)

abbrev pub ack_turn : (ssrc seq : ℕ) → Acked → DeskTurn
ack_turn ssrc seq answer = turned (step.Ack ssrc seq) (outcome.Acked answer)

-- ---- a player

abbrev pub is_needs_cut : PlayFault → Bool
is_needs_cut (refusal.NeedsCut pending octets delta) = true
is_needs_cut _ = false

-- a play was refused since a cut has to come first
abbrev pub needs_cut : Played → Bool
needs_cut (played.Accepted serial kept) = false
needs_cut (played.Refused why command) = is_needs_cut why

-- The turns of one step: the command is played. Where a cut has to come first, the player cuts and, where that gave a packet, plays the
-- command again.
pub data PlaysStep (player : ℕ) (command : Command) (tick : ℕ) : List DeskTurn → Type 0 where
  settled : (answer : Played) → needs_cut answer ≡ false → PlaysStep player command tick (play_turn player command tick answer ∷ [])
  not_cut : (answer : Played) (cut : Cutted) → needs_cut answer ≡ true → is_packet cut ≡ false → PlaysStep player command tick (play_turn player command tick answer ∷ cut_turn tick cut ∷ [])
  cut_first : (answer : Played) (cut : Cutted) (more : List DeskTurn) → needs_cut answer ≡ true → is_packet cut ≡ true → PlaysStep player command tick more
      → PlaysStep player command tick (play_turn player command tick answer ∷ cut_turn tick cut ∷ more)

-- the turns of the first steps of a player
abbrev pub PlaysSteps : (player start steps : ℕ) → List DeskTurn → Type 0
PlaysSteps player start zero turns = turns ≡ []
PlaysSteps player start (suc step) turns =
    (before : List DeskTurn) × (now : List DeskTurn) × (turns ≡ before ++ now) × PlaysSteps player start step before × PlaysStep player (made player start step) (tick_at step) now

-- ---- feedback

-- the number that is reported after this one, by its answer, in its low 16 bits
abbrev pub next_report : (number : ℕ) → Acked → ℕ
next_report number (acked.Moved mark) = (mark + 1) % 65536
next_report number (acked.Old mark) = (mark + 1) % 65536
next_report number (acked.NotSent (Some last)) = last % 65536
next_report number (acked.NotSent None) = 1
next_report number (acked.RecordFull events) = number
next_report number acked.UnknownSsrc = number

abbrev pub report_after : (number : ℕ) → List Acked → ℕ
report_after number [] = number
report_after number (answer ∷ answers) = report_after (next_report number answer) answers

-- reports that were answered so, from this number on
abbrev pub report_turns : (ssrc number : ℕ) → List Acked → List DeskTurn
report_turns ssrc number [] = []
report_turns ssrc number (answer ∷ answers) = ack_turn ssrc number answer ∷ report_turns ssrc (next_report number answer) answers

-- so many reports, of which the first is of number 1
pub record Reports (ssrc count : ℕ) (turns : List DeskTurn) : Type 0 where
  pub answers : List Acked
  pub count_is : length answers ≡ count
  pub turns_are : turns ≡ report_turns ssrc 1 answers

-- ---- the sender

-- cuts that were answered so, from this step on
abbrev pub cut_turns : (step : ℕ) → List Cutted → List DeskTurn
cut_turns step [] = []
cut_turns step (answer ∷ answers) = cut_turn (tick_at step) answer ∷ cut_turns (step + 1) answers

-- so many cuts
pub record Cuts (count : ℕ) (turns : List DeskTurn) : Type 0 where
  pub answers : List Cutted
  pub count_is : length answers ≡ count
  pub turns_are : turns ≡ cut_turns 0 answers

-- ---- a worker

-- all turns of a worker
abbrev pub Program : Job → (seed count : ℕ) → List DeskTurn → Type 0
Program (Player player) seed count turns = PlaysSteps player (start_of seed player) count turns
Program (Feedback worker ssrc) seed count turns = Reports ssrc count turns
Program Sender seed count turns = Cuts count turns

-- all that a pass doesn't learn by its turns is as it was
abbrev pub GoesOn : PassView → PassView → Type 0
GoesOn old new = new ≡ record old { view = record old.view { stage = new.view.stage; ticket = new.view.ticket; seen = new.view.seen; mine = new.view.mine } }

-- the pass made just these turns, in this order
pub record Adds (turns : List DeskTurn) (old new : PassView) : Type 0 where
  pub own : turns_by old.view.number new.view.seen ≡ turns_by old.view.number old.view.seen ++ turns
  pub longer : Begins old.view.seen new.view.seen
  pub places : OwnsPlaces old.view → OwnsPlaces new.view
  pub rest : GoesOn old new

-- the pass made some turns, which where the work is done are all of it
pub record Worked (program : List DeskTurn → Type 0) (done : Bool) (old new : PassView) : Type 0 where
  pub turns : List DeskTurn
  pub adds : Adds turns old new
  pub did : IsTrue done → program turns
