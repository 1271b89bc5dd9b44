-- What contracts see of a desk and its passes, and what one call makes of a pass.
use Rattle.std.specs.Prelude.{ℕ, ◌≡◌, ◌%◌, Bool, false, length, Result, Some, Ok, Err}
use Rattle.atomic_table.specs.Seated.{TableId}
use Rattle.jm_turn.specs.Known.{Known}
use Rattle.jm_turn.specs.declared.view.View.{View}
use Rattle.jm_turn.specs.Turns.{places, Follows}
use Rattle.jm_turn.specs.Views.{drew, saw, took, gave}
use Rattle.jm_book.specs.declared.steps.Config.{Config}
use Rattle.jm_book.specs.declared.steps.Step.{Step}
use Rattle.jm_book.specs.declared.answers.Cutted.{Cutted}
use Rattle.jm_book.specs.declared.answers.Given.{Given}
use Rattle.jm_book.specs.Answers.{is_packet, is_given}
use Rattle.jm_desk.specs.declared.turn.DeskTurn.{DeskTurn}
use Rattle.jm_desk.specs.declared.turn.Outcome.{Outcome}
use Rattle.jm_desk.specs.declared.turn.Outcome.TheVariants as outcome
use Rattle.jm_desk.specs.declared.turn.Turned.{Turned}
use Rattle.jm_desk.specs.declared.held.Held.{Held}
use Rattle.jm_desk.specs.History.{turned, IsAnswer, IsHistory, StandsFor, before_last, steps_before}

-- a desk: its table, and the book that it was opened with
pub record Shared : Type 0 where
  pub table : TableId
  pub first : Held

-- a pass: its table and seat, and what it knows
abbrev pub PassView : Type 0
PassView = Known Held DeskTurn

abbrev pub config_of : Shared → Config
config_of desk = desk.first.book.config

-- the pass is of the desk
pub record IsOf (desk : Shared) (pass : PassView) : Type 0 where
  pub table : pass.table ≡ desk.table
  pub first : pass.view.first ≡ Some desk.first

-- its own places are just those of the turns of its number
abbrev pub OwnsPlaces : View Held DeskTurn → Type 0
OwnsPlaces v = v.mine ≡ places v.number 0 v.seen

-- what came of a call, by what it gave
abbrev pub outcome_of : {A E : Type 0} → (A → Outcome) → Result (Turned A) E → Outcome
outcome_of came (Ok turn) = came turn.answer
outcome_of came (Err none) = outcome.NoMemory

-- a packet was cut
abbrev pub is_sent : {E : Type 0} → Result (Turned Cutted) E → Bool
is_sent (Ok turn) = is_packet turn.answer
is_sent (Err none) = false

-- a list of feedback was given
abbrev pub is_given_out : {E : Type 0} → Result (Turned Given) E → Bool
is_given_out (Ok turn) = is_given turn.answer
is_given_out (Err none) = false

-- The pass made one turn: it has seen all that it had seen, then turns of others, and then this call with its outcome, at the place that
-- its own places gained. All else of it is as it was, and what it has seen is legal.
pub record MakesTurn (desk : Shared) (old new : PassView) (call : Step) (came : Outcome) : Type 0 where
  pub more : Follows old.view.number old.view.seen (before_last new.view.seen)
  pub made : new ≡ record old { view = gave (turned call came) (saw (before_last new.view.seen) old.view) }
  -- the outcome is the answer after the steps taken before, unless there was no memory
  pub answer : IsAnswer (config_of desk) (steps_before new.view.seen) (turned call came)
  pub own : OwnsPlaces new.view
  pub legal : IsHistory (config_of desk) new.view.seen

-- the place of the last turn that was seen, as far as 64 bits tell it
abbrev pub last_place : PassView → ℕ
last_place pass = length (before_last pass.view.seen) % 18446744073709551616

-- The pass has seen turns of others behind all that it had seen, which is legal. All else of it is as it was.
pub record SeesMore (desk : Shared) (old new : PassView) : Type 0 where
  pub more : Follows old.view.number old.view.seen new.view.seen
  pub same : new ≡ record old { view = saw new.view.seen old.view }
  pub own : OwnsPlaces new.view
  pub legal : IsHistory (config_of desk) new.view.seen

-- The pass's turn has come, with this book.
pub record HoldsTurn (desk : Shared) (old new : PassView) (held : Held) : Type 0 where
  pub more : Follows old.view.number old.view.seen new.view.seen
  pub holds : (ticket : ℕ) × (new ≡ record old { view = took new.view.seen (drew ticket old.view) })
  pub stands : StandsFor desk.first held new.view.seen
  pub own : OwnsPlaces new.view
