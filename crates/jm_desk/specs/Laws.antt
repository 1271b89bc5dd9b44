-- What the laws of this crate say of every history.
use Rattle.std.specs.Prelude.{ℕ, ◌≡◌, List, [], ◌∷◌, ◌++◌}
use Rattle.jm_turn.specs.declared.view.Made.{Made}
use Rattle.jm_turn.specs.declared.view.View.{View}
use Rattle.jm_turn.specs.Turns.{places, Begins, Follows}
use Rattle.jm_turn.specs.Closing.{Accounts}
use Rattle.jm_book.specs.declared.steps.Config.{Config}
use Rattle.jm_book.specs.declared.steps.Step.{Step}
use Rattle.jm_book.specs.Legal.{IsLegal}
use Rattle.jm_desk.specs.declared.turn.DeskTurn.{DeskTurn}
use Rattle.jm_desk.specs.declared.turn.Outcome.{Outcome}
use Rattle.jm_desk.specs.declared.held.Held.{Held}
use Rattle.jm_desk.specs.History.{turned, taken, IsAnswer, IsHistory}
use Rattle.jm_desk.specs.Sharing.{Shared, PassView, MakesTurn}
use Rattle.jm_desk.specs.OwnTurns.{turns_by, HasEnded}

-- The steps that were taken in a legal history are a legal list of steps.
abbrev pub StepsAreLegal : Type 0
StepsAreLegal = (config : Config) (turns : List (Made DeskTurn)) → IsHistory config turns → IsLegal config (taken turns)

-- One turn more: its outcome is the answer after the steps taken, unless there was no memory.
abbrev pub IsNext : Config → List (Made DeskTurn) → Made DeskTurn → Type 0
IsNext config turns m = IsHistory config turns × IsAnswer config (taken turns) m.what

-- No turns are a legal history. With one turn more a history is legal just where it was so before and the turn is its next.
abbrev pub GrowsByAnswers : Type 0
GrowsByAnswers =
    (config : Config) → IsHistory config [] × ((turns : List (Made DeskTurn)) (m : Made DeskTurn) → (IsNext config turns m → IsHistory config (turns ++ m ∷ [])) × (IsHistory config (turns ++ m ∷ []) → IsNext config turns m))

-- A call adds to the turns of its pass just its own, at the end.
abbrev pub AddsOwnTurn : Type 0
AddsOwnTurn = (desk : Shared) (old new : PassView) (call : Step) (came : Outcome) → MakesTurn desk old new call came → turns_by old.view.number new.view.seen ≡ turns_by old.view.number old.view.seen ++ turned call came ∷ []

-- Turns of others add none.
abbrev pub LearnsNoOwnTurn : Type 0
LearnsNoOwnTurn = (n : ℕ) (old new : List (Made DeskTurn)) → Follows n old new → turns_by n new ≡ turns_by n old

-- The turns that a joined pass made in the whole history are those that it had seen when it was joined.
abbrev pub KeepsJoinedTurns : Type 0
KeepsJoinedTurns = (last : View Held DeskTurn) (n : ℕ) (mine : List ℕ) (seen : List (Made DeskTurn)) → Accounts last → HasEnded n mine last.ended → mine ≡ places n 0 seen → Begins seen last.seen → turns_by n last.seen ≡ turns_by n seen
