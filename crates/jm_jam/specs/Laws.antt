-- What the laws of this crate say of the history of a jam.
use Rattle.std.specs.Prelude.{◌≢◌, ℕ, ◌+◌, ◌<◌, List}
use Rattle.jm_turn.specs.declared.view.Made.{Made}
use Rattle.jm_book.specs.Plays.{played_by}
use Rattle.jm_desk.specs.declared.turn.DeskTurn.{DeskTurn}
use Rattle.jm_desk.specs.declared.turn.Outcome.TheVariants as outcome
use Rattle.jm_desk.specs.History.{taken}
use Rattle.jm_desk.specs.OwnTurns.{turns_by}
use Rattle.jm_jam.specs.Made.{start_of}
use Rattle.jm_jam.specs.Whole.{IsJam}
use Rattle.jm_jam.specs.Plays.{PlaysGive, AllTurns}

-- The commands of each player on the tape are those that are made for its steps, in their order, but for the steps in which a play or a
-- cut was answered that the tape is full, or a cut that a participant is too far behind.
abbrev pub TapeHasWhatIsMade : Type 0
TapeHasWhatIsMade =
    (seed count : ℕ) (turns : List (Made DeskTurn)) → IsJam seed count turns → (player : ℕ) → player < 4 → PlaysGive player (start_of seed player) count (turns_by (player + 1) turns) (played_by player (taken turns))

-- In no turn of a jam was there no memory.
abbrev pub HasMemory : Type 0
HasMemory = (seed count : ℕ) (turns : List (Made DeskTurn)) → IsJam seed count turns → AllTurns (λ turn. turn.outcome ≢ outcome.NoMemory) turns
