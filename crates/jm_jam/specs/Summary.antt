-- What is told of a tape: a line for each of four players, and one for all commands.
use Rattle.std.specs.Prelude.{ℕ, zero, suc, ◌+◌, ◌==◌, Bool, false, if◌then◌else◌, List, [], ◌∷◌, ◌++◌, Option, Some, None, is_none, codes, decimal}
use Rattle.std.specs.List.{fold, count_by}
use Rattle.jm_book.specs.declared.steps.Step.{Step}
use Rattle.jm_book.specs.declared.steps.Step.TheVariants.{Play}
use Rattle.jm_book.specs.Plays.{play_count}
use Rattle.jm_state.specs.declared.state.State.{State}
use Rattle.jm_state.specs.Parts.{no_state, note_of, control_of, wheel_of}
use Rattle.jm_state.specs.Apply.{applied}

abbrev pub is_play_of : (player : ℕ) → Step → Bool
is_play_of player (Play by command tick) = by == player
is_play_of player _ = false

-- how many commands of the player were accepted
abbrev pub plays_by : (player : ℕ) → List Step → ℕ
plays_by player tape = count_by (is_play_of player) tape

abbrev pub after_step : State → Step → State
after_step state (Play player command tick) = applied state command
after_step state _ = state

-- the state behind all commands
abbrev pub state_behind : List Step → State
state_behind tape = fold after_step no_state tape

-- how many of the notes below this one sound in the channel
unfoldable pub sounding_below : State → (channel note : ℕ) → ℕ
sounding_below state channel zero = 0
sounding_below state channel (suc note) = if is_none (note_of state channel note) then sounding_below state channel note else sounding_below state channel note + 1

abbrev pub wheel_second : Option (ℕ × ℕ) → Option ℕ
wheel_second None = None
wheel_second (Some wheel) = Some wheel.1

-- words and a number
abbrev pub told : (words : List ℕ) → (number : ℕ) → List ℕ
told words number = words ++ decimal number

-- words and a number, or a dash where there is none
abbrev pub told_or_dash : (words : List ℕ) → (number : Option ℕ) → List ℕ
told_or_dash words None = words ++ codes "-"
told_or_dash words (Some number) = told words number

unfoldable pub player_line : List Step → State → (player : ℕ) → List ℕ
player_line tape state player =
    told (codes "player ") player
    ++ (told (codes " ") (plays_by player tape)
    ++ (told (codes " notes ") (sounding_below state player 128)
    ++ (told_or_dash (codes " volume ") (control_of state player 7)
    ++ (told_or_dash (codes " wheel ") (wheel_second (wheel_of state player))
    ++ 10 ∷ []))))

unfoldable pub summary_text : List Step → List ℕ
summary_text tape =
    player_line tape (state_behind tape) 0
    ++ (player_line tape (state_behind tape) 1
    ++ (player_line tape (state_behind tape) 2
    ++ (player_line tape (state_behind tape) 3
    ++ (told (codes "commands ") (play_count tape) ++ 10 ∷ []))))
