-- What the turns of a player come to on the tape.
use Rattle.std.specs.Prelude.{◌≡◌, ℕ, zero, suc, Bool, true, false, ◌||◌, if◌then◌else◌, List, [], ◌∷◌, ◌++◌}
use Rattle.jm_cmds.specs.declared.commands.Command.{Command}
use Rattle.jm_turn.specs.declared.view.Made.{Made}
use Rattle.jm_book.specs.declared.answers.Played.TheVariants as played
use Rattle.jm_book.specs.declared.answers.PlayFault.TheVariants as refusal
use Rattle.jm_book.specs.declared.answers.Cutted.TheVariants as cutted
use Rattle.jm_desk.specs.declared.turn.DeskTurn.{DeskTurn}
use Rattle.jm_desk.specs.declared.turn.Outcome.{Outcome}
use Rattle.jm_desk.specs.declared.turn.Outcome.TheVariants as outcome
use Rattle.jm_jam.specs.Made.{made, tick_at}
use Rattle.jm_jam.specs.Workers.{PlaysStep}

-- the answer ends a step without its play: the tape is full, or a participant is too far behind for a cut
abbrev pub is_barring : Outcome → Bool
is_barring (outcome.Played (played.Refused (refusal.RecordFull events) command)) = true
is_barring (outcome.Cut (cutted.RecordFull events)) = true
is_barring (outcome.Cut (cutted.Behind ssrc mark)) = true
is_barring _ = false

-- one of the turns was answered so
abbrev pub is_left_out : List DeskTurn → Bool
is_left_out [] = false
is_left_out (turn ∷ turns) = is_barring turn.outcome || is_left_out turns

-- The turns are those of the first steps of a player, and give these commands: of each step just the command that is made for it, but
-- none of a step in which a play or a cut was answered that the tape is full, or a cut that a participant is too far behind.
abbrev pub PlaysGive : (player start steps : ℕ) → List DeskTurn → List Command → Type 0
PlaysGive player start zero turns commands = (turns ≡ []) × (commands ≡ [])
PlaysGive player start (suc step) turns commands =
    (before : List DeskTurn) × (now : List DeskTurn) × (given : List Command) × (turns ≡ before ++ now) × PlaysGive player start step before given
    × PlaysStep player (made player start step) (tick_at step) now × (commands ≡ given ++ (if is_left_out now then [] else made player start step ∷ []))

-- each turn has P
abbrev pub AllTurns : (DeskTurn → Type 0) → List (Made DeskTurn) → Type 0
AllTurns P [] = Unit {0}
AllTurns P (m ∷ turns) = P m.what × AllTurns P turns
