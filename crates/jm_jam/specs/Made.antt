-- The commands that a player of jam makes: each step draws a number from the one before, whose low seven bits are the note or the value.
use Rattle.std.specs.Prelude.{ℕ, zero, suc, ◌+◌, ◌-◌, ◌*◌, ◌%◌, ◌==◌, nat_lt, if◌then◌else◌}
use Rattle.jm_cmds.specs.declared.commands.Command.{Command}
use Rattle.jm_cmds.specs.declared.commands.Command.TheVariants.{NoteOn, NoteOff, Control, Wheel}

-- a player's commands so far: its channel, the number that its first step is drawn from, and how many steps were made
pub record Making : Type 0 where
  pub player : ℕ
  pub start : ℕ
  pub step : ℕ

abbrev pub next_number : ℕ → ℕ
next_number number = (421 * number + 1663) % 7875

-- the number of a step; steps are counted from 0
abbrev pub number_at : (start step : ℕ) → ℕ
number_at start zero = next_number start
number_at start (suc step) = next_number (number_at start step)

abbrev pub note_at : (start step : ℕ) → ℕ
note_at start step = number_at start step % 128

-- the command of a step by its place among eight: four notes are struck, the first of them is released, then the note of this step; the
-- volume and the pitch wheel take it as their value. `earlier` is the note of four steps before.
abbrev pub made_as : (channel note earlier velocity place : ℕ) → Command
made_as channel note earlier velocity place =
    if nat_lt place 4 then NoteOn channel note velocity
    else if place == 4 then NoteOff channel earlier 64
    else if place == 5 then NoteOff channel note 64
    else if place == 6 then Control channel 7 note
    else Wheel channel 0 note

-- a player's command in a step
abbrev pub made : (player start step : ℕ) → Command
made player start step = made_as player (note_at start step) (note_at start (step - 4)) (1 + step % 127) (step % 8)

abbrev pub start_of : (seed player : ℕ) → ℕ
start_of seed player = seed + 1000 * player

-- the tick of a step, in units of 100 microseconds
abbrev pub tick_at : ℕ → ℕ
tick_at step = 10 * step
