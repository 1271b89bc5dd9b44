-- The tape: its steps, the commands of its plays, and for how many further steps it has room.
use Rattle.std.specs.Prelude.{ℕ, ◌+◌, ◌-◌, ◌≡◌, ◌≤◌, min, List, [], ◌∷◌, ◌++◌, length}
use Rattle.jm_cmds.specs.declared.history.Sent.{Sent}
use Rattle.jm_book.specs.declared.steps.Step.{Step}
use Rattle.jm_book.specs.declared.steps.Step.TheVariants as step
use Rattle.jm_book.specs.declared.tape.Bare.{Bare}
use Rattle.jm_book.specs.declared.tape.Bare.TheVariants as bare
use Rattle.jm_book.specs.declared.tape.Mark.{Mark}
use Rattle.jm_book.specs.declared.tape.Mark.TheVariants.{Play, Other}
use Rattle.jm_book.specs.Commands.{AreCommands}

pub record Taped : Type 0 where
  pub steps : List Step
  pub commands : List Sent
  pub spare : ℕ

-- one more step, and room for at most one less
pub record Grows (old new : Taped) (one : Step) : Type 0 where
  pub steps : new.steps ≡ old.steps ++ one ∷ []
  pub spare : old.spare ≤ new.spare + 1

abbrev pub bare_step : Bare → Step
bare_step bare.Enter = step.Enter
bare_step (bare.Cut tick) = step.Cut tick
bare_step (bare.Ack ssrc seq) = step.Ack ssrc seq
bare_step (bare.Join ssrc) = step.Join ssrc
bare_step (bare.Leave ssrc) = step.Leave ssrc
bare_step (bare.Hear ssrc seq) = step.Hear ssrc seq
bare_step bare.Feedback = step.Feedback
bare_step (bare.Say port from message now) = step.Say port from message now

-- marks with the commands of the plays among them
abbrev pub woven : List Mark → List Sent → List Step
woven [] sent = []
woven (Other one ∷ marks) sent = bare_step one ∷ woven marks sent
woven (Play player tick ∷ marks) [] = []
woven (Play player tick ∷ marks) (one ∷ sent) = step.Play player one.command tick ∷ woven marks sent

-- how many plays are among marks
abbrev pub plays : List Mark → ℕ
plays [] = 0
plays (Other one ∷ marks) = plays marks
plays (Play player tick ∷ marks) = plays marks + 1

-- what is seen of marks, the commands of the plays, and the room of each list: the last is for the
-- steps, woven together again
abbrev pub taped : List Mark → List Sent → (mark_room command_room step_room : ℕ) → Taped
taped marks commands mark_room command_room step_room = record {
  steps = woven marks commands;
  commands = commands;
  spare = min (mark_room - length marks) (min (command_room - length commands) (step_room - length marks));
}

-- each play has its command, within its bounds, and there is room to hand the steps out
pub record IsTape (marks : List Mark) (commands : List Sent) (steps : List Step) (step_room : ℕ) : Type 0 where
  pub all : plays marks ≡ length commands
  pub within : AreCommands commands
  pub out : steps ≡ []
  pub room : length marks ≤ step_room
