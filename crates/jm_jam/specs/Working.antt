-- Parts of what the workers of a jam do.
use Rattle.std.specs.Prelude.{◌≡◌, ℕ, List, ◌++◌, length}
use Rattle.jm_cmds.specs.declared.commands.Command.{Command}
use Rattle.jm_book.specs.declared.answers.Cutted.{Cutted}
use Rattle.jm_book.specs.declared.answers.Acked.{Acked}
use Rattle.jm_desk.specs.declared.turn.DeskTurn.{DeskTurn}
use Rattle.jm_desk.specs.Sharing.{PassView}
use Rattle.jm_jam.specs.Workers.{PlaysStep, PlaysSteps, report_after, report_turns, cut_turns, Adds}
use Rattle.jm_jam.specs.declared.player.Tried.{Tried}
use Rattle.jm_jam.specs.declared.player.Tried.TheVariants.{Settled, Again, NoMemory}

-- whatever ends the step may still follow
abbrev pub GoesBefore : (player : ℕ) → Command → (tick : ℕ) → List DeskTurn → Type 0
GoesBefore player command tick turns = (more : List DeskTurn) → PlaysStep player command tick more → PlaysStep player command tick (turns ++ more)

-- what the turns of one try come to
abbrev pub Came : (player : ℕ) → Command → (tick : ℕ) → Tried → List DeskTurn → Type 0
Came player command tick Settled turns = PlaysStep player command tick turns
Came player command tick Again turns = GoesBefore player command tick turns
Came player command tick NoMemory turns = Unit {0}

pub record Tries (player : ℕ) (command : Command) (tick : ℕ) (tried : Tried) (old new : PassView) : Type 0 where
  pub turns : List DeskTurn
  pub adds : Adds turns old new
  pub came : Came player command tick tried turns

-- tries, of which the last asks for one more
pub record Trying (player : ℕ) (command : Command) (tick : ℕ) (old new : PassView) : Type 0 where
  pub turns : List DeskTurn
  pub adds : Adds turns old new
  pub goes : GoesBefore player command tick turns

-- so many steps of a player
pub record Playing (player start steps : ℕ) (old new : PassView) : Type 0 where
  pub turns : List DeskTurn
  pub adds : Adds turns old new
  pub plays : PlaysSteps player start steps turns

-- so many reports, and the number of the next one
pub record Reporting (ssrc made number : ℕ) (old new : PassView) : Type 0 where
  pub answers : List Acked
  pub count_is : length answers ≡ made
  pub number_is : number ≡ report_after 1 answers
  pub adds : Adds (report_turns ssrc 1 answers) old new

-- so many cuts
pub record Cutting (made : ℕ) (old new : PassView) : Type 0 where
  pub answers : List Cutted
  pub count_is : length answers ≡ made
  pub adds : Adds (cut_turns 0 answers) old new
