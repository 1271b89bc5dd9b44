-- How the fields of a book stand for its steps.
use Rattle.std.specs.Prelude.{◌≡◌, ◌≤◌, ◌++◌, length}
use Rattle.jm_book.specs.Core.{CoreTold, StandsFor}
use Rattle.jm_book.specs.Legal.{IsLegal}
use Rattle.jm_book.specs.Session.{session_of}
use Rattle.jm_book.specs.Stream.{stream_of, sent_of, pending_of}
use Rattle.jm_book.specs.Tape.{Taped}

-- the core stands for the session after the tape's steps, whose commands are the tape's
pub record IsKept (core : CoreTold) (tape : Taped) : Type 0 where
  pub stands : StandsFor core (session_of core.config tape.steps)
  pub commands : tape.commands ≡ sent_of (stream_of tape.steps) ++ pending_of (stream_of tape.steps)
  pub legal : IsLegal core.config tape.steps
  pub few_steps : length tape.steps ≤ core.config.events
  pub few_packets : core.packets ≤ length tape.steps
  pub few_plays : core.plays ≤ length tape.steps
  pub bounds : (1 ≤ core.config.events) × (core.config.events ≤ 4194304)
