-- Steps that bring commands whose numbers are within their bounds, as those of a program do, and what a session has of them.
use Rattle.std.specs.Prelude.{List, ◌++◌}
use Rattle.std.specs.List.{AllByRecursion}
use Rattle.jm_cmds.specs.declared.history.Sent.{Sent}
use Rattle.jm_cmds.specs.Command.{IsCommand}
use Rattle.jm_book.specs.declared.steps.Step.{Step}
use Rattle.jm_book.specs.declared.steps.Step.TheVariants.{Play}
use Rattle.jm_book.specs.Stream.{stream_of, sent_of, pending_of}

-- what a play brings is a command with its numbers within their bounds; other steps bring none
abbrev pub HasCommand : Step → Type 0
HasCommand (Play player command tick) = IsCommand command
HasCommand _ = Unit {0}

abbrev pub HaveCommands : List Step → Type 0
HaveCommands steps = AllByRecursion HasCommand steps

-- each is a command with its numbers within their bounds
abbrev pub AreCommands : List Sent → Type 0
AreCommands sent = AllByRecursion (λ place. IsCommand place.command) sent

-- Where each play brings a command within its bounds, so is each that was sent or is pending. (Not: a stream that puts a
-- command of its own among them.)
abbrev pub KeepsCommands : Type 0
KeepsCommands = (steps : List Step) → HaveCommands steps → AreCommands (sent_of (stream_of steps) ++ pending_of (stream_of steps))
