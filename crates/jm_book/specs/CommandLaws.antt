-- What was sent and what is pending are the commands that the plays brought.
use Rattle.std.proofs.Common.{ℕ, List, [], ◌∷◌, ◌++◌, fold, append_assoc}
use Rattle.jm_cmds.specs.declared.history.Sent.{Sent}
use Rattle.jm_cmds.specs.Command.{IsCommand}
use Rattle.jm_cmds.specs.HistoryLaws.{AllByRecursion-append}
use Rattle.jm_book.specs.declared.steps.Step.{Step}
use Rattle.jm_book.specs.declared.steps.Step.TheVariants.{Enter, Play, Cut, Ack, Join, Leave, Hear, Feedback, Say}
use Rattle.jm_book.specs.Stream.{Stream, Entry, stream_after, no_stream, played, tick_after, as_sent, sent_of, pending_of, number_of_pending}
use Rattle.jm_book.specs.StepLaws.{as_sent_push, all_cut}
use Rattle.jm_book.specs.Commands.{HasCommand, HaveCommands, AreCommands, KeepsCommands}

-- the number of the packet is no part of a command
pub commands_any : (number other : ℕ) (before : List Sent) (entries : List Entry) → AreCommands (before ++ as_sent number entries) → AreCommands (before ++ as_sent other entries)
commands_any number other [] [] h = tt
commands_any number other [] (one ∷ others) h = (h.0, commands_any number other [] others h.1)
commands_any number other (one ∷ before) entries h = (h.0, commands_any number other before entries h.1)

commands_after : (s : Stream) (step : Step) → HasCommand step → AreCommands (sent_of s ++ pending_of s) → AreCommands (sent_of (stream_after s step) ++ pending_of (stream_after s step))
commands_after s Enter is h = h
commands_after s (Play player command tick) is h =
    let entry : Entry = record { player = player; serial = s.plays; tick = tick_after s tick; command = command } in
    let number = number_of_pending (played s player command tick) in
    let one : Sent = record { packet = number; tick = tick_after s tick; command = command } in
    let before = commands_any (number_of_pending s) number (sent_of s) s.pending h in
    rw (as_sent_push number s.pending entry, ← append_assoc (sent_of s) (as_sent number s.pending) (one ∷ []))
    (AllByRecursion-append (λ place. IsCommand place.command) (sent_of s ++ as_sent number s.pending) (one ∷ []) before (is, tt))
commands_after s (Cut tick) is h = rw (all_cut s tick) h
commands_after s (Ack ssrc seq) is h = h
commands_after s (Join ssrc) is h = h
commands_after s (Leave ssrc) is h = h
commands_after s (Hear ssrc seq) is h = h
commands_after s Feedback is h = h
commands_after s (Say port from message now) is h = h

commands_along : (s : Stream) (steps : List Step) → HaveCommands steps → AreCommands (sent_of s ++ pending_of s) → AreCommands (sent_of (fold stream_after s steps) ++ pending_of (fold stream_after s steps))
commands_along s [] is h = h
commands_along s (step ∷ steps) is h = commands_along (stream_after s step) steps is.1 (commands_after s step is.0 h)

pub keeps_commands : KeepsCommands
keeps_commands steps is = commands_along no_stream steps is tt

-- the first of two lists of commands
pub first_commands : (before later : List Sent) → AreCommands (before ++ later) → AreCommands before
first_commands [] later h = tt
first_commands (one ∷ before) later h = (h.0, first_commands before later h.1)

-- the later of two lists of commands
pub later_commands : (before later : List Sent) → AreCommands (before ++ later) → AreCommands later
later_commands [] later h = h
later_commands (one ∷ before) later h = later_commands before later h.1
