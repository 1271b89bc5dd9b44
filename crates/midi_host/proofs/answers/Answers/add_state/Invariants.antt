-- The lines so far with those of the channels from here on are those of all channels.
use Rattle.std.proofs.Common.{◌≡◌, ◌++◌}
use Rattle.std.specs.List.{flat_map}
use Rattle.midi_host.specs.StateLines.{channel_lines, numbers_from}
use Rattle.midi_host.proofs.answers.Answers.add_state.Given as goal

abbrev pub invariant-loop-number : goal.invariant-loop-number
invariant-loop-number l =
    l.self ++ flat_map (channel_lines l.state) (numbers_from l.number 16) ≡ l.initial.self ++ flat_map (channel_lines l.state) (numbers_from 0 16)
