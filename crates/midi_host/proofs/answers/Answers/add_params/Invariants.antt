-- The lines so far with those of the numbers from here on are those of all numbers.
use Rattle.std.proofs.Common.{◌≡◌, ◌++◌}
use Rattle.std.specs.List.{flat_map}
use Rattle.midi_host.specs.StateLines.{high_lines, numbers_from}
use Rattle.midi_host.proofs.answers.Answers.add_params.Given as goal

abbrev pub invariant-loop-number : goal.invariant-loop-number
invariant-loop-number l =
    l.self ++ flat_map (high_lines l.state l.channel l.nrpn) (numbers_from l.number 128)
    ≡ l.initial.self ++ flat_map (high_lines l.state l.channel l.nrpn) (numbers_from 0 128)
