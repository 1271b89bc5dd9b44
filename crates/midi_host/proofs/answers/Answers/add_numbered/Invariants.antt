-- The lines so far with those of the numbers from here on are those of all numbers.
use Rattle.std.proofs.Common.{◌≡◌, ◌++◌}
use Rattle.std.specs.List.{flat_map}
use Rattle.midi_host.specs.StateLines.{number_line, numbers_from}
use Rattle.midi_host.proofs.answers.Answers.add_numbered.Given as goal

abbrev pub invariant-loop-number : goal.invariant-loop-number
invariant-loop-number l =
    l.self ++ flat_map (number_line l.state l.channel l.kind) (numbers_from l.number 128)
    ≡ l.initial.self ++ flat_map (number_line l.state l.channel l.kind) (numbers_from 0 128)
