-- The lines so far with those of what stands from here on are all.
use Rattle.std.proofs.Common.{◌≡◌, ◌++◌, drop}
use Rattle.midi_host.specs.Repair.{heard_lines}
use Rattle.midi_host.proofs.answers.Answers.add_heard.Given as goal

abbrev pub invariant-loop-one : goal.invariant-loop-one
invariant-loop-one l = l.self ++ heard_lines (drop l.one-index l.heard) ≡ l.initial.self ++ heard_lines l.heard
