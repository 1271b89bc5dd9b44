use Rattle.std.proofs.Common.{◌≡◌, ◌++◌}
use Rattle.jm_smf.specs.Reading.{timed_at}
use Rattle.jm_smf.proofs.track.append_at.Given as goal

abbrev pub invariant-loop-command : goal.invariant-loop-command
invariant-loop-command l = l.list.items ≡ l.initial.list.items ++ timed_at l.tick l.yielded
