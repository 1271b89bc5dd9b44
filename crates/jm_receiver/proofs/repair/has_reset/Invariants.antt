use Rattle.std.proofs.Common.{◌≡◌, drop}
use Rattle.jm_receiver.specs.Repair.{has_reset}
use Rattle.jm_receiver.proofs.repair.has_reset.Given as goal

abbrev pub invariant-loop-log : goal.invariant-loop-log
invariant-loop-log l = has_reset (drop l.log-index l.logs) ≡ has_reset l.logs
