use Rattle.std.proofs.Common.{◌≡◌, drop, fold}
use Rattle.jm_receiver.specs.Repair.{with_log_of}
use Rattle.jm_receiver.proofs.repair.repair_group.Given as goal

abbrev pub invariant-loop-log : goal.invariant-loop-log
invariant-loop-log l = fold (with_log_of l.group l.channel) l.s (drop l.log-index l.logs) ≡ fold (with_log_of l.group l.channel) l.initial.s l.logs
