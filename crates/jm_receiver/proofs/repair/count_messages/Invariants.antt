use Rattle.std.proofs.Common.{◌≡◌, drop, fold}
use Rattle.jm_receiver.specs.Repair.{with_message}
use Rattle.jm_receiver.proofs.repair.count_messages.Given as goal

abbrev pub invariant-loop-log : goal.invariant-loop-log
invariant-loop-log l = fold (with_message l.reset l.before) l.s (drop l.log-index l.logs) ≡ fold (with_message l.reset l.before) l.initial.s l.logs
