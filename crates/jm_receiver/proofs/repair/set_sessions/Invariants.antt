use Rattle.std.proofs.Common.{◌≡◌, drop}
use Rattle.jm_receiver.specs.Repair.{session_repaired}
use Rattle.jm_receiver.proofs.repair.set_sessions.Given as goal

abbrev pub invariant-loop-log : goal.invariant-loop-log
invariant-loop-log l = session_repaired (drop l.log-index l.logs) l.s ≡ session_repaired l.logs l.initial.s
