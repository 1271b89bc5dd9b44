use Rattle.std.proofs.Common.{◌≡◌, drop, fold}
use Rattle.jm_receiver.specs.HandedOn.{log_handed_on_of}
use Rattle.jm_receiver.proofs.heard.Hearing.hand_on_group.Given as goal

abbrev pub invariant-loop-log : goal.invariant-loop-log
invariant-loop-log l = fold (log_handed_on_of l.group l.channel) l.self (drop l.log-index l.logs) ≡ fold (log_handed_on_of l.group l.channel) l.initial.self l.logs
