use Rattle.std.proofs.Common.{◌≡◌, drop, fold}
use Rattle.jm_receiver.specs.HandedOn.{message_handed_on_if_counting}
use Rattle.jm_receiver.proofs.heard.Hearing.hand_on_messages.Given as goal

abbrev pub invariant-loop-log : goal.invariant-loop-log
invariant-loop-log l = fold (message_handed_on_if_counting l.reset l.before) l.self (drop l.log-index l.logs) ≡ fold (message_handed_on_if_counting l.reset l.before) l.initial.self l.logs
