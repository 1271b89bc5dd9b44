use Rattle.std.proofs.Common.{◌≡◌, drop, fold}
use Rattle.jm_receiver.specs.Heard.{sent_also}
use Rattle.jm_receiver.proofs.heard.Hearing.hear_items.Given as goal

abbrev pub invariant-loop-item : goal.invariant-loop-item
invariant-loop-item l = fold sent_also l.self (drop l.item-index l.items) ≡ fold sent_also l.initial.self l.items
