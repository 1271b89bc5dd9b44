use Rattle.std.proofs.Common.{◌≡◌, drop, fold}
use Rattle.jm_receiver.specs.HandedOn.{channel_handed_on}
use Rattle.jm_receiver.proofs.heard.Hearing.hand_on_repair.Given as goal

abbrev pub invariant-loop-channel : goal.invariant-loop-channel
invariant-loop-channel l = fold (channel_handed_on l.logs l.repaired) l.self (drop l.channel-index l.channel-items) ≡ fold (channel_handed_on l.logs l.repaired) l.initial.self l.channel-items
