use Rattle.std.proofs.Common.{◌≡◌, drop, fold}
use Rattle.jm_receiver.specs.Repair.{channel_repaired}
use Rattle.jm_receiver.proofs.repair.repair_state.Given as goal

abbrev pub invariant-loop-channel : goal.invariant-loop-channel
invariant-loop-channel l = fold (channel_repaired l.logs) l.s (drop l.channel-index l.channel-items) ≡ fold (channel_repaired l.logs) l.initial.s l.channel-items
