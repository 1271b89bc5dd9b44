use Rattle.std.proofs.Common.{◌≡◌, drop, fold}
use Rattle.jm_receiver.specs.Repair.{group_repaired}
use Rattle.jm_receiver.proofs.repair.repair_channel.Given as goal

abbrev pub invariant-loop-group : goal.invariant-loop-group
invariant-loop-group l = fold (group_repaired l.logs l.channel) l.s (drop l.group-index l.group-items) ≡ fold (group_repaired l.logs l.channel) l.initial.s l.group-items
