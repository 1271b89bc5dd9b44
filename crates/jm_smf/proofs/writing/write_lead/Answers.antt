use Rattle.std.proofs.Common.{◌-◌, arith}
use Rattle.jm_wire.specs.DeltaWriting.{delta-length}
use Rattle.jm_smf.proofs.writing.write_lead.Goals as goal

pub write_delta-requires-clause-room : goal.write_delta-requires-clause-room
write_delta-requires-clause-room c = let few = delta-length (c.size.result - 1) in omega (arith, few.1, c.push.ensures.spare, c.requires)

pub write_delta-requires-else-status-clause-room : goal.write_delta-requires-else-status-clause-room
write_delta-requires-else-status-clause-room c = let few = delta-length c.size-else-status.result in omega (arith, few.1, c.push-else-status.ensures.spare, c.requires)
