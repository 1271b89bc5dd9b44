use Rattle.std.proofs.Common.{arith}
use Rattle.jm_wire.specs.DeltaWriting.{delta-length}
use Rattle.jm_smf.proofs.Bounds.{same_room}
use Rattle.jm_smf.proofs.writing.push_event.Goals as goal

pub write_delta-requires-clause-room : goal.write_delta-requires-clause-room
write_delta-requires-clause-room c = let few = delta-length c.args.delta in omega (arith, few.1, c.clear.ensures.spare, c.requires.room)

pub write_lead-requires : goal.write_lead-requires
write_lead-requires c = let few = delta-length c.args.delta in omega (arith, few.1, c.clear.ensures.spare, c.write_delta.ensures.spare, c.requires.room)

pub write_command-requires : goal.write_command-requires
write_command-requires c =
    omega (arith, c.clear.ensures.spare, same_room c.write_delta.ensures, same_room c.write_lead.ensures, c.clear-2.ensures.spare, c.size.ensures.number, c.size.ensures.most, c.requires.room)
