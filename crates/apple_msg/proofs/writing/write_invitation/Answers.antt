use Rattle.jm_wire.specs.Octets.{joined}
use Rattle.apple_msg.proofs.writing.write_invitation.Goals as goal

pub returns : goal.returns
returns c = rw (← c.as_slice.ensures.octets) (joined c.write_header.ensures (joined c.push_slice.ensures c.push.ensures))
