use Rattle.jm_wire.specs.Octets.{joined}
use Rattle.apple_msg.proofs.writing.write_header.Goals as goal

pub returns : goal.returns
returns c = joined c.push_u32.ensures (joined c.push_u32-2.ensures c.push_u32-3.ensures)
