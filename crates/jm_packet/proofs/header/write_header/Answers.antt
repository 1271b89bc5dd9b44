use Rattle.jm_wire.specs.Octets.{joined}
use Rattle.jm_packet.proofs.header.write_header.Goals as goal

pub returns : goal.returns
returns c =
    rw (← c.payload_octet.ensures) (joined (joined (joined (joined c.push.ensures c.push-2.ensures) c.push_u16.ensures) c.push_u32.ensures) c.push_u32-2.ensures)
