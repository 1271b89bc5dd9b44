use Rattle.jm_packet.specs.Says.{packet_says}
use Rattle.jm_packet.proofs.laws.packets_say.Goals as goal

pub returns : goal.returns
returns c = packet_says
