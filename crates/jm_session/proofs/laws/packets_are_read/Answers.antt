use Rattle.jm_session.proofs.PacketLaws.{packets_are_read}
use Rattle.jm_session.proofs.laws.packets_are_read.Goals as goal

pub returns : goal.returns
returns c = packets_are_read c.headers_read_back.ensures c.sections_read_back.ensures
