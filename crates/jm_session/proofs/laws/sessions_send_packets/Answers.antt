use Rattle.jm_session.proofs.SendingLaws.{sessions_send_packets as send_packets}
use Rattle.jm_session.proofs.laws.sessions_send_packets.Goals as goal

pub returns : goal.returns
returns c = send_packets c.packets_are_read.ensures
