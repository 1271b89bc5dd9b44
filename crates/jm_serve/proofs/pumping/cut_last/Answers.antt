use Rattle.jm_serve.proofs.Departing.{ended_packet, ended_full, ended_behind, ended_no_memory}
use Rattle.jm_serve.proofs.pumping.cut_last.Goals as goal

pub returns-in-Err-clause-ended : goal.returns-in-Err-clause-ended
returns-in-Err-clause-ended g c = ended_no_memory _ _ _ _ _ _ c.in-Err.ensures.cuts

pub returns-in-Packet-clause-ended : goal.returns-in-Packet-clause-ended
returns-in-Packet-clause-ended g c = ended_packet _ _ _ _ _ _ (rw c.in-Packet.is at c.in-Ok.ensures.cuts)

pub returns-in-RecordFull-clause-ended : goal.returns-in-RecordFull-clause-ended
returns-in-RecordFull-clause-ended g c = ended_full _ _ _ _ _ _ (rw c.in-RecordFull.is at c.in-Ok.ensures.cuts)

pub returns-in-Behind-clause-ended : goal.returns-in-Behind-clause-ended
returns-in-Behind-clause-ended g c = ended_behind _ _ _ _ _ _ (rw c.in-Behind.is at c.in-Ok.ensures.cuts)
