use Rattle.jm_receiver.proofs.SegmentsTold.{segments_heard}
use Rattle.jm_receiver.proofs.laws.segments_are_heard_once.Goals as goal

pub returns : goal.returns
returns c = segments_heard
