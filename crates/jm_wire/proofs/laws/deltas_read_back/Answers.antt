use Rattle.jm_wire.specs.DeltaWriting.{written}
use Rattle.jm_wire.proofs.laws.deltas_read_back.Goals as goal

pub returns : goal.returns
returns c = written
