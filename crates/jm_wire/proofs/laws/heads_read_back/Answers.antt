use Rattle.jm_wire.specs.HeadLaws.{heads_back}
use Rattle.jm_wire.proofs.laws.heads_read_back.Goals as goal

pub returns : goal.returns
returns c = heads_back
