use Rattle.jm_receiver.specs.Needless.{nothing_needless}
use Rattle.jm_receiver.proofs.laws.nothing_needless_is_heard.Goals as goal

pub returns : goal.returns
returns c = nothing_needless
