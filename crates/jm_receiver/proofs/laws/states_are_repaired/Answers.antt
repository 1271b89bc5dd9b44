use Rattle.jm_receiver.specs.Agreement.{states_repaired}
use Rattle.jm_receiver.proofs.laws.states_are_repaired.Goals as goal

pub returns : goal.returns
returns c = states_repaired
