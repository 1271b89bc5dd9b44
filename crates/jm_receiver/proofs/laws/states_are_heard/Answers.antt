use Rattle.jm_receiver.specs.HeardStates.{states_heard}
use Rattle.jm_receiver.proofs.laws.states_are_heard.Goals as goal

pub returns : goal.returns
returns c = states_heard
