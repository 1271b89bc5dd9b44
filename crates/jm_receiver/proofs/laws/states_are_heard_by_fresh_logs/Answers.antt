use Rattle.jm_receiver.specs.HeardStates.{states_heard_by_fresh}
use Rattle.jm_receiver.proofs.laws.states_are_heard_by_fresh_logs.Goals as goal

pub returns : goal.returns
returns c = states_heard_by_fresh
