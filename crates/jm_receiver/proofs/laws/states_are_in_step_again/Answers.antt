use Rattle.jm_receiver.specs.KeptAgreement.{in_step_again}
use Rattle.jm_receiver.proofs.laws.states_are_in_step_again.Goals as goal

pub returns : goal.returns
returns c = in_step_again
