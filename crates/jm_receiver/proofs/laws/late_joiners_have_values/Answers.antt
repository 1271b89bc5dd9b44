use Rattle.jm_receiver.proofs.LateLaws.{late_joiners_have_values as have_values}
use Rattle.jm_receiver.proofs.laws.late_joiners_have_values.Goals as goal

pub returns : goal.returns
returns c = have_values
