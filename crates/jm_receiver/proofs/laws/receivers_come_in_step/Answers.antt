use Rattle.jm_receiver.proofs.InStepLaws.{receivers_come_in_step as come_in_step}
use Rattle.jm_receiver.proofs.laws.receivers_come_in_step.Goals as goal

pub returns : goal.returns
returns c = come_in_step
