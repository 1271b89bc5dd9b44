use Rattle.jm_session.proofs.InStepLaws.{stay_in_step}
use Rattle.jm_session.proofs.laws.receivers_stay_in_step.Goals as goal

pub returns : goal.returns
returns c = stay_in_step c.receivers_come_in_step.ensures c.packets_are_read.ensures
