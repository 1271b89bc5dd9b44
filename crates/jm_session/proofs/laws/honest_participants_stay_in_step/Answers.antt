use Rattle.jm_session.proofs.HonestLaws.{honest_stay_in_step}
use Rattle.jm_session.proofs.laws.honest_participants_stay_in_step.Goals as goal

pub returns : goal.returns
returns c = honest_stay_in_step c.receivers_stay_in_step.ensures
