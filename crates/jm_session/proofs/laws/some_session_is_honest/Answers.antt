use Rattle.jm_session.proofs.SomeHonest.{some_session}
use Rattle.jm_session.proofs.laws.some_session_is_honest.Goals as goal

pub returns : goal.returns
returns c = some_session c.honest_participants_stay_in_step.ensures
