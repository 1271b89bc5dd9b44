use Rattle.jm_session.proofs.SomeLong.{some_long_heard}
use Rattle.jm_session.proofs.laws.some_long_commands_are_heard.Goals as goal

pub returns : goal.returns
returns c = some_long_heard c.receivers_stay_in_step.ensures c.long_commands_are_heard_once.ensures
