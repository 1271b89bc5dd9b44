use Rattle.jm_receiver.proofs.ParamsTold.{parameters_heard}
use Rattle.jm_receiver.proofs.laws.parameters_are_heard.Goals as goal

pub returns : goal.returns
returns c = parameters_heard
