use Rattle.jm_receiver.proofs.SelectionsTold.{selections_heard}
use Rattle.jm_receiver.proofs.laws.selections_are_heard.Goals as goal

pub returns : goal.returns
returns c = selections_heard
