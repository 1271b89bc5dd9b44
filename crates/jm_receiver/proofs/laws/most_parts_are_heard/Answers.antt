use Rattle.jm_receiver.specs.HeardLaw.{most_heard}
use Rattle.jm_receiver.proofs.laws.most_parts_are_heard.Goals as goal

pub returns : goal.returns
returns c = most_heard
