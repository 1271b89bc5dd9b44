use Rattle.jm_receiver.specs.HeardPackets.{packets_heard}
use Rattle.jm_receiver.proofs.laws.packets_are_heard.Goals as goal

pub returns : goal.returns
returns c = packets_heard
