use Rattle.jm_receiver.proofs.PacketsTold.{packets_tell_params}
use Rattle.jm_receiver.proofs.laws.packets_tell_parameters.Goals as goal

pub returns : goal.returns
returns c = packets_tell_params
