use Rattle.jm_receiver.proofs.StepLaws.{stays_in_step}
use Rattle.jm_receiver.proofs.receiver.Receiver.accept.Goals as goal

pub returns-clause-in_step : goal.returns-clause-in_step
returns-clause-in_step c = stays_in_step c.args.self.now c.args.packet.now c.take.result c.take.new.self c.take.ensures.accepts
