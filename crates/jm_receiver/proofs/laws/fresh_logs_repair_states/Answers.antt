use Rattle.jm_receiver.specs.FreshAgreement.{states_by_fresh}
use Rattle.jm_receiver.proofs.laws.fresh_logs_repair_states.Goals as goal

pub returns : goal.returns
returns c = states_by_fresh
