use Rattle.jm_receiver.specs.FreshAgreement.{in_step_by_fresh}
use Rattle.jm_receiver.proofs.laws.fresh_logs_bring_in_step.Goals as goal

pub returns : goal.returns
returns c = in_step_by_fresh
