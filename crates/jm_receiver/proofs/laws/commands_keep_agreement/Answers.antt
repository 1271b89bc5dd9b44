use Rattle.jm_receiver.specs.KeptAgreement.{commands_agree}
use Rattle.jm_receiver.proofs.laws.commands_keep_agreement.Goals as goal

pub returns : goal.returns
returns c = commands_agree
