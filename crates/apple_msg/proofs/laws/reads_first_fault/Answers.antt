use Rattle.apple_msg.proofs.Whole.{reads_first_fault}
use Rattle.apple_msg.proofs.laws.reads_first_fault.Goals as goal

pub returns : goal.returns
returns c = reads_first_fault
