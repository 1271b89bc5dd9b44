use Rattle.apple_msg.proofs.Whole.{reads_what_is_spelled}
use Rattle.apple_msg.proofs.laws.reads_what_is_spelled.Goals as goal

pub returns : goal.returns
returns c = reads_what_is_spelled
