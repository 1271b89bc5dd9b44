use Rattle.apple_msg.proofs.Whole.{messages_read_back}
use Rattle.apple_msg.proofs.laws.messages_read_back.Goals as goal

pub returns : goal.returns
returns c = messages_read_back
