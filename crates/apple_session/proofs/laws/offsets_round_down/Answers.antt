use Rattle.apple_session.proofs.Replies.{offsets_round_down}
use Rattle.apple_session.proofs.laws.offsets_round_down.Goals as goal

pub returns : goal.returns
returns c = offsets_round_down
