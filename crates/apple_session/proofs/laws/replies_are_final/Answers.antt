use Rattle.apple_session.proofs.Replies.{replies_are_final}
use Rattle.apple_session.proofs.laws.replies_are_final.Goals as goal

pub returns : goal.returns
returns c = replies_are_final
