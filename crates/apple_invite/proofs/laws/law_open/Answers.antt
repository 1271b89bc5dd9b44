use Rattle.apple_invite.proofs.RunLaws.{open_was_held}
use Rattle.apple_invite.proofs.laws.law_open.Goals as goal

pub returns : goal.returns
returns c = open_was_held
