use Rattle.apple_invite.proofs.CallLaws.{open_was_taken_twice}
use Rattle.apple_invite.proofs.laws.law_calls.Goals as goal

pub returns : goal.returns
returns c = open_was_taken_twice
