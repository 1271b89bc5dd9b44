use Rattle.apple_invite.proofs.SomeRun.{opens_somewhere}
use Rattle.apple_invite.proofs.laws.some_run_opens.Goals as goal

pub returns : goal.returns
returns c = opens_somewhere
