use Rattle.apple_session.specs.Acts.{acts_tell}
use Rattle.apple_session.proofs.laws.acts_tell.Goals as goal

pub returns : goal.returns
returns c = acts_tell
