use Rattle.apple_session.specs.Others.{joined_stay}
use Rattle.apple_session.proofs.laws.joined_stay.Goals as goal

pub returns : goal.returns
returns c = joined_stay
