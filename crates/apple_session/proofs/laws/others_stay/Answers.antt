use Rattle.apple_session.specs.Others.{others_stay}
use Rattle.apple_session.proofs.laws.others_stay.Goals as goal

pub returns : goal.returns
returns c = others_stay
