use Rattle.apple_session.specs.Others.{order_stays}
use Rattle.apple_session.proofs.laws.order_stays.Goals as goal

pub returns : goal.returns
returns c = order_stays
