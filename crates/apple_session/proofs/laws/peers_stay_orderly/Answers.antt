use Rattle.apple_session.proofs.Came.{peers_stay_orderly}
use Rattle.apple_session.proofs.laws.peers_stay_orderly.Goals as goal

pub returns : goal.returns
returns c = peers_stay_orderly
