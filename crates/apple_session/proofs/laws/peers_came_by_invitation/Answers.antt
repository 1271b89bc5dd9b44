use Rattle.apple_session.proofs.Came.{peers_came_by_invitation}
use Rattle.apple_session.proofs.laws.peers_came_by_invitation.Goals as goal

pub returns : goal.returns
returns c = peers_came_by_invitation
