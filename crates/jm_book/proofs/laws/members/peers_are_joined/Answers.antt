use Rattle.jm_book.specs.InvitedLaws.{peers_are_joined}
use Rattle.jm_book.proofs.laws.members.peers_are_joined.Goals as goal

pub returns : goal.returns
returns c = peers_are_joined
