use Rattle.jm_book.specs.PeerLaws.{peers_come}
use Rattle.jm_book.proofs.laws.members.peers_come.Goals as goal

pub returns : goal.returns
returns c = peers_come
