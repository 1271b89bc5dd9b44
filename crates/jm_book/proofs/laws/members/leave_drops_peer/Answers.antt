use Rattle.jm_book.specs.PeerLaws.{leave_drops_peer}
use Rattle.jm_book.proofs.laws.members.leave_drops_peer.Goals as goal

pub returns : goal.returns
returns c = leave_drops_peer
