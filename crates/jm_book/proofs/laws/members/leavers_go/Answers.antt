use Rattle.jm_book.specs.PeerLaws.{leavers_go}
use Rattle.jm_book.proofs.laws.members.leavers_go.Goals as goal

pub returns : goal.returns
returns c = leavers_go
