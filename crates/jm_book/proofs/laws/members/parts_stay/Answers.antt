use Rattle.jm_book.specs.PeerLaws.{parts_stay}
use Rattle.jm_book.proofs.laws.members.parts_stay.Goals as goal

pub returns : goal.returns
returns c = parts_stay
