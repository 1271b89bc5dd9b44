use Rattle.jm_book.specs.SlowestLaws.{stays_near}
use Rattle.jm_book.proofs.laws.members.stays_near.Goals as goal

pub returns : goal.returns
returns c = stays_near
