use Rattle.jm_book.specs.SlowestLaws.{names_slowest}
use Rattle.jm_book.proofs.laws.members.names_slowest.Goals as goal

pub returns : goal.returns
returns c = names_slowest
