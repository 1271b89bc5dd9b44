use Rattle.jm_book.specs.AloneLaws.{joins_few}
use Rattle.jm_book.proofs.laws.members.joins_few.Goals as goal

pub returns : goal.returns
returns c = joins_few
