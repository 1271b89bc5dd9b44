use Rattle.jm_book.specs.AloneLaws.{joins_one}
use Rattle.jm_book.proofs.laws.members.joins_one.Goals as goal

pub returns : goal.returns
returns c = joins_one
