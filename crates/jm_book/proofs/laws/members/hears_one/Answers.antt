use Rattle.jm_book.specs.AloneLaws.{hears_one}
use Rattle.jm_book.proofs.laws.members.hears_one.Goals as goal

pub returns : goal.returns
returns c = hears_one
