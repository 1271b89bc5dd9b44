use Rattle.jm_book.specs.AloneLaws.{keeps_joined}
use Rattle.jm_book.proofs.laws.members.keeps_joined.Goals as goal

pub returns : goal.returns
returns c = keeps_joined
