use Rattle.jm_book.specs.LimitLaws.{legal_limits}
use Rattle.jm_book.proofs.laws.keeps_limits.Goals as goal

pub returns : goal.returns
returns c = legal_limits
