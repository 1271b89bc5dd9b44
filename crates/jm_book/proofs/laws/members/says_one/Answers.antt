use Rattle.jm_book.specs.AloneLaws.{says_one}
use Rattle.jm_book.proofs.laws.members.says_one.Goals as goal

pub returns : goal.returns
returns c = says_one
