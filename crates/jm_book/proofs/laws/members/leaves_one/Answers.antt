use Rattle.jm_book.specs.AloneLaws.{leaves_one}
use Rattle.jm_book.proofs.laws.members.leaves_one.Goals as goal

pub returns : goal.returns
returns c = leaves_one
