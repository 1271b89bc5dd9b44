use Rattle.jm_book.specs.SlowestLaws.{is_least_mark}
use Rattle.jm_book.proofs.laws.members.is_least_mark.Goals as goal

pub returns : goal.returns
returns c = is_least_mark
