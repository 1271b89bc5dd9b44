use Rattle.jm_book.specs.PlayLaws.{serials_count_up}
use Rattle.jm_book.proofs.laws.numbers_plays.Goals as goal

pub returns : goal.returns
returns c = serials_count_up
