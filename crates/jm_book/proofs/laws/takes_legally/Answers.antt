use Rattle.jm_book.specs.LegalLaws.{legal_push}
use Rattle.jm_book.proofs.laws.takes_legally.Goals as goal

pub returns : goal.returns
returns c = λ config. (tt, legal_push config)
