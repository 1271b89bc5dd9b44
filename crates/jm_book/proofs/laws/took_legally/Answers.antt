use Rattle.jm_book.specs.LegalLaws.{legal_pop}
use Rattle.jm_book.proofs.laws.took_legally.Goals as goal

pub returns : goal.returns
returns c = legal_pop
