use Rattle.jm_book.specs.StreamLaws.{pends_since_cut}
use Rattle.jm_book.proofs.laws.stream.pends_since_cut.Goals as goal

pub returns : goal.returns
returns c = pends_since_cut
