use Rattle.jm_book.specs.StreamLaws.{needs_no_cut}
use Rattle.jm_book.proofs.laws.stream.needs_no_cut.Goals as goal

pub returns : goal.returns
returns c = needs_no_cut
