use Rattle.jm_book.specs.StreamLaws.{leaves_nothing}
use Rattle.jm_book.proofs.laws.stream.leaves_nothing.Goals as goal

pub returns : goal.returns
returns c = leaves_nothing
