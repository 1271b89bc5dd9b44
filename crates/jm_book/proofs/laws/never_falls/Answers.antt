use Rattle.jm_book.specs.LegalJoined.{checkpoint_rises}
use Rattle.jm_book.proofs.laws.never_falls.Goals as goal

pub returns : goal.returns
returns c = checkpoint_rises
