use Rattle.jm_book.specs.StreamLaws.{sends_pending}
use Rattle.jm_book.proofs.laws.stream.sends_pending.Goals as goal

pub returns : goal.returns
returns c = sends_pending
