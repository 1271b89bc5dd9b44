use Rattle.jm_book.specs.InTurnLaws.{waits_alone}
use Rattle.jm_book.proofs.laws.stream.waits_alone.Goals as goal

pub returns : goal.returns
returns c = waits_alone
