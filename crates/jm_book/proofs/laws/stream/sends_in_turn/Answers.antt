use Rattle.jm_book.specs.InTurnLaws.{sends_in_turn}
use Rattle.jm_book.proofs.laws.stream.sends_in_turn.Goals as goal

pub returns : goal.returns
returns c = sends_in_turn
