use Rattle.jm_book.specs.LegalJoined.{legal_participate}
use Rattle.jm_book.proofs.laws.shares_no_slot.Goals as goal

pub returns : goal.returns
returns c = λ config steps legal. let all = legal_participate config steps legal in (all.slots, all.in_range)
