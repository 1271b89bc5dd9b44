use Rattle.jm_book.specs.LegalJoined.{legal_participate}
use Rattle.jm_book.proofs.laws.joins_once.Goals as goal

pub returns : goal.returns
returns c = λ config steps legal. (legal_participate config steps legal).ssrcs
