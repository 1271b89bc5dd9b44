use Rattle.jm_book.specs.Session.{session_stream}
use Rattle.jm_book.specs.LegalJoined.{legal_participate}
use Rattle.jm_book.proofs.laws.marks_sent.Goals as goal

pub returns : goal.returns
returns c = λ config steps legal. rw (session_stream config steps) at (legal_participate config steps legal).marks
