use Rattle.jm_desk.specs.History.{turned}
use Rattle.jm_desk.proofs.desk.Desk.end.Given as goal

abbrev pub ghosts-give : goal.ghosts-give
ghosts-give g a = record { turn = turned a.call.now.value (g.A.Answer.outcome a.answer.now) }
