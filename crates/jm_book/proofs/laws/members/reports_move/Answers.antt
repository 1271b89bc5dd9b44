use Rattle.jm_book.specs.AloneLaws.{reports_move}
use Rattle.jm_book.proofs.laws.members.reports_move.Goals as goal

pub returns : goal.returns
returns c = reports_move
