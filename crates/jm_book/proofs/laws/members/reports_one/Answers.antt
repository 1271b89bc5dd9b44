use Rattle.jm_book.specs.AloneLaws.{reports_one}
use Rattle.jm_book.proofs.laws.members.reports_one.Goals as goal

pub returns : goal.returns
returns c = reports_one
