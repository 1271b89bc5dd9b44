use Rattle.jm_book.specs.SlowestLaws.{departures_free}
use Rattle.jm_book.proofs.laws.members.departures_free.Goals as goal

pub returns : goal.returns
returns c = departures_free
