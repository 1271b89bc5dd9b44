use Rattle.jm_book.specs.EnterLaws.{counts_players}
use Rattle.jm_book.proofs.laws.members.counts_players.Goals as goal

pub returns : goal.returns
returns c = counts_players
