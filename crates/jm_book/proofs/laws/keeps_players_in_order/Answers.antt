use Rattle.jm_book.specs.PlayLaws.{players_in_order}
use Rattle.jm_book.proofs.laws.keeps_players_in_order.Goals as goal

pub returns : goal.returns
returns c = players_in_order
