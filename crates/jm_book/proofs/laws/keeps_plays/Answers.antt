use Rattle.jm_book.specs.PlayLaws.{entries_are_plays}
use Rattle.jm_book.proofs.laws.keeps_plays.Goals as goal

pub returns : goal.returns
returns c = entries_are_plays
