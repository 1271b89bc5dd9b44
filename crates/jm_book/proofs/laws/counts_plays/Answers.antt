use Rattle.jm_book.specs.PlayLaws.{counts_plays}
use Rattle.jm_book.proofs.laws.counts_plays.Goals as goal

pub returns : goal.returns
returns c = λ steps. let counts = counts_plays steps in (counts.plays, counts.tick)
