use Rattle.jm_book.specs.StreamLaws.{counts_cuts}
use Rattle.jm_book.proofs.laws.stream.counts_cuts.Goals as goal

pub returns : goal.returns
returns c = counts_cuts
