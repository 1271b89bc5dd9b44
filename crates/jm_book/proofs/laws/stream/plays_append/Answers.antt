use Rattle.jm_book.specs.StreamLaws.{plays_append}
use Rattle.jm_book.proofs.laws.stream.plays_append.Goals as goal

pub returns : goal.returns
returns c = plays_append
