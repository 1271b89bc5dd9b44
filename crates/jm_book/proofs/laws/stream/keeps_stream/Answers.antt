use Rattle.jm_book.specs.StreamLaws.{keeps_stream}
use Rattle.jm_book.proofs.laws.stream.keeps_stream.Goals as goal

pub returns : goal.returns
returns c = keeps_stream
