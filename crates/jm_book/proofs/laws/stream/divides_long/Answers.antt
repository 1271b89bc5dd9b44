use Rattle.jm_book.specs.SegmentLaws.{divides_long}
use Rattle.jm_book.proofs.laws.stream.divides_long.Goals as goal

pub returns : goal.returns
returns c = divides_long
