use Rattle.jm_book.specs.StreamLaws.{keeps_packets}
use Rattle.jm_book.proofs.laws.stream.keeps_packets.Goals as goal

pub returns : goal.returns
returns c = keeps_packets
