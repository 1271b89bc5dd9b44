use Rattle.jm_book.specs.OrderLaws.{sent_in_order, all_in_order}
use Rattle.jm_book.specs.Stream.{stream_of}
use Rattle.jm_book.proofs.laws.packets_in_order.Goals as goal

pub returns : goal.returns
returns c = λ steps. (sent_in_order steps, all_in_order (stream_of steps))
