use Rattle.jm_book.specs.TickLaws.{ticks_in_order}
use Rattle.jm_book.proofs.laws.ticks_in_order.Goals as goal

pub returns : goal.returns
returns c = λ steps. let rise = ticks_in_order steps in (rise.in_order, rise.reached)
