use Rattle.ch_param.specs.OrderLaws.{logs_in_order}
use Rattle.ch_param.proofs.laws.logs_in_order.Goals as goal

pub returns : goal.returns
returns c = logs_in_order
