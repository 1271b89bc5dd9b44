use Rattle.ch_sysex.specs.FreshLaws.{coded_x-in_order}
use Rattle.ch_sysex.proofs.laws.coded_in_order.Goals as goal

pub returns : goal.returns
returns c = coded_x-in_order
