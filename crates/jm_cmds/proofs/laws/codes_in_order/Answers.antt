use Rattle.jm_cmds.specs.HistoryLaws.{InOrder-coded}
use Rattle.jm_cmds.specs.Sent.{packet_of}
use Rattle.jm_cmds.proofs.laws.codes_in_order.Goals as goal

pub returns : goal.returns
returns c = λ number_of ends checkpoint sent h. InOrder-coded number_of ends packet_of checkpoint sent h
