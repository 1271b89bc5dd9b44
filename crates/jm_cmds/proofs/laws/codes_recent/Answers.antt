use Rattle.jm_cmds.specs.HistoryLaws.{since-standing}
use Rattle.jm_cmds.specs.Sent.{packet_of}
use Rattle.jm_cmds.proofs.laws.codes_recent.Goals as goal

pub returns : goal.returns
returns c = λ ends checkpoint sent h. since-standing ends packet_of checkpoint sent h
