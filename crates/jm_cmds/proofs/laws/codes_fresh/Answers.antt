use Rattle.jm_cmds.specs.HistoryLaws.{coded_fresh}
use Rattle.jm_cmds.specs.Sent.{packet_of}
use Rattle.jm_cmds.proofs.laws.codes_fresh.Goals as goal

pub returns : goal.returns
returns c = λ ends checkpoint last sent l. coded_fresh ends packet_of checkpoint last sent l
