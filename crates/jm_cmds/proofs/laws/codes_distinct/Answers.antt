use Rattle.jm_cmds.specs.HistoryLaws.{Unended-coded}
use Rattle.jm_cmds.specs.Sent.{packet_of}
use Rattle.jm_cmds.proofs.laws.codes_distinct.Goals as goal

pub returns : goal.returns
returns c = λ ends checkpoint sent. Unended-coded ends packet_of checkpoint sent
