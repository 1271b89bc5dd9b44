use Rattle.std.proofs.Common.{sym}
use Rattle.jm_cmds.specs.HistoryLaws.{coded-later}
use Rattle.jm_cmds.specs.Sent.{packet_of}
use Rattle.jm_cmds.proofs.laws.codes_less.Goals as goal

pub returns : goal.returns
returns c = λ ends checkpoint later sent l. sym (coded-later ends packet_of checkpoint later sent l)
