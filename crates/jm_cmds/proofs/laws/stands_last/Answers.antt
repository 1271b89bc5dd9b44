use Rattle.jm_cmds.specs.HistoryLaws.{standing-push}
use Rattle.jm_cmds.proofs.laws.stands_last.Goals as goal

pub returns : goal.returns
returns c = standing-push
