use Rattle.jm_cmds.specs.FaultLaws.{Shows-command_read}
use Rattle.jm_cmds.proofs.laws.faults_show.Goals as goal

pub returns : goal.returns
returns c = Shows-command_read
