use Rattle.jm_cmds.specs.CommandLaws.{command_read-spelling}
use Rattle.jm_cmds.proofs.laws.reads_spelled.Goals as goal

pub returns : goal.returns
returns c = command_read-spelling
