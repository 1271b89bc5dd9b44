use Rattle.jm_cmds.specs.CommandLaws.{BeginsWith-command_read}
use Rattle.jm_cmds.proofs.laws.reads_only_spelled.Goals as goal

pub returns : goal.returns
returns c = BeginsWith-command_read
