use Rattle.jm_cmds.specs.CommandLaws.{spelling-unique}
use Rattle.jm_cmds.proofs.laws.one_spelling.Goals as goal

pub returns : goal.returns
returns c = spelling-unique
