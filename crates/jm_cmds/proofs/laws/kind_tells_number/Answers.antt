use Rattle.jm_cmds.specs.ControlLaws.{control_number-control_kind}
use Rattle.jm_cmds.proofs.laws.kind_tells_number.Goals as goal

pub returns : goal.returns
returns c = control_number-control_kind
