use Rattle.ch_control.specs.ActivityLaws.{ends_by_activity}
use Rattle.ch_control.proofs.laws.ends_by_activity.Goals as goal

pub returns : goal.returns
returns c = ends_by_activity
