use Rattle.ch_notes.specs.Muted.{x_tells_activity}
use Rattle.ch_notes.proofs.laws.x_tells_activity.Goals as goal

pub returns : goal.returns
returns c = x_tells_activity
