use Rattle.std.proofs.Common.{◌≡◌, length, fold}
use Rattle.jm_cmds.specs.Pedal.{pedal_along, pedal_after, IsPedal}
use Rattle.jm_cmds.proofs.pedal.pedal_after.Given as goal

abbrev pub invariant-loop-place : goal.invariant-loop-place
invariant-loop-place l = (fold (pedal_along l.channel) l.state l.rest ≡ pedal_after l.channel l.session) × IsPedal l.state

abbrev pub decreases-loop-place : goal.decreases-loop-place
decreases-loop-place l = length l.rest
