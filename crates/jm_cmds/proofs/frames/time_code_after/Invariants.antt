use Rattle.std.proofs.Common.{◌≡◌, length, fold}
use Rattle.jm_cmds.specs.Frames.{time_code_along, time_code_after, IsTimeCode}
use Rattle.jm_cmds.proofs.frames.time_code_after.Given as goal

abbrev pub invariant-loop-place : goal.invariant-loop-place
invariant-loop-place l = (fold time_code_along l.state l.rest ≡ time_code_after l.session) × IsTimeCode l.state

abbrev pub decreases-loop-place : goal.decreases-loop-place
decreases-loop-place l = length l.rest
