use Rattle.std.proofs.Common.{◌≡◌, length, fold}
use Rattle.jm_cmds.specs.Sequencing.{sequencer_along, sequencer_after, IsSequencer}
use Rattle.jm_cmds.proofs.sequencing.sequencer_after.Given as goal

abbrev pub invariant-loop-place : goal.invariant-loop-place
invariant-loop-place l = (fold sequencer_along l.state l.rest ≡ sequencer_after l.session) × IsSequencer l.state

abbrev pub decreases-loop-place : goal.decreases-loop-place
decreases-loop-place l = length l.rest
