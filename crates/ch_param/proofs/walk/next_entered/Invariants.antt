use Rattle.std.proofs.Common.{◌≡◌, ◌≤◌, length}
use Rattle.ch_param.specs.Event.{placed}
use Rattle.ch_param.specs.ChapterM.{entered}
use Rattle.ch_param.proofs.walk.next_entered.Given as goal

abbrev pub invariant-loop-place : goal.invariant-loop-place
invariant-loop-place l = record {
  places : entered l.channel l.checkpoint (placed l.channel l.selection l.rest) ≡ entered l.channel l.checkpoint (placed l.channel l.before l.places);
  fewer : length l.rest ≤ length l.places;
}

abbrev pub decreases-loop-place : goal.decreases-loop-place
decreases-loop-place l = length l.rest
