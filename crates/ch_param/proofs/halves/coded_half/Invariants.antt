use Rattle.std.proofs.Common.{◌≡◌, None, fold, length}
use Rattle.ch_param.specs.Event.{placed}
use Rattle.ch_param.specs.HalfLaws.{place_step}
use Rattle.ch_param.specs.ChapterM.{session_places}
use Rattle.ch_param.proofs.halves.coded_half.Given as goal

abbrev pub invariant-loop-place : goal.invariant-loop-place
invariant-loop-place l =
    fold (place_step l.channel l.checkpoint l.param l.high) l.half (placed l.channel l.selection l.rest)
    ≡ fold (place_step l.channel l.checkpoint l.param l.high) None (session_places l.channel l.history)

abbrev pub decreases-loop-place : goal.decreases-loop-place
decreases-loop-place l = length l.rest
