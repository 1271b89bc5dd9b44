use Rattle.std.proofs.Common.{◌≡◌, length}
use Rattle.ch_param.specs.Event.{placed}
use Rattle.ch_param.specs.ChapterM.{entered, fresh_among, session_places}
use Rattle.ch_param.proofs.logs.is_fresh.Given as goal

abbrev pub invariant-loop-place : goal.invariant-loop-place
invariant-loop-place l =
    fresh_among l.packet (entered l.channel l.checkpoint (placed l.channel l.selection l.rest))
    ≡ fresh_among l.packet (entered l.channel l.checkpoint (session_places l.channel l.history))

abbrev pub decreases-loop-place : goal.decreases-loop-place
decreases-loop-place l = length l.rest
