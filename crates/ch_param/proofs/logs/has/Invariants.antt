use Rattle.std.proofs.Common.{◌≡◌, length}
use Rattle.std.specs.List.{list_any}
use Rattle.jm_cmds.specs.Param.{same_param}
use Rattle.ch_param.specs.Event.{placed}
use Rattle.ch_param.specs.ChapterM.{Entered, entered, session_places}
use Rattle.ch_param.proofs.logs.has.Given as goal

abbrev pub invariant-loop-other : goal.invariant-loop-other
invariant-loop-other l =
    list_any (λ (e : Entered). same_param l.param e.param) (entered l.channel l.checkpoint (placed l.channel l.selection l.rest))
    ≡ list_any (λ (e : Entered). same_param l.param e.param) (entered l.channel l.checkpoint (session_places l.channel l.history))

abbrev pub decreases-loop-other : goal.decreases-loop-other
decreases-loop-other l = length l.rest
