use Rattle.std.proofs.Common.{◌≡◌, ◌+◌, ◌≤◌, length}
use Rattle.ch_param.specs.Event.{placed}
use Rattle.ch_param.specs.ChapterM.{entered, session_places}
use Rattle.ch_param.proofs.logs.count.Given as goal

abbrev pub invariant-loop-behind : goal.invariant-loop-behind
invariant-loop-behind l = record {
  counted : l.count + length (entered l.channel l.checkpoint (placed l.channel l.selection l.rest)) ≡ length (entered l.channel l.checkpoint (session_places l.channel l.history));
  few : l.count + length l.rest ≤ length l.history;
}

abbrev pub decreases-loop-behind : goal.decreases-loop-behind
decreases-loop-behind l = length l.rest
