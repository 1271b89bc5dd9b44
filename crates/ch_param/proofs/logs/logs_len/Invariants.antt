use Rattle.std.proofs.Common.{◌≡◌, ℕ, ◌+◌, length}
use Rattle.std.specs.List.{flat_map}
use Rattle.ch_param.specs.Event.{placed}
use Rattle.ch_param.specs.ChapterM.{entered, entered_log, param_logs, session_places}
use Rattle.ch_param.proofs.logs.logs_len.Given as goal

abbrev pub invariant-loop-param : goal.invariant-loop-param
invariant-loop-param l =
    (packet : ℕ) →
    l.len + length (flat_map (entered_log l.channel l.checkpoint packet (session_places l.channel l.history)) (entered l.channel l.checkpoint (placed l.channel l.selection l.rest)))
    ≡ length (param_logs l.channel l.checkpoint packet (session_places l.channel l.history))

abbrev pub decreases-loop-param : goal.decreases-loop-param
decreases-loop-param l = length l.rest
