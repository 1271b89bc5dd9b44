use Rattle.std.proofs.Common.{length}
use Rattle.std.specs.List.{flat_map}
use Rattle.jm_wire.specs.Octets.{Owes}
use Rattle.ch_param.specs.Event.{placed}
use Rattle.ch_param.specs.ChapterM.{entered, entered_log, param_logs, session_places}
use Rattle.ch_param.proofs.logs.write_parameter_logs.Given as goal

abbrev pub invariant-loop-param : goal.invariant-loop-param
invariant-loop-param l =
    Owes l.initial.out l.out
    (param_logs l.channel l.checkpoint l.packet (session_places l.channel l.history))
    (flat_map (entered_log l.channel l.checkpoint l.packet (session_places l.channel l.history)) (entered l.channel l.checkpoint (placed l.channel l.selection l.rest)))

abbrev pub decreases-loop-param : goal.decreases-loop-param
decreases-loop-param l = length l.rest
