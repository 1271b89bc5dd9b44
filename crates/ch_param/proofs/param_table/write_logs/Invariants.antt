use Rattle.std.proofs.Common.{length}
use Rattle.std.specs.List.{flat_map}
use Rattle.jm_wire.specs.Octets.{Owes}
use Rattle.ch_param.specs.ParamTable.{row_log, row_logs, last_halves}
use Rattle.ch_param.proofs.param_table.write_logs.Given as goal

abbrev pub invariant-loop-row : goal.invariant-loop-row
invariant-loop-row l =
    Owes l.initial.out l.out (row_logs l.packet l.halves) (flat_map (row_log l.packet l.halves) (last_halves l.rest))

abbrev pub decreases-loop-row : goal.decreases-loop-row
decreases-loop-row l = length l.rest
