use Rattle.std.proofs.Common.{◌≡◌, length}
use Rattle.ch_param.specs.ParamTable.{rows_fresh}
use Rattle.ch_param.proofs.param_table.has_fresh.Given as goal

abbrev pub invariant-loop-row : goal.invariant-loop-row
invariant-loop-row l = rows_fresh l.packet l.rest ≡ rows_fresh l.packet l.halves

abbrev pub decreases-loop-row : goal.decreases-loop-row
decreases-loop-row l = length l.rest
