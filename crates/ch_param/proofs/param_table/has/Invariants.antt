use Rattle.std.proofs.Common.{◌≡◌, length}
use Rattle.ch_param.specs.ParamTable.{has_row}
use Rattle.ch_param.proofs.param_table.has.Given as goal

abbrev pub invariant-loop-row : goal.invariant-loop-row
invariant-loop-row l = has_row l.param l.rest ≡ has_row l.param l.halves

abbrev pub decreases-loop-row : goal.decreases-loop-row
decreases-loop-row l = length l.rest
