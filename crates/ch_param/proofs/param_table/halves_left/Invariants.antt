use Rattle.std.proofs.Common.{◌≡◌, ◌≤◌, ◌++◌, drop, filter}
use Rattle.arrayvec.specs.ArrayVec.{array_vec_len}
use Rattle.ch_param.specs.ParamTable.{is_left}
use Rattle.ch_param.proofs.param_table.halves_left.Given as goal

abbrev pub invariant-loop-row : goal.invariant-loop-row
invariant-loop-row l = (l.left.items ++ filter (is_left l.event) (drop l.row-index l.halves) ≡ filter (is_left l.event) l.halves) × (array_vec_len l.left ≤ l.row-index)
