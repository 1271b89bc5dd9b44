use Rattle.std.proofs.Common.{◌≡◌, ◌≤◌, ◌++◌, drop}
use Rattle.arrayvec.specs.ArrayVec.{array_vec_len}
use Rattle.ch_param.specs.ParamTable.{rows_since}
use Rattle.ch_param.proofs.param_table.halves_since.Given as goal

abbrev pub invariant-loop-row : goal.invariant-loop-row
invariant-loop-row l = (l.left.items ++ rows_since l.packet (drop l.row-index l.halves) ≡ rows_since l.packet l.halves) × (array_vec_len l.left ≤ l.row-index)
