use Rattle.std.proofs.Common.{◌≡◌, ◌≤◌, ◌++◌, drop}
use Rattle.arrayvec.specs.ArrayVec.{array_vec_len}
use Rattle.ch_param.proofs.param_table.copied.Given as goal

abbrev pub invariant-loop-row : goal.invariant-loop-row
invariant-loop-row l = (l.left.items ++ drop l.row-index l.halves ≡ l.halves) × (array_vec_len l.left ≤ l.row-index)
