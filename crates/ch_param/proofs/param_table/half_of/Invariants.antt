use Rattle.std.proofs.Common.{◌≡◌, drop}
use Rattle.ch_param.specs.ParamTable.{half_of}
use Rattle.ch_param.proofs.param_table.half_of.Given as goal

abbrev pub invariant-loop-row : goal.invariant-loop-row
invariant-loop-row l = half_of l.param l.high (drop l.row-index l.halves) ≡ half_of l.param l.high l.halves
