use Rattle.std.proofs.Common.{◌≡◌, ◌≤◌, ◌++◌, drop, filter}
use Rattle.arrayvec.specs.ArrayVec.{array_vec_len}
use Rattle.jm_state.specs.Entered.{is_other}
use Rattle.jm_state.proofs.entered.others.Given as goal

abbrev pub invariant-loop-entry : goal.invariant-loop-entry
invariant-loop-entry l = (l.left.items ++ filter (is_other l.param) (drop l.entry-index l.entries) ≡ filter (is_other l.param) l.entries) × (array_vec_len l.left ≤ l.entry-index)
