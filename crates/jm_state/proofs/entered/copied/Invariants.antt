use Rattle.std.proofs.Common.{◌≡◌, ◌≤◌, ◌++◌, drop}
use Rattle.arrayvec.specs.ArrayVec.{array_vec_len}
use Rattle.jm_state.proofs.entered.copied.Given as goal

abbrev pub invariant-loop-entry : goal.invariant-loop-entry
invariant-loop-entry l = (l.left.items ++ drop l.entry-index l.entries ≡ l.entries) × (array_vec_len l.left ≤ l.entry-index)
