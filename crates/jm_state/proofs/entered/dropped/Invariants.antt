use Rattle.std.proofs.Common.{◌≡◌, ◌≤◌, ◌++◌, drop}
use Rattle.std.specs.List.{filter_map}
use Rattle.arrayvec.specs.ArrayVec.{array_vec_len}
use Rattle.jm_state.specs.Entered.{half_dropped}
use Rattle.jm_state.proofs.entered.dropped.Given as goal

abbrev pub invariant-loop-entry : goal.invariant-loop-entry
invariant-loop-entry l = (l.left.items ++ filter_map (half_dropped l.high l.param) (drop l.entry-index l.entries) ≡ filter_map (half_dropped l.high l.param) l.entries) × (array_vec_len l.left ≤ l.entry-index)
