use Rattle.std.proofs.Common.{◌≡◌, ℕ, ◌<◌}
use Rattle.jm_state.specs.Table.{value_at}
use Rattle.jm_state.proofs.comparing.same_values.Given as goal

abbrev pub invariant-loop-number : goal.invariant-loop-number
invariant-loop-number l = (k : ℕ) → k < l.number → value_at l.a k ≡ value_at l.b k
