use Rattle.std.proofs.Common.{◌≡◌, ℕ, ◌<◌}
use Rattle.jm_state.specs.Parts.{control_at}
use Rattle.jm_state.proofs.comparing.same_controls.Given as goal

abbrev pub invariant-loop-number : goal.invariant-loop-number
invariant-loop-number l = (k : ℕ) → k < l.number → control_at l.a k ≡ control_at l.b k
