use Rattle.std.proofs.Common.{ℕ, ◌<◌}
use Rattle.jm_state.specs.Parts.{nth_channel}
use Rattle.jm_state.specs.Same.{SameChannel}
use Rattle.jm_state.proofs.comparing.same_channels.Given as goal

abbrev pub invariant-loop-i : goal.invariant-loop-i
invariant-loop-i l = (k : ℕ) → k < l.i → SameChannel (nth_channel l.a k) (nth_channel l.b k)
