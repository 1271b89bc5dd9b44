use Rattle.std.proofs.Common.{◌≡◌, ℕ, ◌<◌, length, get_or}
use Rattle.jm_state.specs.declared.channel.ChannelState.{ChannelState}
use Rattle.jm_state.proofs.state.copied.Given as goal

abbrev pub invariant-loop-i : goal.invariant-loop-i
invariant-loop-i l =
    (length l.copied ≡ 16) × ((k : ℕ) (d : ChannelState) → k < l.i → get_or l.copied k d ≡ get_or l.channels k d)
