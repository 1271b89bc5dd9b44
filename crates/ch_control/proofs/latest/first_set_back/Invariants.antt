use Rattle.std.proofs.Common.{◌≡◌, length}
use Rattle.jm_recency.specs.Recency.{from_key, IsAtKey}
use Rattle.ch_control.specs.ControlTable.{left_by_121}
use Rattle.ch_control.proofs.latest.first_set_back.Given as goal

abbrev pub invariant-loop-at : goal.invariant-loop-at
invariant-loop-at l =
    IsAtKey l.order l.at
    × (left_by_121 (from_key l.order l.at) ≡ from_key l.order l.at → left_by_121 l.order ≡ l.order)

abbrev pub decreases-loop-at : goal.decreases-loop-at
decreases-loop-at l = length (from_key l.order l.at)
