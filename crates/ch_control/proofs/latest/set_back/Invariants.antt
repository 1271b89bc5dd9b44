use Rattle.std.proofs.Common.{◌≡◌, length}
use Rattle.ch_control.specs.ControlTable.{left_by_121}
use Rattle.ch_control.proofs.latest.set_back.Given as goal

abbrev pub invariant-loop-k : goal.invariant-loop-k
invariant-loop-k l = left_by_121 l.order ≡ left_by_121 l.initial.order

abbrev pub decreases-loop-k : goal.decreases-loop-k
decreases-loop-k l = length l.order
