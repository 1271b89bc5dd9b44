use Rattle.std.proofs.Common.{◌≡◌, ◌+◌, ◌≤◌, length}
use Rattle.ch_system.specs.Items.{item_total}
use Rattle.ch_system.proofs.items.item_count.Given as goal

abbrev pub invariant-loop-place : goal.invariant-loop-place
invariant-loop-place l = (l.total + item_total l.item l.rest ≡ item_total l.item l.session) × (l.total + length l.rest ≤ length l.session)

abbrev pub decreases-loop-place : goal.decreases-loop-place
decreases-loop-place l = length l.rest
