use Rattle.std.proofs.Common.{◌≡◌, ◌+◌, ◌*◌, ◌≤◌, ◌||◌, length}
use Rattle.std.specs.List.{AllByRecursion}
use Rattle.jm_cmds.specs.History.{standing}
use Rattle.jm_chapter.specs.Logs.{log_count, has_fresh}
use Rattle.jm_chapter.proofs.tally.tally_of.Given as goal

abbrev pub invariant-loop-place : goal.invariant-loop-place
invariant-loop-place g l =
    let ends = g.C.Items.ends l.chapter in
    let logs_at = g.C.Listed.logs l.chapter l.session in
    let is_within = g.C.Listed.is_within l.chapter in
    (l.tally.logs + log_count logs_at (standing ends l.rest) ≡ log_count logs_at (standing ends l.places))
    × ((l.tally.fresh || has_fresh logs_at l.packet (standing ends l.rest)) ≡ has_fresh logs_at l.packet (standing ends l.places))
    × (AllByRecursion is_within (standing ends l.rest) → AllByRecursion is_within (standing ends l.places))
    × (l.tally.logs + 2 * length l.rest ≤ 2 * length l.places)

abbrev pub decreases-loop-place : goal.decreases-loop-place
decreases-loop-place g l = length l.rest
