use Rattle.std.proofs.Common.{◌≡◌, ◌≤◌, length}
use Rattle.jm_cmds.specs.History.{standing}
use Rattle.jm_chapter.proofs.places.next_standing.Given as goal

abbrev pub invariant-loop-place : goal.invariant-loop-place
invariant-loop-place g l = (standing (g.I.Items.ends l.items) l.rest ≡ standing (g.I.Items.ends l.items) l.places) × (length l.rest ≤ length l.places)

abbrev pub decreases-loop-place : goal.decreases-loop-place
decreases-loop-place g l = length l.rest
