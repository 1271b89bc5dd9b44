use Rattle.std.proofs.Common.{◌≡◌, length}
use Rattle.jm_cmds.specs.OnePlace.{one_standing}
use Rattle.ch_system.specs.Items.{is_place_of, touches}
use Rattle.ch_system.proofs.items.standing_place.Given as goal

abbrev pub invariant-loop-place : goal.invariant-loop-place
invariant-loop-place l = one_standing (is_place_of l.item) (touches l.item) l.rest ≡ one_standing (is_place_of l.item) (touches l.item) l.places

abbrev pub decreases-loop-place : goal.decreases-loop-place
decreases-loop-place l = length l.rest
