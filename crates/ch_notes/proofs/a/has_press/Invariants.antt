use Rattle.std.proofs.Common.{◌≡◌, length}
use Rattle.jm_cmds.specs.History.{standing}
use Rattle.jm_cmds.specs.Keys.{has_key}
use Rattle.ch_notes.specs.PolyEvent.{poly_ends, poly_key}
use Rattle.ch_notes.proofs.a.has_press.Given as goal

abbrev pub invariant-loop-place : goal.invariant-loop-place
invariant-loop-place l =
    has_key (poly_key l.channel) l.note (standing (poly_ends l.channel) l.rest) ≡ has_key (poly_key l.channel) l.note (standing (poly_ends l.channel) l.places)

abbrev pub decreases-loop-place : goal.decreases-loop-place
decreases-loop-place l = length l.rest
