use Rattle.std.proofs.Common.{◌≡◌, length}
use Rattle.std.specs.List.{list_any}
use Rattle.ch_param.specs.Event.{placed, event_at, takes_param}
use Rattle.ch_param.proofs.walk.is_entered_again.Given as goal

abbrev pub invariant-loop-place : goal.invariant-loop-place
invariant-loop-place l =
    list_any (λ place. takes_param l.param (event_at l.channel place)) (placed l.channel l.selection l.rest)
    ≡ list_any (λ place. takes_param l.param (event_at l.channel place)) (placed l.channel l.before l.later)

abbrev pub decreases-loop-place : goal.decreases-loop-place
decreases-loop-place l = length l.rest
