use Rattle.std.proofs.Common.{◌≡◌, drop}
use Rattle.std.specs.List.{position_from}
use Rattle.jm_groups.specs.Opening.{is_long}
use Rattle.jm_groups.proofs.groups.long_route.Given as goal

abbrev pub invariant-loop-place : goal.invariant-loop-place
invariant-loop-place l = position_from is_long l.place (drop l.place l.routes) ≡ position_from is_long 0 l.routes
