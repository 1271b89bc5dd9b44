use Rattle.std.proofs.Common.{◌≡◌, ◌+◌, drop}
use Rattle.std.specs.List.{position_from}
use Rattle.jm_groups.specs.Routes.{meets}
use Rattle.jm_groups.proofs.groups.group_among.Given as goal

abbrev pub invariant-loop-place : goal.invariant-loop-place
invariant-loop-place l = position_from (meets l.host) (l.place + 1) (drop l.place l.routes) ≡ position_from (meets l.host) 1 l.routes
