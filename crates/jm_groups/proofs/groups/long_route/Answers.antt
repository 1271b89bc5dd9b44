use Rattle.std.proofs.Common.{◌≤◌, length, arith}
use Rattle.jm_groups.proofs.Long.{none_met}
use Rattle.jm_groups.proofs.groups.long_route.Goals as goal

pub returns-clause-none : goal.returns-clause-none
returns-clause-none c =
    let end : length c.args.routes.now ≤ c.loop-place.place = omega (arith, c.loop-place-test.false) in
    none_met c.args.routes.now c.loop-place.place end c.loop-place.invariant
