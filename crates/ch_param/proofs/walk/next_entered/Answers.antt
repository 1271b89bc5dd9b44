use Rattle.std.proofs.Common.{Some, None, sym, ap, ◌∙◌, length, arith}
use Rattle.ch_param.specs.WalkLaws.{entered_on}
use Rattle.ch_param.proofs.walk.next_entered.Goals as goal

pub returns-in-Some-coded_param : goal.returns-in-Some-coded_param
returns-in-Some-coded_param c =
    let on = entered_on c.args.channel c.args.checkpoint c.loop-place.selection c.selection_behind-behind.result c.loop-place.rest.now c.in-Some.place.now c.in-Some.later.now
    (Some c.in-Some-coded_param.param) c.in-Some.ensures c.selection_behind-behind.ensures c.in-Some-coded_param.ensures in
    let size = ap length c.in-Some.ensures in
    record {
      next = sym c.loop-place.invariant.places ∙ on;
      fewer = omega (arith, size, c.loop-place.invariant.fewer);
    }

pub loop-place-preserved : goal.loop-place-preserved
loop-place-preserved c =
    let on = entered_on c.args.channel c.args.checkpoint c.loop-place.selection c.selection_behind-behind.result c.loop-place.rest.now c.in-Some.place.now c.in-Some.later.now
    None c.in-Some.ensures c.selection_behind-behind.ensures c.in_default-coded_param.ensures in
    let size = ap length c.in-Some.ensures in
    record {
      places = sym on ∙ c.loop-place.invariant.places;
      fewer = omega (arith, size, c.loop-place.invariant.fewer);
    }
