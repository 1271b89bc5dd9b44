use Rattle.std.proofs.Common.{◌<◌, ◌≤◌, ◌∙◌, ◌++◌, length, ap, sym, arith}
use Rattle.std.proofs.lemmas.List.{length-set, length-drop}
use Rattle.std.specs.Option.{option_to_list}
use Rattle.std.specs.Vec.Iter.{into_iter_items}
use Rattle.jm_desk.specs.Sharing.{IsOf}
use Rattle.jm_groups.specs.Sharing.{IsOpening, IsSplit, SeesHistory, TakesInPair}
use Rattle.jm_groups.proofs.Places.{each_length, each_read, all_read, each_more, beside_more, left_read, left_more, both_whole, three_whole, rest_first, rest_behind}
use Rattle.jm_groups.proofs.passes.join_each.Goals as goal

pub unreachable-requires : goal.unreachable-requires
unreachable-requires c =
    let below : c.loop-k.k < length c.args.others.items = omega (arith, c.loop-k-test.true, c.args.passes.now.ok.0, each_length IsOf c.args.desks.now c.args.passes.now.items c.requires.own, each_length IsOf c.args.desks.now c.args.others.items c.requires.others) in
    omega (arith, below, c.in_default.ensures.cases.0, c.loop-k.others.rest.ok.0, ap length c.loop-k.invariant.rest, length-drop c.loop-k.k c.args.others.items)

pub offset_bounds-desks-k : goal.offset_bounds-desks-k
offset_bounds-desks-k c =
    omega (arith, c.loop-k-test.true, c.args.passes.now.ok.0, each_length IsOf c.args.desks.now c.args.passes.now.items c.requires.own)

pub bounds-desks-k : goal.bounds-desks-k
bounds-desks-k c =
    omega (arith, c.loop-k-test.true, c.args.passes.now.ok.0, each_length IsOf c.args.desks.now c.args.passes.now.items c.requires.own)

pub join-requires-clause-own : goal.join-requires-clause-own
join-requires-clause-own c =
    let below : c.loop-k.k < length c.args.desks.now = omega (arith, c.loop-k-test.true, c.args.passes.now.ok.0, each_length IsOf c.args.desks.now c.args.passes.now.items c.requires.own) in
    let at_pass = left_read c.args.passes.now.items c.loop-k.passes.items c.loop-k.k c.index_mut.result.now c.loop-k.invariant.left c.index_mut.ensures.value in
    each_read IsOf c.args.desks.now c.args.passes.now.items c.loop-k.k c.index-desks-k.result c.index_mut.result.now c.requires.own below c.index-desks-k.is at_pass

pub join-requires-clause-others : goal.join-requires-clause-others
join-requires-clause-others c =
    let below : c.loop-k.k < length c.args.desks.now = omega (arith, c.loop-k-test.true, c.args.passes.now.ok.0, each_length IsOf c.args.desks.now c.args.passes.now.items c.requires.own) in
    let from = sym (c.next.ensures.items ∙ ap (λ o. option_to_list o ++ into_iter_items c.next.new.self) c.in-Some.is) ∙ c.loop-k.invariant.rest in
    each_read IsOf c.args.desks.now c.args.others.items c.loop-k.k c.index-desks-k.result c.in-Some.other c.requires.others below c.index-desks-k.is (rest_first c.args.others.items (into_iter_items c.next.new.self) c.loop-k.k c.in-Some.other from)

pub join-requires-clause-opening : goal.join-requires-clause-opening
join-requires-clause-opening c =
    let below : c.loop-k.k < length c.args.passes.now.items = omega (arith, c.loop-k-test.true, c.args.passes.now.ok.0) in
    let at_pass = left_read c.args.passes.now.items c.loop-k.passes.items c.loop-k.k c.index_mut.result.now c.loop-k.invariant.left c.index_mut.ensures.value in
    all_read IsOpening c.args.passes.now.items c.loop-k.k c.index_mut.result.now c.requires.opening below at_pass

pub join-requires-clause-split : goal.join-requires-clause-split
join-requires-clause-split c =
    let below : c.loop-k.k < length c.args.others.items = omega (arith, c.loop-k-test.true, c.args.passes.now.ok.0, each_length IsOf c.args.desks.now c.args.passes.now.items c.requires.own, each_length IsOf c.args.desks.now c.args.others.items c.requires.others) in
    let from = sym (c.next.ensures.items ∙ ap (λ o. option_to_list o ++ into_iter_items c.next.new.self) c.in-Some.is) ∙ c.loop-k.invariant.rest in
    all_read IsSplit c.args.others.items c.loop-k.k c.in-Some.other c.requires.split below (rest_first c.args.others.items (into_iter_items c.next.new.self) c.loop-k.k c.in-Some.other from)

pub loop-k-preserved : goal.loop-k-preserved
loop-k-preserved c =
    let was = c.args.passes.now.items in
    let now = c.loop-k.passes.items in
    let others = c.args.others.items in
    let desks = c.args.desks.now in
    let kept = c.loop-k.invariant in
    let below : c.loop-k.k < length c.args.passes.now.items = omega (arith, c.loop-k-test.true, c.args.passes.now.ok.0) in
    let below_now : c.loop-k.k < length c.loop-k.passes.items = omega (arith, below, c.loop-k.invariant.count) in
    let below_desks : c.loop-k.k < length c.args.desks.now = omega (arith, below, each_length IsOf c.args.desks.now c.args.passes.now.items c.requires.own) in
    let below_others : c.loop-k.k < length c.args.others.items = omega (arith, below_desks, each_length IsOf c.args.desks.now c.args.others.items c.requires.others) in
    let at_pass = left_read was now c.loop-k.k c.index_mut.result.now kept.left c.index_mut.ensures.value in
    let from = sym (c.next.ensures.items ∙ ap (λ o. option_to_list o ++ into_iter_items c.next.new.self) c.in-Some.is) ∙ kept.rest in
    let at_other = rest_first others (into_iter_items c.next.new.self) c.loop-k.k c.in-Some.other from in
    record {
      count = length-set now c.loop-k.k c.join.new.self ∙ kept.count;
      left = left_more was now c.loop-k.k c.join.new.self kept.left;
      rest = rest_behind others (into_iter_items c.next.new.self) c.loop-k.k c.in-Some.other from;
      each = beside_more TakesInPair was others now c.loop-k.k c.index_mut.result.now c.in-Some.other c.join.new.self below below_others below_now at_pass at_other kept.each
          (record { joined = c.join.ensures.joined; seen = c.join.ensures.seen; told = c.join.ensures.told; places = c.join.ensures.places });
      own = each_more IsOf desks now c.loop-k.k c.index-desks-k.result c.join.new.self below_desks below_now c.index-desks-k.is kept.own c.join.ensures.own;
      legal = each_more SeesHistory desks now c.loop-k.k c.index-desks-k.result c.join.new.self below_desks below_now c.index-desks-k.is kept.legal c.join.ensures.legal;
    }

pub returns-clause-each : goal.returns-clause-each
returns-clause-each c =
    let end : length c.args.passes.now.items ≤ c.loop-k.k = omega (arith, c.loop-k-test.false, c.args.passes.now.ok.0) in
    let end_others : length c.args.others.items ≤ c.loop-k.k = omega (arith, end, each_length IsOf c.args.desks.now c.args.passes.now.items c.requires.own, each_length IsOf c.args.desks.now c.args.others.items c.requires.others) in
    let end_now : length c.loop-k.passes.items ≤ c.loop-k.k = omega (arith, end, c.loop-k.invariant.count) in
    three_whole TakesInPair c.args.passes.now.items c.args.others.items c.loop-k.passes.items c.loop-k.k end end_others end_now c.loop-k.invariant.each

pub returns-clause-own : goal.returns-clause-own
returns-clause-own c =
    let end : length c.args.desks.now ≤ c.loop-k.k = omega (arith, c.loop-k-test.false, c.args.passes.now.ok.0, each_length IsOf c.args.desks.now c.args.passes.now.items c.requires.own) in
    let end_now : length c.loop-k.passes.items ≤ c.loop-k.k = omega (arith, c.loop-k-test.false, c.args.passes.now.ok.0, c.loop-k.invariant.count) in
    both_whole IsOf c.args.desks.now c.loop-k.passes.items c.loop-k.k end end_now c.loop-k.invariant.own

pub returns-clause-legal : goal.returns-clause-legal
returns-clause-legal c =
    let end : length c.args.desks.now ≤ c.loop-k.k = omega (arith, c.loop-k-test.false, c.args.passes.now.ok.0, each_length IsOf c.args.desks.now c.args.passes.now.items c.requires.own) in
    let end_now : length c.loop-k.passes.items ≤ c.loop-k.k = omega (arith, c.loop-k-test.false, c.args.passes.now.ok.0, c.loop-k.invariant.count) in
    both_whole SeesHistory c.args.desks.now c.loop-k.passes.items c.loop-k.k end end_now c.loop-k.invariant.legal
