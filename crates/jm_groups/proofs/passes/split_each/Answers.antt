use Rattle.std.proofs.Common.{◌<◌, ◌≤◌, ◌+◌, ◌∙◌, length, map, take, ap, sym, subst, arith}
use Rattle.std.proofs.lemmas.List.{length-set}
use Rattle.std.specs.List.{AllZip}
use Rattle.jm_desk.specs.Sharing.{IsOf}
use Rattle.jm_groups.specs.Sharing.{IsOpening, HasRoom, after_split, split_view, view_of}
use Rattle.jm_groups.proofs.Places.{each_length, each_read, all_read, each_pushed, written_more, pushed_more, left_read, left_more, each_whole}
use Rattle.jm_groups.proofs.passes.split_each.Goals as goal

pub offset_bounds-desks-k : goal.offset_bounds-desks-k
offset_bounds-desks-k c =
    omega (arith, c.loop-k-test.true, c.args.passes.now.ok.0, each_length IsOf c.args.desks.now c.args.passes.now.items c.requires.own)

pub bounds-desks-k : goal.bounds-desks-k
bounds-desks-k c =
    omega (arith, c.loop-k-test.true, c.args.passes.now.ok.0, each_length IsOf c.args.desks.now c.args.passes.now.items c.requires.own)

pub split-other-requires-clause-own : goal.split-other-requires-clause-own
split-other-requires-clause-own c =
    let below : c.loop-k.k < length c.args.desks.now = omega (arith, c.loop-k-test.true, c.args.passes.now.ok.0, each_length IsOf c.args.desks.now c.args.passes.now.items c.requires.own) in
    let at_pass = left_read c.args.passes.now.items c.loop-k.passes.items c.loop-k.k c.index_mut.result.now c.loop-k.invariant.left c.index_mut.ensures.value in
    each_read IsOf c.args.desks.now c.args.passes.now.items c.loop-k.k c.index-desks-k.result c.index_mut.result.now c.requires.own below c.index-desks-k.is at_pass

pub split-other-requires-clause-opening : goal.split-other-requires-clause-opening
split-other-requires-clause-opening c =
    let below : c.loop-k.k < length c.args.passes.now.items = omega (arith, c.loop-k-test.true, c.args.passes.now.ok.0) in
    let at_pass = left_read c.args.passes.now.items c.loop-k.passes.items c.loop-k.k c.index_mut.result.now c.loop-k.invariant.left c.index_mut.ensures.value in
    all_read IsOpening c.args.passes.now.items c.loop-k.k c.index_mut.result.now c.requires.opening below at_pass

pub split-other-requires-clause-room : goal.split-other-requires-clause-room
split-other-requires-clause-room c =
    let below : c.loop-k.k < length c.args.passes.now.items = omega (arith, c.loop-k-test.true, c.args.passes.now.ok.0) in
    let at_pass = left_read c.args.passes.now.items c.loop-k.passes.items c.loop-k.k c.index_mut.result.now c.loop-k.invariant.left c.index_mut.ensures.value in
    all_read HasRoom c.args.passes.now.items c.loop-k.k c.index_mut.result.now c.requires.space below at_pass

pub loop-k-preserved : goal.loop-k-preserved
loop-k-preserved c =
    let was = c.args.passes.now.items in
    let now = c.loop-k.passes.items in
    let desks = c.args.desks.now in
    let kept = c.loop-k.invariant in
    let below : c.loop-k.k < length c.args.passes.now.items = omega (arith, c.loop-k-test.true, c.args.passes.now.ok.0) in
    let below_now : c.loop-k.k < length c.loop-k.passes.items = omega (arith, below, c.loop-k.invariant.count) in
    let below_desks : c.loop-k.k < length c.args.desks.now = omega (arith, below, each_length IsOf c.args.desks.now c.args.passes.now.items c.requires.own) in
    let at_pass = left_read was now c.loop-k.k c.index_mut.result.now kept.left c.index_mut.ensures.value in
    record {
      count = length-set now c.loop-k.k c.split-other.new.self ∙ kept.count;
      left = left_more was now c.loop-k.k c.split-other.new.self kept.left;
      parted = written_more after_split was now c.loop-k.k c.index_mut.result.now c.split-other.new.self below below_now at_pass c.split-other.ensures.parted kept.parted;
      own = subst (λ l. AllZip IsOf (take (c.loop-k.k + 1) desks) l) (sym c.push_reserved.ensures.items)
          (each_pushed IsOf desks c.loop-k.others.items c.loop-k.k c.index-desks-k.result c.split-other.result below_desks c.index-desks-k.is kept.own c.split-other.ensures.other);
      given = ap (map view_of) c.push_reserved.ensures.items
          ∙ pushed_more split_view view_of was c.loop-k.others.items c.loop-k.k c.index_mut.result.now c.split-other.result below at_pass c.split-other.ensures.given kept.given;
      written = c.push_reserved.ensures.len ∙ ap (λ n. n + 1) kept.written;
      room = rw c.push_reserved.ensures.capacity kept.room;
    }

pub returns-clause-own : goal.returns-clause-own
returns-clause-own c =
    let whole : length c.args.desks.now ≤ c.loop-k.k = omega (arith, c.loop-k-test.false, c.args.passes.now.ok.0, each_length IsOf c.args.desks.now c.args.passes.now.items c.requires.own) in
    each_whole IsOf c.args.desks.now c.loop-k.others.items c.loop-k.k whole c.loop-k.invariant.own
