use Rattle.std.proofs.Common.{◌≡◌, length, take, drop}
use Rattle.std.specs.List.{AllZip, zip}
use Rattle.std.specs.Vec.Iter.{into_iter_items}
use Rattle.jm_desk.specs.Sharing.{IsOf}
use Rattle.jm_groups.specs.Sharing.{TakesInPair, SeesHistory}
use Rattle.jm_groups.proofs.passes.join_each.Given as goal

abbrev pub invariant-loop-k : goal.invariant-loop-k
invariant-loop-k l = record {
  count : length l.passes.items ≡ length l.initial.passes.items;
  left : drop l.k l.passes.items ≡ drop l.k l.initial.passes.items;
  rest : into_iter_items l.others ≡ drop l.k l.fn.others.items;
  each : AllZip TakesInPair (zip (take l.k l.initial.passes.items) (take l.k l.fn.others.items)) (take l.k l.passes.items);
  own : AllZip IsOf (take l.k l.desks) (take l.k l.passes.items);
  legal : AllZip SeesHistory (take l.k l.desks) (take l.k l.passes.items);
}
