use Rattle.std.proofs.Common.{◌≡◌, ◌≤◌, length, map, take, drop, vec_len, vec_capacity}
use Rattle.std.specs.List.{AllZip}
use Rattle.jm_desk.specs.Sharing.{IsOf}
use Rattle.jm_groups.specs.Sharing.{after_split, split_view, view_of}
use Rattle.jm_groups.proofs.passes.split_each.Given as goal

abbrev pub invariant-loop-k : goal.invariant-loop-k
invariant-loop-k l = record {
  count : length l.passes.items ≡ length l.initial.passes.items;
  left : drop l.k l.passes.items ≡ drop l.k l.initial.passes.items;
  parted : take l.k l.passes.items ≡ map after_split (take l.k l.initial.passes.items);
  own : AllZip IsOf (take l.k l.desks) l.others.items;
  given : map view_of l.others.items ≡ map split_view (take l.k l.initial.passes.items);
  written : vec_len l.others ≡ l.k;
  room : length l.initial.passes.items ≤ vec_capacity l.others;
}
