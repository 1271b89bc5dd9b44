use Rattle.std.proofs.Common.{◌≡◌, ◌≤◌, ◌+◌, ◌++◌, length, map, vec_len, vec_capacity, All}
use Rattle.std.specs.List.{AllZip}
use Rattle.std.specs.Vec.Iter.{into_iter_items}
use Rattle.jm_desk.specs.Sharing.{IsOf}
use Rattle.jm_groups.specs.Sharing.{IsOpening, IsWhole, HasOut, items_of, taken_seen}
use Rattle.jm_groups.proofs.groups.close_each.Given as goal

abbrev pub invariant-loop-desk : goal.invariant-loop-desk
invariant-loop-desk l = record {
  own : AllZip IsOf (into_iter_items l.desks) (into_iter_items l.passes);
  opening : All IsOpening (into_iter_items l.passes);
  alone : All (HasOut 0) (into_iter_items l.passes);
  steps : map items_of l.tapes.items ++ map taken_seen (into_iter_items l.passes) ≡ map taken_seen l.fn.passes.items;
  whole : AllZip IsWhole (into_iter_items l.desks) (into_iter_items l.passes) → AllZip IsWhole l.fn.desks.items l.fn.passes.items;
  room : vec_len l.tapes + length (into_iter_items l.desks) ≤ vec_capacity l.tapes;
}

abbrev pub decreases-loop-desk : goal.decreases-loop-desk
decreases-loop-desk l = length (into_iter_items l.desks)
