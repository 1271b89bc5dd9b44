-- What was counted so far and those from here on come to all.
use Rattle.std.proofs.Common.{◌≡◌, ◌+◌, ◌-◌, ◌^◌, ◌≤◌, length, drop}
use Rattle.jm_script.specs.Piece.{counted}
use Rattle.jm_script.specs.ListText.{items_text}
use Rattle.jm_script.proofs.lists.items_len.Given as goal

abbrev pub invariant-loop-item : goal.invariant-loop-item
invariant-loop-item l = record {
  so_far : counted (l.total + length (items_text (drop l.item-index l.items))) ≡ counted (length (items_text l.items));
  bound : l.total ≤ 2 ^ 64 - 1;
}
