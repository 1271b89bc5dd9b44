use Rattle.std.proofs.Common.{◌≡◌, ◌≤◌, ◌++◌, drop, length, vec_len, vec_capacity}
use Rattle.std.specs.Vec.Iter.{into_iter_items}
use Rattle.jm_book.specs.Tape.{woven, plays}
use Rattle.jm_book.proofs.tape.Tape.finish.Given as goal

abbrev pub invariant-loop-mark : goal.invariant-loop-mark
invariant-loop-mark l = record {
  steps : l.steps.items ++ woven (drop l.mark-index l.mark-items) (into_iter_items l.left) ≡ l.fn.self.steps;
  all : plays (drop l.mark-index l.mark-items) ≡ length (into_iter_items l.left);
  written : vec_len l.steps ≡ l.mark-index;
  room : length l.mark-items ≤ vec_capacity l.steps;
}
