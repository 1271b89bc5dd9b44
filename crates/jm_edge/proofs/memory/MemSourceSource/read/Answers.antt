-- What came and what is left join to what was left.
use Rattle.std.proofs.Common.{◌≡◌, ◌+◌, ◌++◌, List, ℕ, take, drop, refl, arith}
use Rattle.std.proofs.lemmas.Grind.{common_steps}
use Rattle.std.proofs.lemmas.List.{take-append-drop, drop-drop}
use Rattle.jm_edge.proofs.memory.MemSourceSource.read.Goals as goal

-- a part of what is left, and what stands after it
drop-split : (at n : ℕ) (xs ys : List ℕ) → take n ys ≡ take n (drop at xs) → drop at xs ≡ take n ys ++ drop (at + n) xs
drop-split at n xs ys front = rw (front, ← drop-drop n at xs, take-append-drop n (drop at xs)) refl

pub returns-clause-takes : goal.returns-clause-takes
returns-clause-takes c = grind (arith, common_steps, drop-split)
