-- Counts of faults: each stands in 64 bits, never falls, and stays at its last value once it is there.
use Rattle.std.specs.Prelude.{ℕ, ◌+◌, ◌-◌, ◌^◌, ◌<◌, min}

-- a count rose in a call; at the last value a fault counts as a rise, and nothing more is said
abbrev pub Rose : (before after : ℕ) → Type 0
Rose before after = before < 2 ^ 64 - 1 → before < after

-- the count after one more fault
abbrev pub one_more : (count : ℕ) → ℕ
one_more count = min (count + 1) (2 ^ 64 - 1)
