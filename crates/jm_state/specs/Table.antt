-- Tables of 128 places.
use Rattle.std.specs.Prelude.{ℕ, List, Option, None, slice_index_or, slice_set, replicate}

-- a table without a value
unfoldable pub no_values : List (Option ℕ)
no_values = replicate 128 None

abbrev pub value_at : List (Option ℕ) → ℕ → Option ℕ
value_at values number = slice_index_or values number None

-- the second table with the value that the first one has at this number
abbrev pub keep_value : List (Option ℕ) → List (Option ℕ) → ℕ → List (Option ℕ)
keep_value from left number = slice_set left number (value_at from number)
