-- The words that ask what the program is.
use Rattle.std.specs.Prelude.{ℕ, Bool, false, ◌||◌, List, [], ◌∷◌, codes}
use Rattle.std.specs.Str.{bytes_eq}

abbrev pub is_about_word : List ℕ → Bool
is_about_word word = bytes_eq word (codes "--help") || bytes_eq word (codes "--version")

-- `--help` or `--version` alone
abbrev pub is_about : List (List ℕ) → Bool
is_about [] = false
is_about (word ∷ []) = is_about_word word
is_about (word ∷ second ∷ words) = false
