-- Going along the keys of a table.
use Rattle.std.proofs.Common.{◌≡◌, ℕ, ◌<◌, true, List, [], ◌∷◌, None, eqb, refl, arith, inl, inr}
use Rattle.std.proofs.lemmas.Bool.{or_cases}
use Rattle.std.proofs.lemmas.Bool.Decides.{nat_tests}
use Rattle.jm_recency.specs.Recency.{holds, first_key, from_key, IsAtKey, IsRecency}
use Rattle.jm_recency.specs.RecencyLaws.{from_key-first, IsAtKey-first}

pub walk_first : (es : List (ℕ × ℕ)) → from_key es (first_key es) ≡ es
walk_first es = from_key-first es

pub at_first : (es : List (ℕ × ℕ)) → IsAtKey es (first_key es)
at_first es = IsAtKey-first es

pub walk_end : (es : List (ℕ × ℕ)) → from_key es None ≡ []
walk_end [] = refl
walk_end (e ∷ es) = refl

-- each key is below the number of keys
pub key_below : (n low key : ℕ) (es : List (ℕ × ℕ)) → IsRecency n low es → holds key es ≡ true → key < n
key_below n low key [] r h = absurd cc
key_below n low key (e ∷ es) r h =
    elim (or_cases (eqb e.0 key) (holds key es) h) [
      | inl t ↦ grind (arith, nat_tests, r.0, t)
      | inr later ↦ key_below n e.1 key es r.3 later
    ]
