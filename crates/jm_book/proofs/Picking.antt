-- What is picked of the elements of a list, from a place on.
use Rattle.std.proofs.Common.{◌≡◌, ◌∙◌, sym, refl, ap, ℕ, zero, suc, ◌+◌, ◌≤◌, List, [], ◌∷◌, ◌++◌, Option, Some, None, length, drop, length-append, append_assoc, arith}
use Rattle.std.specs.List.{slice_get, filter_map, cons_option}

pub filter_at : {X Y : Type 0} (pick : X → Option Y) (xs : List X) (k : ℕ) (x : X) → slice_get xs k ≡ Some x → filter_map pick (drop k xs) ≡ cons_option (pick x) (filter_map pick (drop (k + 1) xs))
filter_at pick [] k x e = absurd cc
filter_at pick (first ∷ xs) zero x e = let same : first ≡ x = cc in ap (λ y. cons_option (pick y) (filter_map pick xs)) same
filter_at pick (first ∷ xs) (suc k) x e = let next : suc k + 1 ≡ suc (k + 1) = omega arith in rw next (filter_at pick xs k x e)

pub filter_past : {X Y : Type 0} (pick : X → Option Y) (xs : List X) (k : ℕ) → slice_get xs k ≡ None → filter_map pick (drop k xs) ≡ []
filter_past pick [] zero e = refl
filter_past pick [] (suc k) e = refl
filter_past pick (first ∷ xs) zero e = absurd cc
filter_past pick (first ∷ xs) (suc k) e = filter_past pick xs k e

pub filter_end : {X Y : Type 0} (pick : X → Option Y) (xs : List X) (k : ℕ) → length xs ≤ k → filter_map pick (drop k xs) ≡ []
filter_end pick [] zero e = refl
filter_end pick [] (suc k) e = refl
filter_end pick (first ∷ xs) zero e = absurd (omega arith)
filter_end pick (first ∷ xs) (suc k) e = filter_end pick xs k (omega arith)

cons_append : {X : Type 0} (x : Option X) (xs : List X) → cons_option x [] ++ xs ≡ cons_option x xs
cons_append None xs = refl
cons_append (Some x) xs = refl

pub cons_few : {X : Type 0} (xs : List X) (x : Option X) → length (xs ++ cons_option x []) ≤ length xs + 1
cons_few xs None = omega (arith, length-append xs [])
cons_few xs (Some x) = omega (arith, length-append xs (x ∷ []))

-- one more element was looked at
pub picked : {X Y : Type 0} (pick : X → Option Y) (xs : List X) (k : ℕ) (x : X) (done : List Y) → slice_get xs k ≡ Some x → (done ++ cons_option (pick x) []) ++ filter_map pick (drop (k + 1) xs) ≡ done ++ filter_map pick (drop k xs)
picked pick xs k x done e =
    append_assoc done (cons_option (pick x) []) (filter_map pick (drop (k + 1) xs))
    ∙ ap (λ rest. done ++ rest) (cons_append (pick x) (filter_map pick (drop (k + 1) xs)) ∙ sym (filter_at pick xs k x e))
