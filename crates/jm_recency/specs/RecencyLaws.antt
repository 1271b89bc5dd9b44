-- What holds of lists of keys and stamps.
use Rattle.std.proofs.Common.{◌≡◌, ℕ, ◌+◌, ◌<◌, ◌≤◌, Bool, true, false, not, cond, ◌||◌, List, [], ◌∷◌, ◌++◌, Option, Some, None, eqb, leb, length, refl, ap, sym, ◌∙◌, arith, inl, inr}
use Rattle.std.specs.List.{AllByRecursion, filter}
use Rattle.std.proofs.lemmas.Bool.{cases_Bool, leb-true, le-leb, lt-leb, or_parts}
use Rattle.std.proofs.lemmas.Bool.Decides.{nat_tests}
use Rattle.jm_recency.specs.Recency.{holds, without, touched, since_stamp, AreUpTo, first_key, next_key, stamp_of, IsRecency, from_key, IsAtKey}

-- a key that isn't there takes nothing away
pub without-absent : (key : ℕ) (es : List (ℕ × ℕ)) → holds key es ≡ false → without key es ≡ es
without-absent key [] h = refl
without-absent key (e ∷ es) h =
    let both = or_parts (eqb e.0 key) (holds key es) h in
    rw both.0 (ap (λ (l : List (ℕ × ℕ)). e ∷ l) (without-absent key es both.1))

-- a key that was taken away isn't there
pub holds-without : (key : ℕ) (es : List (ℕ × ℕ)) → holds key (without key es) ≡ false
holds-without key [] = refl
holds-without key (e ∷ es) =
    elim (cases_Bool (eqb e.0 key)) [ inl t ↦ rw t (holds-without key es) | inr f ↦ rw (f, f) (holds-without key es) ]

-- nor does another one come
pub holds-without_other : (key other : ℕ) (es : List (ℕ × ℕ)) → holds other es ≡ false → holds other (without key es) ≡ false
holds-without_other key other [] h = refl
holds-without_other key other (e ∷ es) h =
    let both = or_parts (eqb e.0 other) (holds other es) h in
    let ih = holds-without_other key other es both.1 in
    elim (cases_Bool (eqb e.0 key)) [ inl t ↦ rw t ih | inr f ↦ rw (f, both.0) ih ]

pub IsRecency-lower : (n low lower : ℕ) (es : List (ℕ × ℕ)) → lower ≤ low → IsRecency n low es → IsRecency n lower es
IsRecency-lower n low lower [] l h = tt
IsRecency-lower n low lower (e ∷ es) l h = (h.0, omega (arith, h.1), h.2, h.3)

pub IsRecency-without : (n low key : ℕ) (es : List (ℕ × ℕ)) → IsRecency n low es → IsRecency n low (without key es)
IsRecency-without n low key [] h = tt
IsRecency-without n low key (e ∷ es) h =
    let ih = IsRecency-without n e.1 key es h.3 in
    elim (cases_Bool (eqb e.0 key)) [
      | inl t ↦ rw t (IsRecency-lower n e.1 low (without key es) h.1 ih)
      | inr f ↦ rw f (h.0, h.1, holds-without_other key e.0 es h.2, ih)
    ]

holds-push : (key other stamp : ℕ) (es : List (ℕ × ℕ)) → holds other es ≡ false → eqb key other ≡ false → holds other (es ++ (key, stamp) ∷ []) ≡ false
holds-push key other stamp [] h n = rw n refl
holds-push key other stamp (e ∷ es) h n =
    let both = or_parts (eqb e.0 other) (holds other es) h in
    rw both.0 (holds-push key other stamp es both.1 n)

-- a key that wasn't there, put last
pub IsRecency-push : (n low key stamp : ℕ) (es : List (ℕ × ℕ)) → IsRecency n low es → AreUpTo stamp es → low ≤ stamp → key < n → holds key es ≡ false
    → IsRecency n low (es ++ (key, stamp) ∷ [])
IsRecency-push n low key stamp [] h up l k absent = (k, l, refl, tt)
IsRecency-push n low key stamp (e ∷ es) h up l k absent =
    let both = or_parts (eqb e.0 key) (holds key es) absent in
    let other : eqb key e.0 ≡ false = grind (arith, nat_tests, both.0) in
    (h.0, h.1, holds-push key e.0 stamp es h.2 other, IsRecency-push n e.1 key stamp es h.3 up.1 up.0 k both.1)

pub AreUpTo-without : (stamp key : ℕ) (es : List (ℕ × ℕ)) → AreUpTo stamp es → AreUpTo stamp (without key es)
AreUpTo-without stamp key [] h = tt
AreUpTo-without stamp key (e ∷ es) h =
    let ih = AreUpTo-without stamp key es h.1 in
    elim (cases_Bool (eqb e.0 key)) [ inl t ↦ rw t ih | inr f ↦ rw f (h.0, ih) ]

-- ## Trimming

-- where stamps never fall, all are left from the first one on that isn't trimmed
pub since_stamp-all : (n low stamp : ℕ) (es : List (ℕ × ℕ)) → IsRecency n low es → stamp ≤ low → since_stamp stamp es ≡ es
since_stamp-all n low stamp [] h l = refl
since_stamp-all n low stamp (e ∷ es) h l =
    let l1 : leb stamp e.1 ≡ true = le-leb stamp e.1 (omega (arith, h.1)) in
    rw l1 (ap (λ (l : List (ℕ × ℕ)). e ∷ l) (since_stamp-all n e.1 stamp es h.3 (omega (arith, h.1))))

-- ## Walks

pub from_key-first : (es : List (ℕ × ℕ)) → from_key es (first_key es) ≡ es
from_key-first [] = refl
from_key-first (e ∷ es) = let t : eqb e.0 e.0 ≡ true = grind (arith, nat_tests) in rw t refl

pub IsAtKey-first : (es : List (ℕ × ℕ)) → IsAtKey es (first_key es)
IsAtKey-first [] = tt
IsAtKey-first (e ∷ es) = let t : eqb e.0 e.0 ≡ true = grind (arith, nat_tests) in rw t refl
