-- What the links of a list tell of it.
use Rattle.std.proofs.Common.{◌≡◌, ℕ, zero, suc, ◌+◌, ◌-◌, ◌<◌, ◌≤◌, Bool, true, false, not, cond, ◌||◌, List, [], ◌∷◌, ◌++◌, Option, Some, None, eqb, leb, get_or, length, refl, ap, sym, ◌∙◌, arith, inl, inr}
use Rattle.std.specs.List.{AllByRecursion, filter}
use Rattle.std.proofs.lemmas.Bool.{cases_Bool, leb-true, le-leb, lt-leb, or_parts, or_cases}
use Rattle.std.proofs.lemmas.Bool.Decides.{nat_tests}
use Rattle.jm_recency.specs.Recency.{holds, without, touched, since_stamp, AreUpTo, first_key, next_key, stamp_of, IsRecency, from_key, IsAtKey}
use Rattle.jm_recency.specs.RecencyLaws.{without-absent, IsRecency-without, IsRecency-lower}
use Rattle.jm_recency.specs.Links.{END, ABSENT, walk, oldest_of, newest_of, link_after, link_before, AreStamps, AreLinks, key_at}
use Rattle.std.proofs.Common.{subst}

pub not_both : (b : Bool) → b ≡ true → b ≡ false → ⊥
not_both b t f = cc

pub same : (a b : ℕ) → eqb a b ≡ true → a ≡ b
same a b t = grind (arith, nat_tests, t)

-- ## How many keys there are

BelowLess : (n low : ℕ) (es : List (ℕ × ℕ)) → IsRecency (suc n) low es → holds n es ≡ false → IsRecency n low es
BelowLess n low [] h a = tt
BelowLess n low (e ∷ es) h a =
    let both = or_parts (eqb e.0 n) (holds n es) a in
    let l : e.0 < n = grind (arith, nat_tests, h.0, both.0) in
    (l, h.1, h.2, BelowLess n e.1 es h.3 both.1)

one_less : (key : ℕ) (n low : ℕ) (es : List (ℕ × ℕ)) → IsRecency n low es → length es ≤ length (without key es) + 1
one_less key n low [] h = omega arith
one_less key n low (e ∷ es) h =
    elim (cases_Bool (eqb e.0 key)) [
      | inl t ↦ let k : e.0 ≡ key = same e.0 key t in
          let absent : holds key es ≡ false = rw (← k) h.2 in
          rw (t, without-absent key es absent) (omega arith)
      | inr f ↦ let ih = one_less key n e.1 es h.3 in rw f (omega arith)
    ]

holds-without_itself : (key : ℕ) (es : List (ℕ × ℕ)) → holds key (without key es) ≡ false
holds-without_itself key [] = refl
holds-without_itself key (e ∷ es) =
    elim (cases_Bool (eqb e.0 key)) [ inl t ↦ rw t (holds-without_itself key es) | inr f ↦ rw (f, f) (holds-without_itself key es) ]

pub few_keys : (n low : ℕ) (es : List (ℕ × ℕ)) → IsRecency n low es → length es ≤ n
few_keys zero low [] h = omega arith
few_keys zero low (e ∷ es) h = let l : e.0 < 0 = h.0 in absurd (omega arith)
few_keys (suc n) low es h =
    let less = BelowLess n low (without n es) (IsRecency-without (suc n) low n es h) (holds-without_itself n es) in
    let ih = few_keys n low (without n es) less in
    let one = one_less n (suc n) low es h in
    omega arith

-- ## One key

pub holds-below : (n low key : ℕ) (es : List (ℕ × ℕ)) → IsRecency n low es → holds key es ≡ true → key < n
holds-below n low key [] h t = absurd cc
holds-below n low key (e ∷ es) h t =
    elim (or_cases (eqb e.0 key) (holds key es) t) [
      | inl a ↦ let k : e.0 ≡ key = same e.0 key a in let l : e.0 < n = h.0 in omega arith
      | inr b ↦ holds-below n e.1 key es h.3 b
    ]

pub holds-past : (n low key : ℕ) (es : List (ℕ × ℕ)) → IsRecency n low es → n ≤ key → holds key es ≡ false
holds-past n low key es h l =
    elim (cases_Bool (holds key es)) [ inl t ↦ let b = holds-below n low key es h t in absurd (omega arith) | inr f ↦ f ]

pub next_key-absent : (key : ℕ) (es : List (ℕ × ℕ)) → holds key es ≡ false → next_key key es ≡ None
next_key-absent key [] h = refl
next_key-absent key (e ∷ es) h =
    let both = or_parts (eqb e.0 key) (holds key es) h in rw both.0 (next_key-absent key es both.1)

pub stamp_of-absent : (key : ℕ) (es : List (ℕ × ℕ)) → holds key es ≡ false → stamp_of key es ≡ None
stamp_of-absent key [] h = refl
stamp_of-absent key (e ∷ es) h =
    let both = or_parts (eqb e.0 key) (holds key es) h in rw both.0 (stamp_of-absent key es both.1)

pub link-absent : (key : ℕ) (es : List (ℕ × ℕ)) → holds key es ≡ false → link_after es key ≡ 65534
link-absent key [] h = refl
link-absent key (e ∷ es) h =
    let both = or_parts (eqb e.0 key) (holds key es) h in rw both.0 (link-absent key es both.1)

pub before-absent : (key before : ℕ) (es : List (ℕ × ℕ)) → holds key es ≡ false → link_before before es key ≡ 65534
before-absent key before [] h = refl
before-absent key before (e ∷ es) h =
    let both = or_parts (eqb e.0 key) (holds key es) h in rw both.0 (before-absent key e.0 es both.1)

pub key_at-small : (key n : ℕ) → key < n → n ≤ 1024 → key_at key ≡ Some key
key_at-small key n l few =
    let a : eqb key 65535 ≡ false = grind (arith, nat_tests) in
    let b : eqb key 65534 ≡ false = grind (arith, nat_tests) in
    rw (a, b) refl

pub first-by_link : (n low : ℕ) (es : List (ℕ × ℕ)) → n ≤ 1024 → IsRecency n low es → key_at (oldest_of es) ≡ first_key es
first-by_link n low [] few h = refl
first-by_link n low (e ∷ es) few h = key_at-small e.0 n h.0 few

pub next-by_link : (n low key : ℕ) (es : List (ℕ × ℕ)) → n ≤ 1024 → IsRecency n low es → key_at (link_after es key) ≡ next_key key es
next-by_link n low key [] few h = refl
next-by_link n low key (e ∷ es) few h =
    elim (cases_Bool (eqb e.0 key)) [
      | inl t ↦ rw t (first-by_link n e.1 es few h.3)
      | inr f ↦ rw f (next-by_link n e.1 key es few h.3)
    ]

oldest_here : (n low : ℕ) (es : List (ℕ × ℕ)) → n ≤ 1024 → IsRecency n low es → eqb (oldest_of es) 65534 ≡ false
oldest_here n low [] few h = refl
oldest_here n low (e ∷ es) few h = let l : e.0 < n = h.0 in grind (arith, nat_tests)

pub holds-by_link : (n low key : ℕ) (es : List (ℕ × ℕ)) → n ≤ 1024 → IsRecency n low es → not (eqb (link_after es key) 65534) ≡ holds key es
holds-by_link n low key [] few h = refl
holds-by_link n low key (e ∷ es) few h =
    elim (cases_Bool (eqb e.0 key)) [
      | inl t ↦ rw (t, oldest_here n e.1 es few h.3) refl
      | inr f ↦ rw f (holds-by_link n e.1 key es few h.3)
    ]

pub stamp-there : (stamps : List ℕ) (key : ℕ) (es : List (ℕ × ℕ)) → AreStamps stamps es → holds key es ≡ true → stamp_of key es ≡ Some (get_or stamps key 0)
stamp-there stamps key [] s h = absurd cc
stamp-there stamps key (e ∷ es) s h =
    elim (cases_Bool (eqb e.0 key)) [
      | inl t ↦ let k : e.0 ≡ key = same e.0 key t in rw (t, ← k, s.0) refl
      | inr f ↦ rw f (stamp-there stamps key es s.1 (rw f at h))
    ]

-- ## The walk

-- links that lead along the list
pub walk_is : (n low : ℕ) (next stamps : List ℕ) (es : List (ℕ × ℕ)) → IsRecency n low es → AreStamps stamps es →
    ((key : ℕ) → holds key es ≡ true → get_or next key 0 ≡ link_after es key) → walk next stamps (length es) (oldest_of es) ≡ es
walk_is n low next stamps [] h s links = refl
walk_is n low next stamps (e ∷ es) h s links =
    let t : eqb e.0 e.0 ≡ true = grind (arith, nat_tests) in
    let here : get_or next e.0 0 ≡ oldest_of es = links e.0 (rw t refl) ∙ rw t refl in
    let later : (key : ℕ) → holds key es ≡ true → get_or next key 0 ≡ link_after es key = λ key k.
    elim (cases_Bool (eqb e.0 key)) [
      | inl a ↦ let same_key : e.0 ≡ key = same e.0 key a in absurd (not_both (holds key es) k (rw (← same_key) h.2))
      | inr f ↦ links key (rw (f, k) refl) ∙ rw f refl
    ] in
    let ih = walk_is n e.1 next stamps es h.3 s.1 later in
    rw (here, s.0, ih) refl

pub walk_of : (n : ℕ) (next previous stamps : List ℕ) (oldest newest count : ℕ) (es : List (ℕ × ℕ)) → AreLinks n next previous stamps oldest newest count es → walk next stamps count oldest ≡ es
walk_of n next previous stamps oldest newest count es l =
    rw (l.first, l.counted) (walk_is n 0 next stamps es l.entries l.stamps_are
    (λ key k. l.after key (holds-below n 0 key es l.entries k)))

-- arrays that hold the links of a list hold those of the list that they lead to
pub links_of : (n : ℕ) (next previous stamps : List ℕ) (oldest newest count : ℕ) (es : List (ℕ × ℕ)) → AreLinks n next previous stamps oldest newest count es → AreLinks n next previous stamps oldest newest count (walk next stamps count oldest)
links_of n next previous stamps oldest newest count es l =
    let P : List (ℕ × ℕ) → Type 0 = λ xs. AreLinks n next previous stamps oldest newest count xs in
    subst P (sym (walk_of n next previous stamps oldest newest count es l)) l

-- ## Going along

not_itself : (e : ℕ × ℕ) (key : ℕ) (es : List (ℕ × ℕ)) → holds e.0 es ≡ false → holds key es ≡ true → eqb e.0 key ≡ false
not_itself e key es absent there =
    elim (cases_Bool (eqb e.0 key)) [
      | inl t ↦ let k : e.0 ≡ key = same e.0 key t in absurd (not_both (holds key es) there (rw (← k) absent))
      | inr f ↦ f
    ]

pub IsAtKey-next : (n low key : ℕ) (es : List (ℕ × ℕ)) → IsRecency n low es → IsAtKey es (next_key key es)
IsAtKey-next n low key [] h = tt
IsAtKey-next n low key (e ∷ es) h =
    elim (cases_Bool (eqb e.0 key)) [
      | inl t ↦ rw t (further e es (first_key es) (at_first es))
      | inr f ↦ rw f (further e es (next_key key es) (IsAtKey-next n e.1 key es h.3))
    ]
  where
    at_first : (es : List (ℕ × ℕ)) → IsAtKey es (first_key es)
    at_first [] = tt
    at_first (e ∷ es) = let t : eqb e.0 e.0 ≡ true = grind (arith, nat_tests) in rw t refl

    or_right : (a b : Bool) → b ≡ true → (a || b) ≡ true
    or_right true b h = refl
    or_right false b h = h

    further : (e : ℕ × ℕ) (es : List (ℕ × ℕ)) (at : Option ℕ) → IsAtKey es at → IsAtKey (e ∷ es) at
    further e es None h = tt
    further e es (Some key) h = or_right (eqb e.0 key) (holds key es) h

from_later : (e : ℕ × ℕ) (es : List (ℕ × ℕ)) (at : Option ℕ) → holds e.0 es ≡ false → IsAtKey es at → from_key (e ∷ es) at ≡ from_key es at
from_later e [] None absent at = refl
from_later e (x ∷ es) None absent at = refl
from_later e es (Some key) absent at = rw (not_itself e key es absent at) refl

from_first : (es : List (ℕ × ℕ)) → from_key es (first_key es) ≡ es
from_first [] = refl
from_first (e ∷ es) = let t : eqb e.0 e.0 ≡ true = grind (arith, nat_tests) in rw t refl

at_first_key : (es : List (ℕ × ℕ)) → IsAtKey es (first_key es)
at_first_key [] = tt
at_first_key (e ∷ es) = let t : eqb e.0 e.0 ≡ true = grind (arith, nat_tests) in rw t refl

pub visited : (n low key : ℕ) (stamps : List ℕ) (es : List (ℕ × ℕ)) → IsRecency n low es → AreStamps stamps es → holds key es ≡ true → from_key es (Some key) ≡ (key, get_or stamps key 0) ∷ from_key es (next_key key es)
visited n low key stamps [] h s k = absurd cc
visited n low key stamps (e ∷ es) h s k =
    elim (cases_Bool (eqb e.0 key)) [
      | inl t ↦
          let same_key : e.0 ≡ key = same e.0 key t in
          let rest : from_key (e ∷ es) (first_key es) ≡ es = from_later e es (first_key es) h.2 (at_first_key es) ∙ from_first es in
          rw (t, rest, ← same_key, s.0) refl
      | inr f ↦
          let there : holds key es ≡ true = rw f at k in
          let rest = from_later e es (next_key key es) h.2 (IsAtKey-next n e.1 key es h.3) in
          rw (f, rest) (visited n e.1 key stamps es h.3 s.1 there)
    ]

-- ## Trimming

pub trim_step : (n low stamp : ℕ) (stamps : List ℕ) (key : ℕ) (es : List (ℕ × ℕ)) → IsRecency n low es → AreStamps stamps es → first_key es ≡ Some key → get_or stamps key 0 < stamp →
    (since_stamp stamp (without key es) ≡ since_stamp stamp es) × (length (without key es) < length es)
trim_step n low stamp stamps key [] h s f l = absurd cc
trim_step n low stamp stamps key (e ∷ es) h s f l =
    let k : e.0 ≡ key = cc in
    let t : eqb e.0 key ≡ true = grind (arith, nat_tests, k) in
    let early : e.1 < stamp = (let here : get_or stamps e.0 0 ≡ e.1 = s.0 in rw (← here, k) l) in
    let out : leb stamp e.1 ≡ false = lt-leb stamp e.1 early in
    let absent : holds key es ≡ false = rw (← k) h.2 in
    rw (t, out, without-absent key es absent) (refl, omega arith)

pub trim_end : (n low stamp : ℕ) (es : List (ℕ × ℕ)) → IsRecency n low es → stamp ≤ low → since_stamp stamp es ≡ es
trim_end n low stamp [] h l = refl
trim_end n low stamp (e ∷ es) h l =
    let l1 : leb stamp e.1 ≡ true = le-leb stamp e.1 (omega (arith, h.1)) in
    rw l1 (ap (λ (l : List (ℕ × ℕ)). e ∷ l) (trim_end n e.1 stamp es h.3 (omega (arith, h.1))))

pub trim_none : (es : List (ℕ × ℕ)) (stamp : ℕ) → first_key es ≡ None → since_stamp stamp es ≡ es
trim_none [] stamp f = refl
trim_none (e ∷ es) stamp f = absurd cc

pub trim_stays : (n low stamp : ℕ) (stamps : List ℕ) (key : ℕ) (es : List (ℕ × ℕ)) → IsRecency n low es → AreStamps stamps es → first_key es ≡ Some key → stamp ≤ get_or stamps key 0 → since_stamp stamp es ≡ es
trim_stays n low stamp stamps key [] h s f l = absurd cc
trim_stays n low stamp stamps key (e ∷ es) h s f l =
    let k : e.0 ≡ key = cc in
    let late : stamp ≤ e.1 = (let here : get_or stamps e.0 0 ≡ e.1 = s.0 in rw (← here, k) l) in
    let l1 : leb stamp e.1 ≡ true = le-leb stamp e.1 late in
    rw l1 (ap (λ (l : List (ℕ × ℕ)). e ∷ l) (trim_end n e.1 stamp es h.3 late))

pub first_holds : (es : List (ℕ × ℕ)) (key : ℕ) → first_key es ≡ Some key → holds key es ≡ true
first_holds [] key f = absurd cc
first_holds (e ∷ es) key f = let k : e.0 ≡ key = cc in let t : eqb e.0 key ≡ true = grind (arith, nat_tests, k) in rw t refl
