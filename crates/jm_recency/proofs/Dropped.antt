-- The links of a list without a key.
use Rattle.std.proofs.Common.{◌≡◌, ℕ, zero, suc, ◌+◌, ◌-◌, ◌<◌, ◌≤◌, ◌≢◌, Bool, true, false, not, cond, ◌||◌, List, [], ◌∷◌, ◌++◌, Option, Some, None, eqb, leb, get_or, length, refl, ap, sym, ◌∙◌, arith, inl, inr}
use Rattle.std.specs.List.{AllByRecursion, filter}
use Rattle.std.proofs.lemmas.Bool.{cases_Bool, or_parts, or_cases}
use Rattle.std.proofs.lemmas.Bool.Decides.{nat_tests}
use Rattle.jm_recency.specs.Recency.{holds, without, IsRecency}
use Rattle.jm_recency.specs.RecencyLaws.{without-absent, IsRecency-without}
use Rattle.jm_recency.specs.Links.{END, ABSENT, oldest_of, newest_of, link_after, link_before, AreStamps, AreLinks}
use Rattle.jm_recency.proofs.LinkLaws.{not_both, same, holds-below, link-absent, before-absent}
use Rattle.std.proofs.Common.{get_or-set_same, get_or-set_other}
use Rattle.std.proofs.Math.ListN.{set, length-set}

-- an entry's key isn't one that stands behind it
other_key : (e : ℕ × ℕ) (key : ℕ) (es : List (ℕ × ℕ)) → holds e.0 es ≡ false → holds key es ≡ true → eqb e.0 key ≡ false
other_key e key es absent there =
    elim (cases_Bool (eqb e.0 key)) [
      | inl t ↦ let k : e.0 ≡ key = same e.0 key t in absurd (not_both (holds key es) there (rw (← k) absent))
      | inr f ↦ f
    ]

-- the link behind a key leads to another key that is there, or to the end
after_key : (n low key other : ℕ) (es : List (ℕ × ℕ)) → IsRecency n low es → holds key es ≡ true → holds other es ≡ false → other < 65535 → eqb other (link_after es key) ≡ false
after_key n low key other [] h there absent l = absurd cc
after_key n low key other (e ∷ es) h there absent l =
    let both = or_parts (eqb e.0 other) (holds other es) absent in
    elim (cases_Bool (eqb e.0 key)) [
      | inl t ↦ rw t (not_oldest other es both.1 l)
      | inr f ↦ rw f (after_key n e.1 key other es h.3 (rw f at there) both.1 l)
    ]
  where
    not_oldest : (other : ℕ) (es : List (ℕ × ℕ)) → holds other es ≡ false → other < 65535 → eqb other (oldest_of es) ≡ false
    not_oldest other [] h l = grind (arith, nat_tests)
    not_oldest other (e ∷ es) h l = let both = or_parts (eqb e.0 other) (holds other es) h in grind (arith, nat_tests, both.0)

-- the link before a key leads to another key that is there, or to what stands before the list
before_key : (key other before : ℕ) (es : List (ℕ × ℕ)) → holds key es ≡ true → holds other es ≡ false → eqb other before ≡ false → eqb other (link_before before es key) ≡ false
before_key key other before [] there absent f = absurd cc
before_key key other before (e ∷ es) there absent f =
    let both = or_parts (eqb e.0 other) (holds other es) absent in
    elim (cases_Bool (eqb e.0 key)) [
      | inl t ↦ rw t f
      | inr n ↦ rw n (before_key key other e.0 es (rw n at there) both.1 (grind (arith, nat_tests, both.0)))
    ]

-- ## The link behind each key

oldest-without : (n low key : ℕ) (es : List (ℕ × ℕ)) → IsRecency n low es → key < 65535 → oldest_of (without key es) ≡ cond (eqb (oldest_of es) key) (link_after es key) (oldest_of es)
oldest-without n low key [] h l = let f : eqb 65535 key ≡ false = grind (arith, nat_tests) in rw f refl
oldest-without n low key (e ∷ es) h l =
    elim (cases_Bool (eqb e.0 key)) [
      | inl t ↦ let k : e.0 ≡ key = same e.0 key t in let absent : holds key es ≡ false = rw (← k) h.2 in rw (t, without-absent key es absent) refl
      | inr f ↦ rw f refl
    ]

-- the key stands first exactly where what is before it is what stands before the list
before-first : (n low key before : ℕ) (es : List (ℕ × ℕ)) → IsRecency n low es → holds key es ≡ true → holds before es ≡ false → eqb before (link_before before es key) ≡ eqb (oldest_of es) key
before-first n low key before [] h there absent = absurd cc
before-first n low key before (e ∷ es) h there absent =
    let both = or_parts (eqb e.0 before) (holds before es) absent in
    elim (cases_Bool (eqb e.0 key)) [
      | inl t ↦ let b : eqb before before ≡ true = grind (arith, nat_tests) in rw (t, b) refl
      | inr f ↦ rw f (before_key key before e.0 es (rw f at there) both.1 (grind (arith, nat_tests, both.0)))
    ]

pub after-without : (n low key before j : ℕ) (es : List (ℕ × ℕ)) → n ≤ 1024 → IsRecency n low es → holds key es ≡ true → holds before es ≡ false → eqb j before ≡ false →
    link_after (without key es) j ≡ cond (eqb j key) 65534 (cond (eqb j (link_before before es key)) (link_after es key) (link_after es j))
after-without n low key before j [] few h there absent f = absurd cc
after-without n low key before j (e ∷ es) few h there absent f =
    elim (cases_Bool (eqb e.0 key)) [
      | inl t ↦
          let k : e.0 ≡ key = same e.0 key t in
          let gone : holds key es ≡ false = rw (← k) h.2 in
          rw (t, without-absent key es gone, f) (elim (cases_Bool (eqb j key)) [
            | inl a ↦ let jk : j ≡ key = same j key a in rw (a, jk) (link-absent key es gone)
            | inr b ↦ let c : eqb e.0 j ≡ false = grind (arith, nat_tests, k, b) in rw (b, c) refl
          ])
      | inr g ↦
          let inside : holds key es ≡ true = rw g at there in
          let few_key : key < n = holds-below n e.1 key es h.3 inside in
          rw g (elim (cases_Bool (eqb e.0 j)) [
            | inl a ↦
                let ej : e.0 ≡ j = same e.0 j a in
                let jk : eqb j key ≡ false = rw (← ej) g in
                let first = before-first n e.1 key e.0 es h.3 inside h.2 in
                let first_j : eqb j (link_before e.0 es key) ≡ eqb (oldest_of es) key = rw (← ej) first in
                rw (a, jk, first_j) (oldest-without n e.1 key es h.3 (omega arith))
            | inr b ↦
                let ih = after-without n e.1 key e.0 j es few h.3 inside h.2 (grind (arith, nat_tests, b)) in
                rw b ih
          ])
    ]

-- ## The link before each key

before-other : (j p q : ℕ) (es : List (ℕ × ℕ)) → j < 65535 → link_before p es j ≡ cond (eqb j (oldest_of es)) p (link_before q es j)
before-other j p q [] l = let f : eqb j 65535 ≡ false = grind (arith, nat_tests) in rw f refl
before-other j p q (e ∷ es) l =
    elim (cases_Bool (eqb e.0 j)) [
      | inl t ↦ let s : eqb j e.0 ≡ true = grind (arith, nat_tests, t) in rw (t, s) refl
      | inr f ↦ let s : eqb j e.0 ≡ false = grind (arith, nat_tests, f) in rw (f, s) refl
    ]

pub before-without : (n low key before j : ℕ) (es : List (ℕ × ℕ)) → n ≤ 1024 → IsRecency n low es → holds key es ≡ true → j < n →
    link_before before (without key es) j ≡ cond (eqb j key) 65534 (cond (eqb j (link_after es key)) (link_before before es key) (link_before before es j))
before-without n low key before j [] few h there l = absurd cc
before-without n low key before j (e ∷ es) few h there l =
    elim (cases_Bool (eqb e.0 key)) [
      | inl t ↦
          let k : e.0 ≡ key = same e.0 key t in
          let gone : holds key es ≡ false = rw (← k) h.2 in
          rw (t, without-absent key es gone) (elim (cases_Bool (eqb j key)) [
            | inl a ↦ let jk : j ≡ key = same j key a in rw (a, jk) (before-absent key before es gone)
            | inr b ↦ let c : eqb e.0 j ≡ false = grind (arith, nat_tests, k, b) in rw (b, c) (before-other j before e.0 es (omega arith))
          ])
      | inr g ↦
          let inside : holds key es ≡ true = rw g at there in
          rw g (elim (cases_Bool (eqb e.0 j)) [
            | inl a ↦
                let ej : e.0 ≡ j = same e.0 j a in
                let jk : eqb j key ≡ false = rw (← ej) g in
                let off : eqb j (link_after es key) ≡ false = rw (← ej) (after_key n e.1 key e.0 es h.3 inside h.2 (let m : e.0 < n = h.0 in omega arith)) in
                rw (a, jk, off) refl
            | inr b ↦ rw b (before-without n e.1 key e.0 j es few h.3 inside l)
          ])
    ]

-- ## The ends

pub newest-without : (n low key before : ℕ) (es : List (ℕ × ℕ)) → n ≤ 1024 → IsRecency n low es → holds key es ≡ true →
    newest_of before (without key es) ≡ cond (eqb (link_after es key) 65535) (link_before before es key) (newest_of before es)
newest-without n low key before [] few h there = absurd cc
newest-without n low key before (e ∷ es) few h there =
    elim (cases_Bool (eqb e.0 key)) [
      | inl t ↦
          let k : e.0 ≡ key = same e.0 key t in
          let gone : holds key es ≡ false = rw (← k) h.2 in
          rw (t, without-absent key es gone) (last n e.1 before e.0 es few h.3)
      | inr g ↦ rw g (newest-without n e.1 key e.0 es few h.3 (rw g at there))
    ]
  where
    last : (n low before other : ℕ) (es : List (ℕ × ℕ)) → n ≤ 1024 → IsRecency n low es → newest_of before es ≡ cond (eqb (oldest_of es) 65535) before (newest_of other es)
    last n low before other [] few h = refl
    last n low before other (e ∷ es) few h = let m : e.0 < n = h.0 in let f : eqb e.0 65535 ≡ false = grind (arith, nat_tests) in rw f refl

pub length-without : (n low key : ℕ) (es : List (ℕ × ℕ)) → IsRecency n low es → holds key es ≡ true → length es ≡ length (without key es) + 1
length-without n low key [] h there = absurd cc
length-without n low key (e ∷ es) h there =
    elim (cases_Bool (eqb e.0 key)) [
      | inl t ↦
          let k : e.0 ≡ key = same e.0 key t in
          let gone : holds key es ≡ false = rw (← k) h.2 in
          rw (t, without-absent key es gone) (omega arith)
      | inr g ↦ let ih = length-without n e.1 key es h.3 (rw g at there) in rw g (omega arith)
    ]

pub AreStamps-without : (stamps : List ℕ) (key : ℕ) (es : List (ℕ × ℕ)) → AreStamps stamps es → AreStamps stamps (without key es)
AreStamps-without stamps key [] s = tt
AreStamps-without stamps key (e ∷ es) s =
    let ih = AreStamps-without stamps key es s.1 in
    elim (cases_Bool (eqb e.0 key)) [ inl t ↦ rw t ih | inr f ↦ rw f (s.0, ih) ]

-- ## The arrays

-- two links written: the second is at a place inside
pub written : (xs : List ℕ) (b k x y j : ℕ) → j < length xs → k < length xs → get_or (set (set xs b x) k y) j 0 ≡ cond (eqb j k) y (cond (eqb j b) x (get_or xs j 0))
written xs b k x y j lj lk =
    elim (cases_Bool (eqb j k)) [
      | inl t ↦
          let jk : j ≡ k = same j k t in
          let inside : k < length (set xs b x) = simp length-set lk in
          rw (t, jk, get_or-set_same (set xs b x) k y 0 inside) refl
      | inr f ↦
          let ne : j ≢ k = λ e. not_both (eqb j k) (grind (arith, nat_tests, e)) f in
          rw (f, get_or-set_other (set xs b x) k j y 0 ne) (elim (cases_Bool (eqb j b)) [
            | inl a ↦ let jb : j ≡ b = same j b a in let inb : b < length xs = omega arith in rw (a, jb, get_or-set_same xs b x 0 inb) refl
            | inr c ↦ let nb : j ≢ b = λ e. not_both (eqb j b) (grind (arith, nat_tests, e)) c in rw (c, get_or-set_other xs b j x 0 nb) refl
          ])
    ]

holds-end : (n low : ℕ) (es : List (ℕ × ℕ)) → n ≤ 1024 → IsRecency n low es → holds 65535 es ≡ false
holds-end n low [] few h = refl
holds-end n low (e ∷ es) few h = let m : e.0 < n = h.0 in let f : eqb e.0 65535 ≡ false = grind (arith, nat_tests) in rw f (holds-end n e.1 es few h.3)

oldest-dropped : (n low key : ℕ) (es : List (ℕ × ℕ)) → n ≤ 1024 → IsRecency n low es → holds key es ≡ true →
    oldest_of (without key es) ≡ cond (eqb (link_before 65535 es key) 65535) (link_after es key) (oldest_of es)
oldest-dropped n low key es few h there =
    let l : key < n = holds-below n low key es h there in
    let first = before-first n low key 65535 es h there (holds-end n low es few h) in
    let turned : eqb (link_before 65535 es key) 65535 ≡ eqb (oldest_of es) key = eqb-sym (link_before 65535 es key) 65535 ∙ first in
    rw turned (oldest-without n low key es h (omega arith))
  where
    eqb-sym : (a b : ℕ) → eqb a b ≡ eqb b a
    eqb-sym a b = elim (cases_Bool (eqb a b)) [
      | inl t ↦ let s : eqb b a ≡ true = grind (arith, nat_tests, t) in rw (t, s) refl
      | inr f ↦ let s : eqb b a ≡ false = grind (arith, nat_tests, f) in rw (f, s) refl
    ]

pub links_dropped : (n : ℕ) (next previous stamps : List ℕ) (oldest newest count : ℕ) (es : List (ℕ × ℕ)) (key : ℕ) → AreLinks n next previous stamps oldest newest count es → holds key es ≡ true →
    AreLinks n (set (set next (get_or previous key 0) (get_or next key 0)) key 65534) (set (set previous (get_or next key 0) (get_or previous key 0)) key 65534) stamps
    (cond (eqb (get_or previous key 0) 65535) (get_or next key 0) oldest) (cond (eqb (get_or next key 0) 65535) (get_or previous key 0) newest) (count - 1) (without key es)
links_dropped n next previous stamps oldest newest count es key l there =
    let k : key < n = holds-below n 0 key es l.entries there in
    let a : get_or next key 0 ≡ link_after es key = l.after key k in
    let b : get_or previous key 0 ≡ link_before 65535 es key = l.before key k in
    rw (a, b) (record {
      few = l.few;
      nexts = simp length-set l.nexts;
      previouses = simp length-set l.previouses;
      stamped = l.stamped;
      after = λ j h.
          let hn : j < length next = (let e = l.nexts in omega arith) in
          let kn : key < length next = (let e = l.nexts in omega arith) in
          let off : eqb j 65535 ≡ false = (let e = l.few in grind (arith, nat_tests)) in
          written next (link_before 65535 es key) key (link_after es key) 65534 j hn kn
          ∙ rw (l.after j h) (sym (after-without n 0 key 65535 j es l.few l.entries there (holds-end n 0 es l.few l.entries) off));
      before = λ j h.
          let hn : j < length previous = (let e = l.previouses in omega arith) in
          let kn : key < length previous = (let e = l.previouses in omega arith) in
          written previous (link_after es key) key (link_before 65535 es key) 65534 j hn kn
          ∙ rw (l.before j h) (sym (before-without n 0 key 65535 j es l.few l.entries there h));
      entries = IsRecency-without n 0 key es l.entries;
      stamps_are = AreStamps-without stamps key es l.stamps_are;
      first = rw l.first (sym (oldest-dropped n 0 key es l.few l.entries there));
      last = rw l.last (sym (newest-without n 0 key 65535 es l.few l.entries there));
      counted = (let e = length-without n 0 key es l.entries there in let c = l.counted in omega arith);
    })
