-- The links of a list with one more key at its end.
use Rattle.std.proofs.Common.{◌≡◌, ℕ, zero, suc, ◌+◌, ◌-◌, ◌<◌, ◌≤◌, ◌≢◌, Bool, true, false, not, cond, ◌||◌, List, [], ◌∷◌, ◌++◌, Option, Some, None, eqb, leb, get_or, length, refl, ap, sym, ◌∙◌, arith, inl, inr, get_or-set_same, get_or-set_other, length-append}
use Rattle.std.proofs.Math.ListN.{set, length-set}
use Rattle.std.proofs.lemmas.Bool.{cases_Bool, or_parts, or_cases}
use Rattle.std.proofs.lemmas.Bool.Decides.{nat_tests}
use Rattle.jm_recency.specs.Recency.{holds, without, AreUpTo, IsRecency}
use Rattle.jm_recency.specs.RecencyLaws.{IsRecency-push}
use Rattle.jm_recency.specs.Links.{END, ABSENT, oldest_of, newest_of, link_after, link_before, AreStamps, AreLinks}
use Rattle.jm_recency.proofs.LinkLaws.{not_both, same, link-absent, before-absent}
use Rattle.jm_recency.proofs.Dropped.{written}

oldest-push : (n low key stamp : ℕ) (es : List (ℕ × ℕ)) → n ≤ 1024 → IsRecency n low es → oldest_of (es ++ (key, stamp) ∷ []) ≡ cond (eqb (oldest_of es) 65535) key (oldest_of es)
oldest-push n low key stamp [] few h = refl
oldest-push n low key stamp (e ∷ es) few h = let m : e.0 < n = h.0 in let f : eqb e.0 65535 ≡ false = grind (arith, nat_tests) in rw f refl

-- the list is empty exactly where its newest key is what stands before it
newest-none : (n low before : ℕ) (es : List (ℕ × ℕ)) → n ≤ 1024 → IsRecency n low es → holds before es ≡ false → eqb before (newest_of before es) ≡ eqb (oldest_of es) 65535
newest-none n low before [] few h absent = grind (arith, nat_tests)
newest-none n low before (e ∷ es) few h absent =
    let m : e.0 < n = h.0 in
    let f : eqb e.0 65535 ≡ false = grind (arith, nat_tests) in
    let both = or_parts (eqb e.0 before) (holds before es) absent in
    rw f (not_newest before e.0 es both.1 (grind (arith, nat_tests, both.0)))
  where
    not_newest : (other before : ℕ) (es : List (ℕ × ℕ)) → holds other es ≡ false → eqb other before ≡ false → eqb other (newest_of before es) ≡ false
    not_newest other before [] absent f = f
    not_newest other before (e ∷ es) absent f =
        let both = or_parts (eqb e.0 other) (holds other es) absent in
        not_newest other e.0 es both.1 (grind (arith, nat_tests, both.0))

after-push : (n low key stamp before j : ℕ) (es : List (ℕ × ℕ)) → n ≤ 1024 → IsRecency n low es → holds key es ≡ false → holds before es ≡ false → eqb j before ≡ false →
    link_after (es ++ (key, stamp) ∷ []) j ≡ cond (eqb j key) 65535 (cond (eqb j (newest_of before es)) key (link_after es j))
after-push n low key stamp before j [] few h absent out f =
    elim (cases_Bool (eqb j key)) [
      | inl t ↦ let s : eqb key j ≡ true = grind (arith, nat_tests, t) in rw (t, s) refl
      | inr g ↦ let s : eqb key j ≡ false = grind (arith, nat_tests, g) in rw (g, s, f) refl
    ]
after-push n low key stamp before j (e ∷ es) few h absent out f =
    let both = or_parts (eqb e.0 key) (holds key es) absent in
    elim (cases_Bool (eqb e.0 j)) [
      | inl a ↦
          let ej : e.0 ≡ j = same e.0 j a in
          let jk : eqb j key ≡ false = rw (← ej) both.0 in
          let none = newest-none n e.1 e.0 es few h.3 h.2 in
          let none_j : eqb j (newest_of e.0 es) ≡ eqb (oldest_of es) 65535 = rw (← ej) none in
          rw (a, jk, none_j) (oldest-push n e.1 key stamp es few h.3)
      | inr b ↦ rw b (after-push n e.1 key stamp e.0 j es few h.3 both.1 h.2 (grind (arith, nat_tests, b)))
    ]

before-push : (key stamp before j : ℕ) (es : List (ℕ × ℕ)) → holds key es ≡ false →
    link_before before (es ++ (key, stamp) ∷ []) j ≡ cond (eqb j key) (newest_of before es) (link_before before es j)
before-push key stamp before j [] absent =
    elim (cases_Bool (eqb j key)) [
      | inl t ↦ let s : eqb key j ≡ true = grind (arith, nat_tests, t) in rw (t, s) refl
      | inr g ↦ let s : eqb key j ≡ false = grind (arith, nat_tests, g) in rw (g, s) refl
    ]
before-push key stamp before j (e ∷ es) absent =
    let both = or_parts (eqb e.0 key) (holds key es) absent in
    elim (cases_Bool (eqb e.0 j)) [
      | inl a ↦
          let ej : e.0 ≡ j = same e.0 j a in
          let jk : eqb j key ≡ false = rw (← ej) both.0 in
          rw (a, jk) refl
      | inr b ↦ rw b (before-push key stamp e.0 j es both.1)
    ]

newest-push : (key stamp before : ℕ) (es : List (ℕ × ℕ)) → newest_of before (es ++ (key, stamp) ∷ []) ≡ key
newest-push key stamp before [] = refl
newest-push key stamp before (e ∷ es) = newest-push key stamp e.0 es

AreStamps-push : (stamps : List ℕ) (key stamp : ℕ) (es : List (ℕ × ℕ)) → key < length stamps → holds key es ≡ false → AreStamps stamps es → AreStamps (set stamps key stamp) (es ++ (key, stamp) ∷ [])
AreStamps-push stamps key stamp [] l absent s = (get_or-set_same stamps key stamp 0 l, tt)
AreStamps-push stamps key stamp (e ∷ es) l absent s =
    let both = or_parts (eqb e.0 key) (holds key es) absent in
    let ne : e.0 ≢ key = λ q. not_both (eqb e.0 key) (grind (arith, nat_tests, q)) both.0 in
    (get_or-set_other stamps key e.0 stamp 0 ne ∙ s.0, AreStamps-push stamps key stamp es l both.1 s.1)

holds-end : (n low : ℕ) (es : List (ℕ × ℕ)) → n ≤ 1024 → IsRecency n low es → holds 65535 es ≡ false
holds-end n low [] few h = refl
holds-end n low (e ∷ es) few h = let m : e.0 < n = h.0 in let f : eqb e.0 65535 ≡ false = grind (arith, nat_tests) in rw f (holds-end n e.1 es few h.3)

one_written : (xs : List ℕ) (k y j : ℕ) → j < length xs → k < length xs → get_or (set xs k y) j 0 ≡ cond (eqb j k) y (get_or xs j 0)
one_written xs k y j lj lk =
    elim (cases_Bool (eqb j k)) [
      | inl t ↦ let jk : j ≡ k = same j k t in rw (t, jk, get_or-set_same xs k y 0 lk) refl
      | inr f ↦ let ne : j ≢ k = λ e. not_both (eqb j k) (grind (arith, nat_tests, e)) f in rw (f, get_or-set_other xs k j y 0 ne) refl
    ]

pub links_pushed : (n : ℕ) (next previous stamps : List ℕ) (oldest newest count : ℕ) (es : List (ℕ × ℕ)) (key stamp : ℕ) → AreLinks n next previous stamps oldest newest count es → key < n → holds key es ≡ false → AreUpTo stamp es →
    AreLinks n (set (set next newest key) key 65535) (set previous key newest) (set stamps key stamp)
    (cond (eqb newest 65535) key oldest) key (count + 1) (es ++ (key, stamp) ∷ [])
links_pushed n next previous stamps oldest newest count es key stamp l k absent up =
    let at_end = holds-end n 0 es l.few l.entries in
    let none : eqb newest 65535 ≡ eqb (oldest_of es) 65535 = rw l.last (turned (newest_of 65535 es) 65535 ∙ newest-none n 0 65535 es l.few l.entries at_end) in
    record {
      few = l.few;
      nexts = simp length-set l.nexts;
      previouses = simp length-set l.previouses;
      stamped = simp length-set l.stamped;
      after = λ j h.
          let hn : j < length next = (let e = l.nexts in omega arith) in
          let kn : key < length next = (let e = l.nexts in omega arith) in
          let off : eqb j 65535 ≡ false = (let e = l.few in grind (arith, nat_tests)) in
          written next newest key key 65535 j hn kn
          ∙ rw (l.after j h, l.last) (sym (after-push n 0 key stamp 65535 j es l.few l.entries absent at_end off));
      before = λ j h.
          let hn : j < length previous = (let e = l.previouses in omega arith) in
          let kn : key < length previous = (let e = l.previouses in omega arith) in
          one_written previous key newest j hn kn ∙ rw (l.before j h, l.last) (sym (before-push key stamp 65535 j es absent));
      entries = IsRecency-push n 0 key stamp es l.entries up (omega arith) k absent;
      stamps_are = AreStamps-push stamps key stamp es (let e = l.stamped in omega arith) absent l.stamps_are;
      first = rw (none, l.first) (sym (oldest-push n 0 key stamp es l.few l.entries));
      last = sym (newest-push key stamp 65535 es);
      counted = (let c = l.counted in omega (arith, length-append es ((key, stamp) ∷ [])));
    }
  where
    turned : (a b : ℕ) → eqb a b ≡ eqb b a
    turned a b = elim (cases_Bool (eqb a b)) [
      | inl t ↦ let s : eqb b a ≡ true = grind (arith, nat_tests, t) in rw (t, s) refl
      | inr f ↦ let s : eqb b a ≡ false = grind (arith, nat_tests, f) in rw (f, s) refl
    ]
