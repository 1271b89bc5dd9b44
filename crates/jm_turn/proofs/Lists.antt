-- Lists of turns, sums over views, and numbers modulo 2^64.
use Rattle.std.proofs.Common.{◌≡◌, ◌≢◌, ◌⊎◌, ℕ, zero, suc, ◌+◌, ◌%◌, ◌<◌, ◌≤◌, Bool, true, false, List, [], ◌∷◌, ◌++◌, length, set, nat_lt, ◌==◌, if◌then◌else◌, sym, refl, ap, ◌∙◌, subst, inl, inr, arith, length-append, append_assoc, append-nil, eq-eqb, ne_eqb, le_refl}
use Rattle.std.proofs.lemmas.Bool.Decides.{nat_tests}
use Rattle.std.proofs.Math.Nat.{mod-add-mod}
use mathlib.Core.Option.{some, some-injective, some-ne-none}
use mathlib.Core.Logic.{dite}
use native.Mathlib.Decide.{ℕ_discrete}
use lib.ListN.{get_elem?}
use Rattle.jm_turn.specs.declared.view.Made.{Made}
use Rattle.jm_turn.specs.Turns.{made, places, Everyone, AllOthers, Begins, Follows, longer}
use Rattle.jm_turn.specs.Rule.{total}

module _ {C : Type 0} where
  pub everyone_map : (P Q : ℕ → Type 0) → ((n : ℕ) → P n → Q n) → (ms : List (Made C)) → Everyone P ms → Everyone Q ms
  everyone_map P Q f [] h = tt
  everyone_map P Q f (m ∷ ms) h = (f m.by h.0, everyone_map P Q f ms h.1)

  pub everyone_both : (P : ℕ → Type 0) (xs ys : List (Made C)) → Everyone P xs → Everyone P ys → Everyone P (xs ++ ys)
  everyone_both P [] ys h k = k
  everyone_both P (x ∷ xs) ys h k = (h.0, everyone_both P xs ys h.1 k)

  pub everyone_left : (P : ℕ → Type 0) (xs ys : List (Made C)) → Everyone P (xs ++ ys) → Everyone P xs
  everyone_left P [] ys h = tt
  everyone_left P (x ∷ xs) ys h = (h.0, everyone_left P xs ys h.1)

  pub everyone_right : (P : ℕ → Type 0) (xs ys : List (Made C)) → Everyone P (xs ++ ys) → Everyone P ys
  everyone_right P [] ys h = h
  everyone_right P (x ∷ xs) ys h = everyone_right P xs ys h.1

  -- turns of others have no places
  pub places_others : (n k : ℕ) (ms : List (Made C)) → AllOthers n ms → places n k ms ≡ []
  places_others n k [] h = refl
  places_others n k (m ∷ ms) h = rw (ne_eqb m.by n h.0) (places_others n (k + 1) ms h.1)

  pub places_append : (n k : ℕ) (xs ys : List (Made C)) → places n k (xs ++ ys) ≡ places n k xs ++ places n (k + length xs) ys
  places_append n k [] ys = ap (λ (i : ℕ). places n i ys) (omega arith)
  places_append n k (x ∷ xs) ys =
      let e : (k + 1) + length xs ≡ k + suc (length xs) = omega arith in
      let h = places_append n (k + 1) xs ys ∙ ap (λ (i : ℕ). places n (k + 1) xs ++ places n i ys) e in
      elim (cases_Bool (x.by == n)) [ inl t ↦ rw t (ap (λ (r : List ℕ). k ∷ r) h) | inr t ↦ rw t h ]
    where
      cases_Bool : (b : Bool) → (b ≡ true) ⊎ (b ≡ false)
      cases_Bool true = inl refl
      cases_Bool false = inr refl

  -- turns of others leave the places
  pub places_more : (n : ℕ) (xs more : List (Made C)) → AllOthers n more → places n 0 (xs ++ more) ≡ places n 0 xs
  places_more n xs more h = places_append n 0 xs more ∙ (ap (λ (r : List ℕ). places n 0 xs ++ r) (places_others n (0 + length xs) more h) ∙ append-nil (places n 0 xs))

  -- an own turn has the place behind them
  pub places_own : (n : ℕ) (xs : List (Made C)) (what : C) → places n 0 (xs ++ made n what ∷ []) ≡ places n 0 xs ++ length xs ∷ []
  places_own n xs what =
      let e : 0 + length xs ≡ length xs = omega arith in
      let here : places n (0 + length xs) (made n what ∷ []) ≡ length xs ∷ [] = rw (eq-eqb n n refl) (ap (λ (i : ℕ). i ∷ []) e) in
      places_append n 0 xs (made n what ∷ []) ∙ ap (λ (r : List ℕ). places n 0 xs ++ r) here

  pub places_follow : (n : ℕ) (xs ys : List (Made C)) → Follows n xs ys → places n 0 ys ≡ places n 0 xs
  places_follow n xs ys f = ap (places n 0) f.1 ∙ places_more n xs f.0 f.2

  -- and where there are no places, the turns are others'
  all_others : (n k : ℕ) (ms : List (Made C)) → length (places n k ms) ≡ 0 → AllOthers n ms
  all_others n k [] z = tt
  all_others n k (m ∷ ms) z = dite (ℕ_discrete m.by n)
      (λ (e : m.by ≡ n). absurd (some_place (m.by == n) (eq-eqb m.by n e) z))
      (λ (other : m.by ≢ n). (other, all_others n (k + 1) ms (rw (ne_eqb m.by n other) at z)))
    where
      some_place : (b : Bool) → b ≡ true → length (if b then k ∷ places n (k + 1) ms else places n (k + 1) ms) ≡ 0 → ⊥
      some_place true t z = absurd (omega arith)
      some_place false t z = absurd (cc)

  -- a list that goes on with no own place goes on with turns of others
  pub follows_own : (n : ℕ) (xs ys : List (Made C)) → Begins xs ys → places n 0 ys ≡ places n 0 xs → Follows n xs ys
  follows_own n xs ys f same =
      let e : places n 0 xs ++ places n (0 + length xs) f.0 ≡ places n 0 xs = sym (places_append n 0 xs f.0) ∙ (ap (places n 0) (sym f.1) ∙ same) in
      let z : length (places n (0 + length xs) f.0) ≡ 0 = omega (arith, ap length e, length-append (places n 0 xs) (places n (0 + length xs) f.0)) in
      (f.0, f.1, all_others n (0 + length xs) f.0 z)

  pub begins_refl : (xs : List (Made C)) → Begins xs xs
  begins_refl xs = ([], sym (append-nil xs))

  pub begins_trans : (xs ys zs : List (Made C)) → Begins xs ys → Begins ys zs → Begins xs zs
  begins_trans xs ys zs f g = (f.0 ++ g.0, g.1 ∙ (ap (λ (l : List (Made C)). l ++ g.0) f.1 ∙ append_assoc xs f.0 g.0))

  pub follows_refl : (n : ℕ) (xs : List (Made C)) → Follows n xs xs
  follows_refl n xs = ([], sym (append-nil xs), tt)

  pub follows_begins : (n : ℕ) (xs ys : List (Made C)) → Follows n xs ys → Begins xs ys
  follows_begins n xs ys f = (f.0, f.1)

  pub follows_trans : (n : ℕ) (xs ys zs : List (Made C)) → Follows n xs ys → Follows n ys zs → Follows n xs zs
  follows_trans n xs ys zs f g = (f.0 ++ g.0, g.1 ∙ (ap (λ (l : List (Made C)). l ++ g.0) f.1 ∙ append_assoc xs f.0 g.0), everyone_both _ f.0 g.0 f.2 g.2)

  -- one more turn, of another
  pub follows_push : (n : ℕ) (xs ys more : List (Made C)) → Follows n xs ys → AllOthers n more → Follows n xs (ys ++ more)
  follows_push n xs ys more f h = follows_trans n xs ys (ys ++ more) f (more, refl, h)

  -- of two beginnings of one list the shorter begins the longer
  pub prefixes : (xs ys zs ws : List (Made C)) → xs ++ zs ≡ ys ++ ws → length xs ≤ length ys → (d : List (Made C)) × (ys ≡ xs ++ d) × (zs ≡ d ++ ws)
  prefixes [] ys zs ws e l = (ys, refl, e)
  prefixes (x ∷ xs) [] zs ws e l = absurd (omega arith)
  prefixes (x ∷ xs) (y ∷ ys) zs ws e l =
      let h : x ≡ y = cc in
      let t : xs ++ zs ≡ ys ++ ws = cc in
      let r = prefixes xs ys zs ws t (omega arith) in
      (r.0, (λ i. sym h i ∷ r.1 i), r.2)

  -- of two beginnings the longer is one too, and both begin it
  pub longer_begins : (log xs ys : List (Made C)) → Begins xs log → Begins ys log → Begins (longer xs ys) log × Begins xs (longer xs ys) × Begins ys (longer xs ys)
  longer_begins log xs ys f g = cases (nat_lt (length ys) (length xs)) refl
    where
      Claim : List (Made C) → Type 0
      Claim l = Begins l log × Begins xs l × Begins ys l

      cases : (b : Bool) → nat_lt (length ys) (length xs) ≡ b → Claim (longer xs ys)
      cases true t = rw t (f, begins_refl xs, (let l : length ys ≤ length xs = grind (arith, nat_tests) in let p = prefixes ys xs g.0 f.0 (sym g.1 ∙ f.1) l in (p.0, p.1)))
      cases false t = rw t (g, (let l : length xs ≤ length ys = grind (arith, nat_tests) in let p = prefixes xs ys f.0 g.0 (sym f.1 ∙ g.1) l in (p.0, p.1)), begins_refl ys)

  -- what lies between a beginning and the whole lies between it and any list between
  pub follows_between : (n : ℕ) (xs ys log : List (Made C)) → Follows n xs log → Begins xs ys → Begins ys log → Follows n xs ys × Follows n ys log
  follows_between n xs ys log f g h =
      let all : log ≡ xs ++ (g.0 ++ h.0) = h.1 ∙ (ap (λ (l : List (Made C)). l ++ h.0) g.1 ∙ append_assoc xs g.0 h.0) in
      let same = prefixes xs xs f.0 (g.0 ++ h.0) (sym f.1 ∙ all) (le_refl (length xs)) in
      let none : same.0 ≡ [] = nothing xs same.0 same.1 in
      let e : f.0 ≡ g.0 ++ h.0 = same.2 ∙ ap (λ (l : List (Made C)). l ++ (g.0 ++ h.0)) none in
      let w : AllOthers n (g.0 ++ h.0) = subst (AllOthers n) e f.2 in
      ((g.0, g.1, everyone_left _ g.0 h.0 w), (h.0, h.1, everyone_right _ g.0 h.0 w))
    where
      nothing : (xs d : List (Made C)) → xs ≡ xs ++ d → d ≡ []
      nothing xs [] e = refl
      nothing xs (y ∷ d) e = absurd (omega (arith, ap length e, length-append xs (y ∷ d)))

module _ {A : Type 0} where
  pub total_set : (f : A → ℕ) (l : List A) (i : ℕ) (v w : A) → get_elem? l i ≡ some v → total f (set l i w) + f v ≡ total f l + f w
  total_set f [] i v w e = absurd (some-ne-none v (sym e))
  total_set f (x ∷ xs) zero v w e = let s : f x ≡ f v = ap f (some-injective x v e) in omega arith
  total_set f (x ∷ xs) (suc i) v w e = let h = total_set f xs i v w e in omega arith

  pub total_append : (f : A → ℕ) (xs ys : List A) → total f (xs ++ ys) ≡ total f xs + total f ys
  total_append f [] ys = omega arith
  total_append f (x ∷ xs) ys = let h = total_append f xs ys in omega arith

  pub total_one : (f : A → ℕ) (l : List A) (i : ℕ) (v : A) → get_elem? l i ≡ some v → f v ≤ total f l
  total_one f [] i v e = absurd (some-ne-none v (sym e))
  total_one f (x ∷ xs) zero v e = let s : f x ≡ f v = ap f (some-injective x v e) in omega arith
  total_one f (x ∷ xs) (suc i) v e = let h = total_one f xs i v e in omega arith

  pub total_two : (f : A → ℕ) (l : List A) (i j : ℕ) (v w : A) → get_elem? l i ≡ some v → get_elem? l j ≡ some w → i ≢ j → f v + f w ≤ total f l
  total_two f [] i j v w e d n = absurd (some-ne-none v (sym e))
  total_two f (x ∷ xs) zero zero v w e d n = absurd (n refl)
  total_two f (x ∷ xs) zero (suc j) v w e d n = let s : f x ≡ f v = ap f (some-injective x v e) in let h = total_one f xs j w d in omega arith
  total_two f (x ∷ xs) (suc i) zero v w e d n = let s : f x ≡ f w = ap f (some-injective x w d) in let h = total_one f xs i v e in omega arith
  total_two f (x ∷ xs) (suc i) (suc j) v w e d n = let h = total_two f xs i j v w e d (λ (q : i ≡ j). n (ap suc q)) in omega arith

  -- one sum is no more than another where each of its terms is
  pub total_le : (f g : A → ℕ) → ((x : A) → f x ≤ g x) → (l : List A) → total f l ≤ total g l
  total_le f g h [] = omega arith
  total_le f g h (x ∷ xs) = let a = h x in let b = total_le f g h xs in omega arith

  pub at_length : (l : List A) (i : ℕ) (v : A) → get_elem? l i ≡ some v → i < length l
  at_length [] i v e = absurd (some-ne-none v (sym e))
  at_length (x ∷ xs) zero v e = omega arith
  at_length (x ∷ xs) (suc i) v e = let h = at_length xs i v e in omega arith

  pub sole : (l : List A) → length l ≡ 1 → (x : A) × (l ≡ x ∷ [])
  sole [] e = absurd (omega arith)
  sole (x ∷ []) e = (x, refl)
  sole (x ∷ y ∷ l) e = absurd (omega arith)

-- the word that counts has one more
pub one_more : (a b : ℕ) → b ≡ a + 1 → (a % 18446744073709551616 + 1) % 18446744073709551616 ≡ b % 18446744073709551616
one_more a b e = mod-add-mod a 18446744073709551616 1 ∙ ap (λ (k : ℕ). k % 18446744073709551616) (sym e)
