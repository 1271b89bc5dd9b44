-- Counting coded places: by keys that a later place with the same key ends, or by weights.
use Rattle.std.proofs.Common.{◌≡◌, ℕ, ◌+◌, ◌≤◌, ◌<◌, Bool, true, false, not, List, [], ◌∷◌, ◌++◌, Option, Some, None, length, leb, eqb, refl, ap, sym, ◌∙◌, arith, inl, inr, length-append}
use Rattle.std.specs.Prelude.{sum_by}
use Rattle.std.specs.List.{list_any, filter, filter_map, cons_option, AllByRecursion, IsDistinct}
use Rattle.std.proofs.lemmas.Bool.{cases_Bool, eqb-true, or_cases}
use Rattle.std.proofs.lemmas.List.Elements.{filter_map-append}
use Rattle.std.proofs.lemmas.List.Sums.{sum_by-cons, sum_by-append}
use Rattle.std.proofs.lemmas.Map.Steps.{length-le_from_distinct_below}
use Rattle.std.proofs.lemmas.Map.Keys.{IsDistinct-cons}
use Rattle.jm_cmds.specs.History.{coded, Unended}
use Rattle.jm_cmds.specs.HistoryLaws.{coded-later, coded-push}

-- how many of these places have a key
abbrev pub key_count : {X : Type 0} → (X → Option ℕ) → List X → ℕ
key_count key xs = length (filter_map key xs)

-- whether one of these places has this key
abbrev pub has_key : {X : Type 0} → (X → Option ℕ) → ℕ → List X → Bool
has_key key k xs = list_any (eqb k) (filter_map key xs)

-- a place is ended by each later one with its key
abbrev pub EndsKey : {X : Type 0} → (X → X → Bool) → (X → Option ℕ) → Type 0
EndsKey {X} ends key = (x y : X) (k : ℕ) → key x ≡ Some k → key y ≡ Some k → ends x y ≡ true

pub none_some : (k : ℕ) → None ≡ Some k → ⊥
none_some k e = cc

not_both : (b : Bool) → b ≡ true → b ≡ false → ⊥
not_both b t f = cc

-- ## Unended places have distinct keys

apart_one : {X : Type 0} (ends : X → X → Bool) (key : X → Option ℕ) (meets : EndsKey ends key) (x y : X) (k : ℕ) (o : Option ℕ) (ms : List ℕ) → key x ≡ Some k → key y ≡ o → ends x y ≡ false → AllByRecursion (λ m. eqb k m ≡ false) ms → AllByRecursion (λ m. eqb k m ≡ false) (cons_option o ms)
apart_one ends key meets x y k None ms kx ky n h = h
apart_one ends key meets x y k (Some m) ms kx ky n h =
    elim (cases_Bool (eqb k m)) [
      | inl t ↦ absurd (not_both (ends x y) (meets x y k kx (rw (eqb-true k m t) ky)) n)
      | inr f ↦ (f, h)
    ]

apart : {X : Type 0} (ends : X → X → Bool) (key : X → Option ℕ) (meets : EndsKey ends key) (x : X) (k : ℕ) (xs : List X) → key x ≡ Some k → AllByRecursion (λ y. ends x y ≡ false) xs → AllByRecursion (λ m. eqb k m ≡ false) (filter_map key xs)
apart ends key meets x k [] kx h = tt
apart ends key meets x k (y ∷ ys) kx h =
    apart_one ends key meets x y k (key y) (filter_map key ys) kx refl h.0 (apart ends key meets x k ys kx h.1)

distinct_one : {X : Type 0} (ends : X → X → Bool) (key : X → Option ℕ) (meets : EndsKey ends key) (x : X) (o : Option ℕ) (xs : List X) → key x ≡ o → AllByRecursion (λ y. ends x y ≡ false) xs → IsDistinct eqb (filter_map key xs) → IsDistinct eqb (cons_option o (filter_map key xs))
distinct_one ends key meets x None xs kx h d = d
distinct_one ends key meets x (Some k) xs kx h d = IsDistinct-cons eqb k (filter_map key xs) (apart ends key meets x k xs kx h) d

pub keys_distinct : {X : Type 0} (ends : X → X → Bool) (key : X → Option ℕ) (meets : EndsKey ends key) (xs : List X) → Unended ends xs → IsDistinct eqb (filter_map key xs)
unfolding IsDistinct
keys_distinct ends key meets [] u = tt
keys_distinct ends key meets (x ∷ xs) u = distinct_one ends key meets x (key x) xs refl u.0 (keys_distinct ends key meets xs u.1)

-- what holds of each place's key holds of the keys
pub keys_all : {X : Type 0} (P : X → Type 0) (Q : ℕ → Type 0) (key : X → Option ℕ) (within : (x : X) (k : ℕ) → P x → key x ≡ Some k → Q k) (xs : List X) → AllByRecursion P xs → AllByRecursion Q (filter_map key xs)
keys_all P Q key within [] h = tt
keys_all P Q key within (x ∷ xs) h = one (key x) refl (keys_all P Q key within xs h.1)
  where
    one : (o : Option ℕ) → key x ≡ o → AllByRecursion Q (filter_map key xs) → AllByRecursion Q (cons_option o (filter_map key xs))
    one None e ih = ih
    one (Some k) e ih = (within x k h.0 e, ih)

found_below : (n : ℕ) (ks : List ℕ) (q : ℕ) → AllByRecursion (λ k. k < n) ks → list_any (eqb q) ks ≡ true → q < n
found_below n [] q h e = absurd (not_both false e refl)
found_below n (k ∷ ks) q h e =
    elim (or_cases (eqb q k) (list_any (eqb q) ks) e) [
      | inl t ↦ let same : q ≡ k = eqb-true q k t in omega (arith, same, h.0)
      | inr later ↦ found_below n ks q h.1 later
    ]

-- Places with keys below n that no later one ends are at most n.
pub keys_few : {X : Type 0} (ends : X → X → Bool) (key : X → Option ℕ) (meets : EndsKey ends key) (n : ℕ) (xs : List X) → Unended ends xs → AllByRecursion (λ k. k < n) (filter_map key xs) → key_count key xs ≤ n
keys_few ends key meets n xs u h =
    length-le_from_distinct_below (filter_map key xs) n (keys_distinct ends key meets xs u) (λ q e. found_below n (filter_map key xs) q h e)

-- ## One command more

option_count : (o : Option ℕ) (ks : List ℕ) → length (cons_option o ks) ≡ length (cons_option o []) + length ks
option_count None ks = omega arith
option_count (Some k) ks = omega arith

option_small : (o : Option ℕ) → length (cons_option o []) ≤ 1
option_small None = omega arith
option_small (Some k) = omega arith

count-filter : {X : Type 0} (key : X → Option ℕ) (p : X → Bool) (xs : List X) → key_count key (filter p xs) ≤ key_count key xs
count-filter key p [] = omega arith
count-filter key p (x ∷ xs) =
    let ih = count-filter key p xs in
    let all = option_count (key x) (filter_map key xs) in
    elim (cases_Bool (p x)) [
      | inl t ↦ rw t (let kept = option_count (key x) (filter_map key (filter p xs)) in omega (arith, ih, all, kept))
      | inr f ↦ rw f (omega (arith, ih, all))
    ]

-- a filter that drops all places with a key that one place has
drop_kept : {X : Type 0} (key : X → Option ℕ) (p : X → Bool) (x : X) (xs : List X) (b : Bool) → p x ≡ b → key_count key (filter p xs) + 1 ≤ key_count key xs → key_count key (filter p (x ∷ xs)) + 1 ≤ key_count key (x ∷ xs)
drop_kept key p x xs true e ih =
    rw e (let all = option_count (key x) (filter_map key xs) in let kept = option_count (key x) (filter_map key (filter p xs)) in omega (arith, ih, all, kept))
drop_kept key p x xs false e ih = rw e (let all = option_count (key x) (filter_map key xs) in omega (arith, ih, all))

drop_here : {X : Type 0} (key : X → Option ℕ) (p : X → Bool) (x : X) (xs : List X) (m : ℕ) → key x ≡ Some m → p x ≡ false → key_count key (filter p (x ∷ xs)) + 1 ≤ key_count key (x ∷ xs)
drop_here key p x xs m e gone = rw (gone, e) (let less = count-filter key p xs in omega (arith, less))

count-drop : {X : Type 0} (key : X → Option ℕ) (p : X → Bool) (k : ℕ) (drops : (x : X) → key x ≡ Some k → p x ≡ false) (xs : List X) → has_key key k xs ≡ true → key_count key (filter p xs) + 1 ≤ key_count key xs
count-drop key p k drops [] h = absurd (not_both false h refl)
count-drop key p k drops (x ∷ xs) h = one (key x) refl h (λ t. drop_kept key p x xs (p x) refl (count-drop key p k drops xs t))
  where
    one : (o : Option ℕ) → key x ≡ o → list_any (eqb k) (cons_option o (filter_map key xs)) ≡ true → (has_key key k xs ≡ true → key_count key (filter p (x ∷ xs)) + 1 ≤ key_count key (x ∷ xs)) → key_count key (filter p (x ∷ xs)) + 1 ≤ key_count key (x ∷ xs)
    one None e t later = later t
    one (Some m) e t later = elim (or_cases (eqb k m) (has_key key k xs) t) [
      | inl a ↦ let same : k ≡ m = eqb-true k m a in drop_here key p x xs m e (drops x (e ∙ ap Some (sym same)))
      | inr b ↦ later b
    ]

count-push : {X : Type 0} (key : X → Option ℕ) (xs : List X) (y : X) → key_count key (xs ++ y ∷ []) ≡ key_count key xs + length (cons_option (key y) [])
count-push key xs y = ap length (filter_map-append key xs (y ∷ [])) ∙ length-append (filter_map key xs) (cons_option (key y) [])

-- One more command makes the coded keys at most one more.
pub keys_push : {X : Type 0} (ends : X → X → Bool) (at : X → ℕ) (key : X → Option ℕ) (checkpoint : ℕ) (xs : List X) (y : X) → checkpoint ≤ at y → key_count key (coded ends at checkpoint (xs ++ y ∷ [])) ≤ key_count key (coded ends at checkpoint xs) + 1
keys_push ends at key checkpoint xs y l =
    let left : _ → Bool = λ x. not (ends x y) in
    let all = ap (key_count key) (coded-push ends at checkpoint xs y l) ∙ count-push key (filter left (coded ends at checkpoint xs)) y in
    omega (arith, all, count-filter key left (coded ends at checkpoint xs), option_small (key y))

-- One without a key makes them no more.
pub keys_none : {X : Type 0} (ends : X → X → Bool) (at : X → ℕ) (key : X → Option ℕ) (checkpoint : ℕ) (xs : List X) (y : X) → checkpoint ≤ at y → key y ≡ None → key_count key (coded ends at checkpoint (xs ++ y ∷ [])) ≤ key_count key (coded ends at checkpoint xs)
keys_none ends at key checkpoint xs y l e =
    let left : _ → Bool = λ x. not (ends x y) in
    let all = ap (key_count key) (coded-push ends at checkpoint xs y l) ∙ count-push key (filter left (coded ends at checkpoint xs)) y in
    let none : length (cons_option (key y) []) ≡ 0 = rw e refl in
    omega (arith, all, count-filter key left (coded ends at checkpoint xs), none)

-- Nor does one whose key is coded.
pub keys_met : {X : Type 0} (ends : X → X → Bool) (at : X → ℕ) (key : X → Option ℕ) (meets : EndsKey ends key) (checkpoint : ℕ) (xs : List X) (y : X) (k : ℕ) → checkpoint ≤ at y → key y ≡ Some k → has_key key k (coded ends at checkpoint xs) ≡ true → key_count key (coded ends at checkpoint (xs ++ y ∷ [])) ≤ key_count key (coded ends at checkpoint xs)
keys_met ends at key meets checkpoint xs y k l e h =
    let left : _ → Bool = λ x. not (ends x y) in
    let all = ap (key_count key) (coded-push ends at checkpoint xs y l) ∙ count-push key (filter left (coded ends at checkpoint xs)) y in
    let less = count-drop key left k (λ x kx. ap not (meets x y k kx e)) (coded ends at checkpoint xs) h in
    omega (arith, all, less, option_small (key y))

-- A later checkpoint makes them no more.
pub keys_later : {X : Type 0} (ends : X → X → Bool) (at : X → ℕ) (key : X → Option ℕ) (checkpoint later : ℕ) (xs : List X) → checkpoint ≤ later → key_count key (coded ends at later xs) ≤ key_count key (coded ends at checkpoint xs)
keys_later ends at key checkpoint later xs l =
    let less = count-filter key (λ x. leb later (at x)) (coded ends at checkpoint xs) in
    rw (coded-later ends at checkpoint later xs l) at less

-- ## Weights

sum-filter : {X : Type 0} (weight : X → ℕ) (p : X → Bool) (xs : List X) → sum_by weight (filter p xs) ≤ sum_by weight xs
sum-filter weight p [] = omega arith
sum-filter weight p (x ∷ xs) =
    let ih = sum-filter weight p xs in
    let all = sum_by-cons weight x xs in
    elim (cases_Bool (p x)) [
      | inl t ↦ rw t (let kept = sum_by-cons weight x (filter p xs) in omega (arith, ih, all, kept))
      | inr f ↦ rw f (omega (arith, ih, all))
    ]

sum-push : {X : Type 0} (weight : X → ℕ) (xs : List X) (y : X) → sum_by weight (xs ++ y ∷ []) ≡ sum_by weight xs + weight y
sum-push weight xs y = sum_by-append weight xs (y ∷ []) ∙ omega (arith, sum_by-cons weight y [])

-- One more command adds at most its own weight to what is coded.
pub weights_push : {X : Type 0} (ends : X → X → Bool) (at : X → ℕ) (weight : X → ℕ) (checkpoint : ℕ) (xs : List X) (y : X) → checkpoint ≤ at y → sum_by weight (coded ends at checkpoint (xs ++ y ∷ [])) ≤ sum_by weight (coded ends at checkpoint xs) + weight y
weights_push ends at weight checkpoint xs y l =
    let left : _ → Bool = λ x. not (ends x y) in
    let all = ap (sum_by weight) (coded-push ends at checkpoint xs y l) ∙ sum-push weight (filter left (coded ends at checkpoint xs)) y in
    omega (arith, all, sum-filter weight left (coded ends at checkpoint xs))

sum-none : {X : Type 0} (weight : X → ℕ) (p : X → Bool) (drops : (x : X) → p x ≡ true → weight x ≡ 0) (xs : List X) → sum_by weight (filter p xs) ≡ 0
sum-none weight p drops [] = refl
sum-none weight p drops (x ∷ xs) =
    let ih = sum-none weight p drops xs in
    elim (cases_Bool (p x)) [
      | inl t ↦ rw t (let kept = sum_by-cons weight x (filter p xs) in omega (arith, ih, kept, drops x t))
      | inr f ↦ rw f ih
    ]

-- Where it ends all that has a weight, its own is all.
pub weights_ended : {X : Type 0} (ends : X → X → Bool) (at : X → ℕ) (weight : X → ℕ) (checkpoint : ℕ) (xs : List X) (y : X) → checkpoint ≤ at y → ((x : X) → not (ends x y) ≡ true → weight x ≡ 0) → sum_by weight (coded ends at checkpoint (xs ++ y ∷ [])) ≡ weight y
weights_ended ends at weight checkpoint xs y l drops =
    let left : _ → Bool = λ x. not (ends x y) in
    let all = ap (sum_by weight) (coded-push ends at checkpoint xs y l) ∙ sum-push weight (filter left (coded ends at checkpoint xs)) y in
    omega (arith, all, sum-none weight left drops (coded ends at checkpoint xs))

-- A later checkpoint makes the weights no greater.
pub weights_later : {X : Type 0} (ends : X → X → Bool) (at : X → ℕ) (weight : X → ℕ) (checkpoint later : ℕ) (xs : List X) → checkpoint ≤ later → sum_by weight (coded ends at later xs) ≤ sum_by weight (coded ends at checkpoint xs)
weights_later ends at weight checkpoint later xs l =
    let less = sum-filter weight (λ x. leb later (at x)) (coded ends at checkpoint xs) in
    rw (coded-later ends at checkpoint later xs l) at less
