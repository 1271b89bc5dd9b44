-- What holds of every history, whatever ends what.
use Rattle.std.proofs.Common.{◌≡◌, ℕ, zero, suc, ◌+◌, ◌≤◌, ◌<◌, Bool, true, false, not, cond, ◌||◌, List, [], ◌∷◌, ◌++◌, Option, None, ltb, leb, eqb, fold, refl, ap, sym, ◌∙◌, arith, inl, inr, take, drop, length, append-nil}
use Rattle.std.specs.List.{flat_map, list_any, AllByRecursion, filter, filter_map, cons_option, AllWithin}
use Rattle.std.proofs.lemmas.Bool.{cases_Bool, ltb-true, ltb-false, leb-true, le-leb, lt-leb, or_parts, or_cases}
use Rattle.std.proofs.lemmas.Bool.Decides.{nat_tests}
use Rattle.std.proofs.lemmas.List.{take-append-drop, get_or-take, get_or-drop, length-take-le, length-drop}
use Rattle.std.proofs.lemmas.List.Elements.{filter-append, All-from_recursion, recursion_from_All}
use Rattle.std.specs.List.Sorted.{IsNonDecreasingBy, IsPartitionPoint}
use Rattle.std.proofs.lemmas.List.Folds.{list_any-append}
use Rattle.jm_cmds.specs.History.{standing, below, since, within, coded, InOrder, Unended, scanned}

-- ## What a filter keeps

pub filter_all : {X : Type 0} (p : X → Bool) (xs : List X) → AllByRecursion (λ x. p x ≡ true) xs → filter p xs ≡ xs
filter_all p [] h = refl
filter_all p (x ∷ xs) h = rw h.0 (ap (λ l. x ∷ l) (filter_all p xs h.1))

pub filter_none : {X : Type 0} (p : X → Bool) (xs : List X) → AllByRecursion (λ x. p x ≡ false) xs → filter p xs ≡ []
filter_none p [] h = refl
filter_none p (x ∷ xs) h = rw h.0 (filter_none p xs h.1)

-- a filter after a weaker one
pub filter-filter : {X : Type 0} (p q : X → Bool) (weaker : (x : X) → q x ≡ true → p x ≡ true) (xs : List X) → filter q (filter p xs) ≡ filter q xs
filter-filter p q weaker [] = refl
filter-filter p q weaker (x ∷ xs) =
    let ih = filter-filter p q weaker xs in
    elim (cases_Bool (p x)) [
      | inl t ↦ rw t (ap (λ l. cond (q x) (x ∷ l) l) ih)
      | inr f ↦ elim (cases_Bool (q x)) [
        | inl e ↦ absurd (true_not_false (p x) (weaker x e) f)
        | inr n ↦ rw (f, n) ih
      ]
    ]
  where
    true_not_false : (b : Bool) → b ≡ true → b ≡ false → ⊥
    true_not_false b t f = cc

pub filter-swap : {X : Type 0} (p q : X → Bool) (xs : List X) → filter p (filter q xs) ≡ filter q (filter p xs)
filter-swap p q [] = refl
filter-swap p q (x ∷ xs) =
    let ih = filter-swap p q xs in
    elim (cases_Bool (p x)) [
      | inl t ↦ elim (cases_Bool (q x)) [ inl a ↦ rw (t, a, t) (ap (λ l. x ∷ l) ih) | inr b ↦ rw (t, b) ih ]
      | inr f ↦ elim (cases_Bool (q x)) [ inl a ↦ rw (f, a, f) ih | inr b ↦ rw (f, b) ih ]
    ]

pub AllByRecursion-filter : {X : Type 0} (P : X → Type 0) (p : X → Bool) (xs : List X) → AllByRecursion P xs → AllByRecursion P (filter p xs)
AllByRecursion-filter P p [] h = tt
AllByRecursion-filter P p (x ∷ xs) h =
    let ih = AllByRecursion-filter P p xs h.1 in
    elim (cases_Bool (p x)) [ inl t ↦ rw t (h.0, ih) | inr f ↦ rw f ih ]

pub AllByRecursion-weaker : {X : Type 0} (P Q : X → Type 0) → ((x : X) → P x → Q x) → (xs : List X) → AllByRecursion P xs → AllByRecursion Q xs
AllByRecursion-weaker P Q w [] h = tt
AllByRecursion-weaker P Q w (x ∷ xs) h = (w x h.0, AllByRecursion-weaker P Q w xs h.1)

pub AllByRecursion-append : {X : Type 0} (P : X → Type 0) (xs ys : List X) → AllByRecursion P xs → AllByRecursion P ys → AllByRecursion P (xs ++ ys)
AllByRecursion-append P [] ys a b = b
AllByRecursion-append P (x ∷ xs) ys a b = (a.0, AllByRecursion-append P xs ys a.1 b)

-- ## The places that stand

-- One more place: what it ends goes, and it stands itself.
pub standing-push : {X : Type 0} (ends : X → X → Bool) (xs : List X) (y : X) → standing ends (xs ++ y ∷ []) ≡ filter (λ x. not (ends x y)) (standing ends xs) ++ y ∷ []
standing-push ends [] y = refl
standing-push ends (x ∷ xs) y =
    let ih = standing-push ends xs y in
    elim (cases_Bool (list_any (ends x) xs)) [
      | inl t ↦ rw (list_any-append (ends x) xs (y ∷ []), t) ih
      | inr f ↦ elim (cases_Bool (ends x y)) [
        | inl e ↦ rw (list_any-append (ends x) xs (y ∷ []), f, e) ih
        | inr n ↦ rw (list_any-append (ends x) xs (y ∷ []), f, n) (ap (λ l. x ∷ l) ih)
      ]
    ]

-- what holds of all places holds of those that stand
pub AllByRecursion-standing : {X : Type 0} (P : X → Type 0) (ends : X → X → Bool) (xs : List X) → AllByRecursion P xs → AllByRecursion P (standing ends xs)
AllByRecursion-standing P ends [] h = tt
AllByRecursion-standing P ends (x ∷ xs) h =
    let ih = AllByRecursion-standing P ends xs h.1 in
    elim (cases_Bool (list_any (ends x) xs)) [ inl t ↦ rw t ih | inr f ↦ rw f (h.0, ih) ]

pub all_unended : {X : Type 0} (p : X → Bool) (xs : List X) → list_any p xs ≡ false → AllByRecursion (λ x. p x ≡ false) xs
all_unended p [] h = tt
all_unended p (x ∷ xs) h =
    let both = or_parts (p x) (list_any p xs) h in
    (both.0, all_unended p xs both.1)

-- no place that stands is ended by a later one that stands: the items are distinct
pub Unended-standing : {X : Type 0} (ends : X → X → Bool) (xs : List X) → Unended ends (standing ends xs)
Unended-standing ends [] = tt
Unended-standing ends (x ∷ xs) =
    let ih = Unended-standing ends xs in
    elim (cases_Bool (list_any (ends x) xs)) [
      | inl t ↦ rw t ih
      | inr f ↦ rw f (AllByRecursion-standing (λ y. ends x y ≡ false) ends xs (all_unended (ends x) xs f), ih)
    ]

pub Unended-filter : {X : Type 0} (ends : X → X → Bool) (p : X → Bool) (xs : List X) → Unended ends xs → Unended ends (filter p xs)
Unended-filter ends p [] h = tt
Unended-filter ends p (x ∷ xs) h =
    let ih = Unended-filter ends p xs h.1 in
    elim (cases_Bool (p x)) [
      | inl t ↦ rw t (AllByRecursion-filter (λ y. ends x y ≡ false) p xs h.0, ih)
      | inr f ↦ rw f ih
    ]

pub any_weaker : {X : Type 0} (p q : X → Bool) → ((x : X) → p x ≡ true → q x ≡ true) → (xs : List X) → list_any p xs ≡ true → list_any q xs ≡ true
any_weaker p q w [] h = h
any_weaker p q w (x ∷ xs) h =
    elim (or_cases (p x) (list_any p xs) h) [
      | inl a ↦ rw (w x a) refl
      | inr b ↦ elim (cases_Bool (q x)) [ inl t ↦ rw t refl | inr f ↦ rw f (any_weaker p q w xs b) ]
    ]

-- a test that passes of what ends a place that passes
pub any-standing : {X : Type 0} (ends : X → X → Bool) (test : X → Bool) → ((x y : X) → test x ≡ true → ends x y ≡ true → test y ≡ true) → (xs : List X) → list_any test (standing ends xs) ≡ list_any test xs
any-standing ends test on [] = refl
any-standing ends test on (x ∷ xs) =
    let ih = any-standing ends test on xs in
    elim (cases_Bool (list_any (ends x) xs)) [
      | inl t ↦ elim (cases_Bool (test x)) [
        | inl a ↦ rw (t, a) (ih ∙ any_weaker (ends x) test (λ y e. on x y a e) xs t)
        | inr b ↦ rw (t, b) ih
      ]
      | inr f ↦ rw f (ap (λ (r : Bool). test x || r) ih)
    ]

-- Where each place that the lesser notion ends is ended by the greater one, which also ends what it left, standing by the greater
-- one asks only for what stands by the lesser.
pub standing-standing : {X : Type 0} (less more : X → X → Bool) → ((x y : X) → less x y ≡ true → more x y ≡ true) → ((x y z : X) → more x y ≡ true → less y z ≡ true → more x z ≡ true) →
    (xs : List X) → standing more (standing less xs) ≡ standing more xs
standing-standing less more weaker on [] = refl
standing-standing less more weaker on (x ∷ xs) =
    let ih = standing-standing less more weaker on xs in
    elim (cases_Bool (list_any (less x) xs)) [
      | inl t ↦ rw (t, any_weaker (less x) (more x) (weaker x) xs t) ih
      | inr f ↦ rw (f, any-standing less (more x) (on x) xs) (ap (λ (r : List _). cond (list_any (more x) xs) r (x ∷ r)) ih)
    ]

-- ## Order

pub InOrder-filter : {X : Type 0} (at : X → ℕ) (p : X → Bool) (xs : List X) → InOrder at xs → InOrder at (filter p xs)
InOrder-filter at p [] h = tt
InOrder-filter at p (x ∷ xs) h =
    let ih = InOrder-filter at p xs h.1 in
    elim (cases_Bool (p x)) [
      | inl t ↦ rw t (AllByRecursion-filter (λ y. at x ≤ at y) p xs h.0, ih)
      | inr f ↦ rw f ih
    ]

-- two lists in order, where a number divides them
pub InOrder-append : {X : Type 0} (at : X → ℕ) (between : ℕ) (xs ys : List X) → InOrder at xs → AllByRecursion (λ x. at x ≤ between) xs → AllByRecursion (λ y. between ≤ at y) ys → InOrder at ys → InOrder at (xs ++ ys)
InOrder-append at between [] ys front below above back = back
InOrder-append at between (x ∷ xs) ys front below above back =
    let after_x = AllByRecursion-weaker (λ y. between ≤ at y) (λ y. at x ≤ at y) (λ y l. omega (arith, below.0)) ys above in
    (AllByRecursion-append (λ y. at x ≤ at y) xs ys front.0 after_x, InOrder-append at between xs ys front.1 below.1 above back)

-- the places that stand are in the order of their packets, or of any other number: oldest first
pub InOrder-standing : {X : Type 0} (at : X → ℕ) (ends : X → X → Bool) (xs : List X) → InOrder at xs → InOrder at (standing ends xs)
InOrder-standing at ends [] h = tt
InOrder-standing at ends (x ∷ xs) h =
    let ih = InOrder-standing at ends xs h.1 in
    elim (cases_Bool (list_any (ends x) xs)) [
      | inl t ↦ rw t ih
      | inr f ↦ rw f (AllByRecursion-standing (λ y. at x ≤ at y) ends xs h.0, ih)
    ]

-- from a packet on that none of the places is before, all are left
pub since_all : {X : Type 0} (at : X → ℕ) (p : ℕ) (xs : List X) → AllByRecursion (λ x. p ≤ at x) xs → since at p xs ≡ xs
since_all at p xs h = filter_all (λ x. leb p (at x)) xs (AllByRecursion-weaker (λ x. p ≤ at x) (λ x. leb p (at x) ≡ true) (λ x l. le-leb p (at x) l) xs h)

-- What a journal codes depends on the packets from the checkpoint on alone.
pub since-standing : {X : Type 0} (ends : X → X → Bool) (at : X → ℕ) (p : ℕ) (xs : List X) → InOrder at xs → since at p (standing ends xs) ≡ standing ends (since at p xs)
since-standing ends at p [] h = refl
since-standing ends at p (x ∷ xs) h =
    let ih = since-standing ends at p xs h.1 in
    elim (cases_Bool (leb p (at x))) [
      | inl t ↦
          let from : p ≤ at x = leb-true p (at x) t in
          let later = AllByRecursion-weaker (λ y. at x ≤ at y) (λ y. p ≤ at y) (λ y l. omega arith) xs h.0 in
          let all : AllByRecursion (λ y. p ≤ at y) (x ∷ xs) = (from, later) in
          since_all at p (standing ends (x ∷ xs)) (AllByRecursion-standing (λ y. p ≤ at y) ends (x ∷ xs) all)
          ∙ ap (standing ends) (sym (since_all at p (x ∷ xs) all))
      | inr f ↦ elim (cases_Bool (list_any (ends x) xs)) [
        | inl e ↦ rw (e, f) ih
        | inr n ↦ rw (n, f) ih
      ]
    ]

-- A greater checkpoint keeps of what is coded the places in packets from it on.
pub coded-later : {X : Type 0} (ends : X → X → Bool) (at : X → ℕ) (p q : ℕ) (xs : List X) → p ≤ q → since at q (coded ends at p xs) ≡ coded ends at q xs
coded-later ends at p q xs l =
    filter-filter (λ x. leb p (at x)) (λ x. leb q (at x)) (λ x e. let h : q ≤ at x = leb-true q (at x) e in le-leb p (at x) (omega arith)) (standing ends xs)

-- What the last packet brought is what a journal with that packet as its checkpoint codes.
pub since_last : {X : Type 0} (at : X → ℕ) (p : ℕ) (xs : List X) → AllByRecursion (λ x. at x ≤ p) xs → since at p xs ≡ within at p xs
since_last at p [] h = refl
since_last at p (x ∷ xs) h =
    let ih = since_last at p xs h.1 in
    elim (cases_Bool (eqb (at x) p)) [
      | inl t ↦ let l : leb p (at x) ≡ true = grind (arith, nat_tests, h.0) in rw (t, l) (ap (λ k. x ∷ k) ih)
      | inr f ↦ let l : leb p (at x) ≡ false = grind (arith, nat_tests, h.0) in rw (f, l) ih
    ]

pub All-below : {X : Type 0} (at : X → ℕ) (p : ℕ) (xs : List X) → AllByRecursion (λ x. at x < p) (below at p xs)
All-below at p [] = tt
All-below at p (x ∷ xs) =
    let ih = All-below at p xs in
    elim (cases_Bool (ltb (at x) p)) [ inl t ↦ rw t (ltb-true (at x) p t, ih) | inr f ↦ rw f ih ]

-- ## What is coded

pub Unended-coded : {X : Type 0} (ends : X → X → Bool) (at : X → ℕ) (p : ℕ) (xs : List X) → Unended ends (coded ends at p xs)
Unended-coded ends at p xs = Unended-filter ends (λ x. leb p (at x)) (standing ends xs) (Unended-standing ends xs)

pub InOrder-coded : {X : Type 0} (number_of : X → ℕ) (ends : X → X → Bool) (at : X → ℕ) (p : ℕ) (xs : List X) → InOrder number_of xs → InOrder number_of (coded ends at p xs)
InOrder-coded number_of ends at p xs h =
    InOrder-filter number_of (λ x. leb p (at x)) (standing ends xs) (InOrder-standing number_of ends xs h)

pub coded_fresh : {X : Type 0} (ends : X → X → Bool) (at : X → ℕ) (p last : ℕ) (xs : List X) → p ≤ last → within at last (coded ends at p (below at (last + 1) xs)) ≡ coded ends at last (below at (last + 1) xs)
coded_fresh ends at p last xs l =
    let seen = below at (last + 1) xs in
    let none_later = AllByRecursion-weaker (λ x. at x < last + 1) (λ x. at x ≤ last) (λ x h. omega arith) seen (All-below at (last + 1) xs) in
    let coded_too = AllByRecursion-filter (λ x. at x ≤ last) (λ x. leb p (at x)) (standing ends seen) (AllByRecursion-standing (λ x. at x ≤ last) ends seen none_later) in
    sym (since_last at last (coded ends at p seen) coded_too) ∙ coded-later ends at p last seen l

-- ## A history cut at a packet

pub IsNonDecreasingBy-from_InOrder : {X : Type 0} (at : X → ℕ) (xs : List X) → InOrder at xs → IsNonDecreasingBy at xs
IsNonDecreasingBy-from_InOrder at [] h i j d l m = absurd (omega arith)
IsNonDecreasingBy-from_InOrder at (x ∷ xs) h zero zero d l m = omega arith
IsNonDecreasingBy-from_InOrder at (x ∷ xs) h zero (suc j) d l m =
    All-from_recursion (λ y. at x ≤ at y) xs h.0 j d (omega arith)
IsNonDecreasingBy-from_InOrder at (x ∷ xs) h (suc i) zero d l m = absurd (omega arith)
IsNonDecreasingBy-from_InOrder at (x ∷ xs) h (suc i) (suc j) d l m =
    IsNonDecreasingBy-from_InOrder at xs h.1 i j d (omega arith) (omega arith)

all_front : {X : Type 0} (P : X → Type 0) (i : ℕ) (xs : List X) → AllWithin P xs 0 i → i ≤ length xs → AllByRecursion P (take i xs)
all_front P i xs a l =
    recursion_from_All P (take i xs)
    (λ k d m. let k_in : k < i = (let e = length-take-le i xs l in omega arith) in rw (get_or-take i xs k d k_in) (a k d (omega arith) k_in))

all_back : {X : Type 0} (P : X → Type 0) (i : ℕ) (xs : List X) → AllWithin P xs i (length xs) → AllByRecursion P (drop i xs)
all_back P i xs b =
    recursion_from_All P (drop i xs)
    (λ k d m. rw (get_or-drop i xs k d) (b (i + k) d (omega arith) (let e = length-drop i xs in omega arith)))

-- Where the places before i are in packets before p and the others aren't, i cuts the list at p.
pub below-cut : {X : Type 0} (at : X → ℕ) (p i : ℕ) (xs : List X) → IsPartitionPoint (λ x. ltb (at x) p ≡ true) (λ x. ltb (at x) p ≡ false) xs i → i ≤ length xs → take i xs ≡ below at p xs
below-cut at p i xs c l =
    let early : _ → Bool = λ x. ltb (at x) p in
    let front = all_front (λ x. early x ≡ true) i xs c.0 l in
    let back = all_back (λ x. early x ≡ false) i xs c.1 in
    sym (ap (filter early) (sym (take-append-drop i xs))
    ∙ filter-append early (take i xs) (drop i xs)
    ∙ rw (filter_all early (take i xs) front, filter_none early (drop i xs) back) (append-nil (take i xs)))

pub since-cut : {X : Type 0} (at : X → ℕ) (p i : ℕ) (xs : List X) → IsPartitionPoint (λ x. ltb (at x) p ≡ true) (λ x. ltb (at x) p ≡ false) xs i → i ≤ length xs → drop i xs ≡ since at p xs
since-cut at p i xs c l =
    let late : _ → Bool = λ x. leb p (at x) in
    let front = AllByRecursion-weaker (λ x. ltb (at x) p ≡ true) (λ x. late x ≡ false) (λ x e. lt-leb p (at x) (ltb-true (at x) p e)) (take i xs) (all_front (λ x. ltb (at x) p ≡ true) i xs c.0 l) in
    let back = AllByRecursion-weaker (λ x. ltb (at x) p ≡ false) (λ x. late x ≡ true) (λ x e. le-leb p (at x) (ltb-false (at x) p e)) (drop i xs) (all_back (λ x. ltb (at x) p ≡ false) i xs c.1) in
    sym (ap (filter late) (sym (take-append-drop i xs))
    ∙ filter-append late (take i xs) (drop i xs)
    ∙ rw (filter_none late (take i xs) front, filter_all late (drop i xs) back) refl)

-- ## Folds over the places that stand

-- One place at a time: it is passed over where a later one ends it.
pub fold-standing : {S X : Type 0} (ends : X → X → Bool) (step : S → X → S) (s : S) (x : X) (xs : List X) → fold step s (standing ends (x ∷ xs)) ≡ fold step (cond (list_any (ends x) xs) s (step s x)) (standing ends xs)
fold-standing ends step s x xs =
    elim (cases_Bool (list_any (ends x) xs)) [ inl t ↦ rw t refl | inr f ↦ rw f refl ]

pub flat_map-standing : {X Y : Type 0} (ends : X → X → Bool) (text : X → List Y) (x : X) (xs : List X) → flat_map text (standing ends (x ∷ xs)) ≡ cond (list_any (ends x) xs) [] (text x) ++ flat_map text (standing ends xs)
flat_map-standing ends text x xs =
    elim (cases_Bool (list_any (ends x) xs)) [ inl t ↦ rw t refl | inr f ↦ rw f refl ]

-- ## One place more of what is coded

-- a place is passed over where a later one ends it, or where it is older than the checkpoint
pub flat_map-coded : {X Y : Type 0} (ends : X → X → Bool) (at : X → ℕ) (checkpoint : ℕ) (text : X → List Y) (x : X) (xs : List X) → flat_map text (coded ends at checkpoint (x ∷ xs)) ≡ cond (list_any (ends x) xs) [] (cond (leb checkpoint (at x)) (text x) []) ++ flat_map text (coded ends at checkpoint xs)
flat_map-coded ends at checkpoint text x xs =
    elim (cases_Bool (list_any (ends x) xs)) [
      | inl t ↦ rw t refl
      | inr f ↦ elim (cases_Bool (leb checkpoint (at x))) [ inl l ↦ rw (f, l) refl | inr n ↦ rw (f, n) refl ]
    ]

pub fold-coded : {S X : Type 0} (ends : X → X → Bool) (at : X → ℕ) (checkpoint : ℕ) (step : S → X → S) (s : S) (x : X) (xs : List X) → fold step s (coded ends at checkpoint (x ∷ xs)) ≡ fold step (cond (list_any (ends x) xs) s (cond (leb checkpoint (at x)) (step s x) s)) (coded ends at checkpoint xs)
fold-coded ends at checkpoint step s x xs =
    elim (cases_Bool (list_any (ends x) xs)) [
      | inl t ↦ rw t refl
      | inr f ↦ elim (cases_Bool (leb checkpoint (at x))) [ inl l ↦ rw (f, l) refl | inr n ↦ rw (f, n) refl ]
    ]

pub filter_map-coded : {X Y : Type 0} (ends : X → X → Bool) (at : X → ℕ) (checkpoint : ℕ) (f : X → Option Y) (x : X) (xs : List X) →
    filter_map f (coded ends at checkpoint (x ∷ xs)) ≡ cons_option (cond (list_any (ends x) xs) None (cond (leb checkpoint (at x)) (f x) None)) (filter_map f (coded ends at checkpoint xs))
filter_map-coded ends at checkpoint f x xs =
    elim (cases_Bool (list_any (ends x) xs)) [
      | inl t ↦ rw t refl
      | inr n ↦ elim (cases_Bool (leb checkpoint (at x))) [ inl l ↦ rw (n, l) refl | inr o ↦ rw (n, o) refl ]
    ]

pub any-coded : {X : Type 0} (ends : X → X → Bool) (at : X → ℕ) (checkpoint : ℕ) (test : X → Bool) (x : X) (xs : List X) → list_any test (coded ends at checkpoint (x ∷ xs)) ≡ cond (list_any (ends x) xs) false (cond (leb checkpoint (at x)) (test x) false) || list_any test (coded ends at checkpoint xs)
any-coded ends at checkpoint test x xs =
    elim (cases_Bool (list_any (ends x) xs)) [
      | inl t ↦ rw t refl
      | inr f ↦ elim (cases_Bool (leb checkpoint (at x))) [ inl l ↦ rw (f, l) refl | inr n ↦ rw (f, n) refl ]
    ]

-- One more command: what it ends is no longer coded, and it is coded itself.
pub coded-push : {X : Type 0} (ends : X → X → Bool) (at : X → ℕ) (checkpoint : ℕ) (xs : List X) (y : X) → checkpoint ≤ at y → coded ends at checkpoint (xs ++ y ∷ []) ≡ filter (λ x. not (ends x y)) (coded ends at checkpoint xs) ++ y ∷ []
coded-push ends at checkpoint xs y l =
    let late : _ → Bool = λ x. leb checkpoint (at x) in
    let left : _ → Bool = λ x. not (ends x y) in
    ap (filter late) (standing-push ends xs y)
    ∙ filter-append late (filter left (standing ends xs)) (y ∷ [])
    ∙ rw (le-leb checkpoint (at y) l) (ap (λ (k : List _). k ++ y ∷ []) (filter-swap late left (standing ends xs)))

-- ## States along a history

-- a test that looks at the places alone
pub any-scanned : {S X : Type 0} (step : S → X → S) (test : X → Bool) (s : S) (xs : List X) → list_any (λ p. test p.1) (scanned step s xs) ≡ list_any test xs
any-scanned step test s [] = refl
any-scanned step test s (x ∷ xs) = ap (λ b. test x || b) (any-scanned step test (step s x) xs)

pub scanned-push : {S X : Type 0} (step : S → X → S) (s : S) (xs : List X) (y : X) → scanned step s (xs ++ y ∷ []) ≡ scanned step s xs ++ (fold step s xs, y) ∷ []
scanned-push step s [] y = refl
scanned-push step s (x ∷ xs) y = ap (λ l. (s, x) ∷ l) (scanned-push step (step s x) xs y)

-- what holds of each place holds of it with the state before it
pub AllByRecursion-scanned : {S X : Type 0} (P : X → Type 0) (step : S → X → S) (s : S) (xs : List X) → AllByRecursion P xs → AllByRecursion (λ p. P p.1) (scanned step s xs)
AllByRecursion-scanned P step s [] h = tt
AllByRecursion-scanned P step s (x ∷ xs) h = (h.0, AllByRecursion-scanned P step (step s x) xs h.1)

pub InOrder-scanned : {S X : Type 0} (number_of : X → ℕ) (step : S → X → S) (s : S) (xs : List X) → InOrder number_of xs → InOrder (λ p. number_of p.1) (scanned step s xs)
InOrder-scanned number_of step s [] h = tt
InOrder-scanned number_of step s (x ∷ xs) h =
    (AllByRecursion-scanned (λ y. number_of x ≤ number_of y) step (step s x) xs h.0, InOrder-scanned number_of step (step s x) xs h.1)

-- What is coded of places with the state before each of them stands oldest first, and is of distinct items.
pub record IsCodedWell {X : Type 0} (number_of : X → ℕ) (ends : X → X → Bool) (coded : List X) : Type 0 where
  pub oldest_first : InOrder number_of coded
  pub distinct : Unended ends coded

pub coded-scanned : {S X : Type 0} (number_of : X → ℕ) (step : S → X → S) (ends : S × X → S × X → Bool) (at : S × X → ℕ) (s : S) (checkpoint : ℕ) (xs : List X) → InOrder number_of xs
    → IsCodedWell (λ p. number_of p.1) ends (coded ends at checkpoint (scanned step s xs))
coded-scanned number_of step ends at s checkpoint xs h = record {
  oldest_first = InOrder-coded (λ p. number_of p.1) ends at checkpoint (scanned step s xs) (InOrder-scanned number_of step s xs h);
  distinct = Unended-coded ends at checkpoint (scanned step s xs);
}
