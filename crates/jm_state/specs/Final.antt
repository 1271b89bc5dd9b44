-- The laws of last writers: what the last of a list that speaks of a part says of it, through lists that are joined, mapped and
-- filtered, and through the places that no later one ends.
use Rattle.std.proofs.Common.{◌≡◌, ℕ, ◌≤◌, Bool, true, false, cond, ◌||◌, List, [], ◌∷◌, ◌++◌, Option, Some, None, eqb, fold, map, refl, sym, ap, ◌∙◌, inl, inr}
use Rattle.std.specs.List.{AllByRecursion, list_any, flat_map, filter}
use Rattle.std.proofs.lemmas.Bool.{cases_Bool}
use Rattle.jm_cmds.specs.History.{standing, below, since, coded, InOrder, Unended, scanned}
use Rattle.jm_cmds.specs.HistoryLaws.{AllByRecursion-weaker, all_unended, any_weaker, since-standing}
use Rattle.jm_state.specs.Says.{said, ended}
use Rattle.jm_state.specs.Replay.{over, said-over, latest, replay}

-- what the last of these that speaks of the part says of it
abbrev pub final : {X V : Type 0} → (X → Option (Option V)) → List X → Option (Option V)
final says [] = None
final says (x ∷ xs) = over (final says xs) (says x)

-- something is said
abbrev pub speaks : {V : Type 0} → Option (Option V) → Bool
speaks None = false
speaks (Some value) = true

-- ## One behind the other

pub over_none : {V : Type 0} (a : Option (Option V)) → over a None ≡ a
over_none None = refl
over_none (Some a) = refl

pub over_assoc : {V : Type 0} (a b c : Option (Option V)) → over a (over b c) ≡ over (over a b) c
over_assoc None b c = refl
over_assoc (Some a) b c = refl

pub over_self : {V : Type 0} (a : Option (Option V)) → over a a ≡ a
over_self None = refl
over_self (Some a) = refl

pub silent : {V : Type 0} (a : Option (Option V)) → (speaks a ≡ true → ⊥) → a ≡ None
silent None h = refl
silent (Some a) h = absurd (h refl)

-- two that are not both said may change places
pub over_swap : {V : Type 0} (a b : Option (Option V)) → (speaks a ≡ true → speaks b ≡ true → ⊥) → over a b ≡ over b a
over_swap None None h = refl
over_swap None (Some b) h = refl
over_swap (Some a) None h = refl
over_swap (Some a) (Some b) h = absurd (h refl refl)

pub over_ended : {V : Type 0} (a b : Bool) → over (ended {X = V} a) (ended b) ≡ ended (a || b)
over_ended true b = refl
over_ended false b = refl

-- ## Lists

pub final-append : {X V : Type 0} (says : X → Option (Option V)) (xs ys : List X) → final says (xs ++ ys) ≡ over (final says ys) (final says xs)
final-append says [] ys = sym (over_none (final says ys))
final-append says (x ∷ xs) ys =
    ap (λ o. over o (says x)) (final-append says xs ys) ∙ sym (over_assoc (final says ys) (final says xs) (says x))

pub final-flat_map : {X Y V : Type 0} (says : Y → Option (Option V)) (f : X → List Y) (xs : List X) → final says (flat_map f xs) ≡ final (λ x. final says (f x)) xs
final-flat_map says f [] = refl
final-flat_map says f (x ∷ xs) =
    final-append says (f x) (flat_map f xs) ∙ ap (λ o. over o (final says (f x))) (final-flat_map says f xs)

pub final-map : {X Y V : Type 0} (says : Y → Option (Option V)) (f : X → Y) (xs : List X) → final says (map f xs) ≡ final (λ x. says (f x)) xs
final-map says f [] = refl
final-map says f (x ∷ xs) = ap (λ o. over o (says (f x))) (final-map says f xs)

pub final-filter : {X V : Type 0} (says : X → Option (Option V)) (p : X → Bool) (xs : List X) → final says (filter p xs) ≡ final (λ x. cond (p x) (says x) None) xs
final-filter says p [] = refl
final-filter says p (x ∷ xs) =
    let ih = final-filter says p xs in
    elim (cases_Bool (p x)) [
      | inl t ↦ rw t (ap (λ o. over o (says x)) ih)
      | inr f ↦ rw f (ih ∙ sym (over_none (final (λ x. cond (p x) (says x) None) xs)))
    ]

-- each says the same
pub final-same : {X V : Type 0} (says others : X → Option (Option V)) → ((x : X) → says x ≡ others x) → (xs : List X) → final says xs ≡ final others xs
final-same says others h [] = refl
final-same says others h (x ∷ xs) =
    ap (λ o. over o (says x)) (final-same says others h xs) ∙ ap (over (final others xs)) (h x)

pub final-same_of : {X V : Type 0} (says others : X → Option (Option V)) (xs : List X) → AllByRecursion (λ x. says x ≡ others x) xs → final says xs ≡ final others xs
final-same_of says others [] h = refl
final-same_of says others (x ∷ xs) h =
    ap (λ o. over o (says x)) (final-same_of says others xs h.1) ∙ ap (over (final others xs)) h.0

pub final-none : {X V : Type 0} (says : X → Option (Option V)) (xs : List X) → AllByRecursion (λ x. says x ≡ None) xs → final says xs ≡ None
final-none says [] h = refl
final-none says (x ∷ xs) h = rw (h.0, final-none says xs h.1) refl

-- Of numbers, the others say nothing.
pub final-one : {V : Type 0} (says : ℕ → Option (Option V)) (n : ℕ) (ns : List ℕ) → ((k : ℕ) → eqb n k ≡ false → says k ≡ None) → ((k : ℕ) → eqb n k ≡ true → says k ≡ says n) → list_any (λ k. eqb n k) ns ≡ true → final says ns ≡ says n
final-one says n [] others own h = absurd (let f : false ≡ true = h in cc)
final-one says n (k ∷ ks) others own h =
    elim (cases_Bool (list_any (λ k. eqb n k) ks)) [
      | inl t ↦
          let ih = final-one says n ks others own t in
          elim (cases_Bool (eqb n k)) [
            | inl e ↦ rw (own k e) (ap (λ o. over o (says n)) ih ∙ over_self (says n))
            | inr f ↦ rw (others k f) (over_none (final says ks) ∙ ih)
          ]
      | inr n_later ↦
          let none : final says ks ≡ None = final-none says ks (AllByRecursion-weaker (λ k. eqb n k ≡ false) (λ k. says k ≡ None) others ks (all_unended (λ k. eqb n k) ks n_later)) in
          elim (cases_Bool (eqb n k)) [
            | inl e ↦ rw none (own k e)
            | inr f ↦ absurd (let b : false ≡ true = rw (f, n_later) at h in cc)
          ]
    ]

pub speaks-over : {V : Type 0} (a b : Option (Option V)) → speaks (over a b) ≡ (speaks b || speaks a)
speaks-over None None = refl
speaks-over None (Some b) = refl
speaks-over (Some a) None = refl
speaks-over (Some a) (Some b) = refl

pub speaks-final : {X V : Type 0} (says : X → Option (Option V)) (xs : List X) → speaks (final says xs) ≡ list_any (λ x. speaks (says x)) xs
speaks-final says [] = refl
speaks-final says (x ∷ xs) =
    speaks-over (final says xs) (says x) ∙ ap (λ b. speaks (says x) || b) (speaks-final says xs)

-- what ends the part ends it at any place
pub final-ended : {X V : Type 0} (test : X → Bool) (xs : List X) → final {V = V} (λ x. ended (test x)) xs ≡ ended (list_any test xs)
final-ended {V = V} test [] = refl
final-ended {V = V} test (x ∷ xs) =
    let ih = final-ended {V = V} test xs in
    elim (cases_Bool (test x)) [
      | inl t ↦ rw (t, ih) (elim (cases_Bool (list_any test xs)) [ inl a ↦ rw a refl | inr b ↦ rw b refl ])
      | inr f ↦ rw (f, ih) (over_none (ended (list_any test xs)))
    ]

-- ## Parts

-- the part behind a list is what was said last behind what it was
pub latest-final : {X V : Type 0} (says : X → Option (Option V)) (old : Option V) (xs : List X) → latest says old xs ≡ said (final says xs) old
latest-final says old [] = refl
latest-final says old (x ∷ xs) = latest-final says (said (says x) old) xs ∙ said-over (final says xs) (says x) old

-- a part of a state that each step says something of
pub fold-part : {S X V : Type 0} (IsWhole : S → Type 0) (step : S → X → S) (part : S → Option V) (says : X → Option (Option V)) →
    ((s : S) (x : X) → IsWhole s → IsWhole (step s x)) → ((s : S) (x : X) → IsWhole s → part (step s x) ≡ said (says x) (part s)) →
    (s : S) (xs : List X) → IsWhole s → part (fold step s xs) ≡ said (final says xs) (part s)
fold-part IsWhole step part says keeps law s [] is = refl
fold-part IsWhole step part says keeps law s (x ∷ xs) is =
    fold-part IsWhole step part says keeps law (step s x) xs (keeps s x is)
    ∙ ap (said (final says xs)) (law s x is)
    ∙ said-over (final says xs) (says x) (part s)

-- Where what the logs say is what the places from a packet on say, a part behind the places before another packet that isn't earlier
-- becomes that behind all places.
pub repaired_by : {X V : Type 0} (says : X → Option (Option V)) (at : X → ℕ) (from next : ℕ) (old : Option V) (xs : List X) (logs : Option (Option V)) → InOrder at xs → from ≤ next → logs ≡ final says (since at from xs) →
    said logs (said (final says (below at next xs)) old) ≡ said (final says xs) old
repaired_by says at from next old xs logs o l same =
    ap (λ (w : Option (Option _)). said w (said (final says (below at next xs)) old)) same
    ∙ ap (said (final says (since at from xs))) (sym (latest-final says old (below at next xs)))
    ∙ sym (latest-final says (latest says old (below at next xs)) (since at from xs))
    ∙ replay says at from next old xs o l
    ∙ latest-final says old xs

-- ## Stages

-- what is ended by a later place that speaks
passed : {V : Type 0} (w f a b c : Option (Option V)) → over a b ≡ c → (speaks w ≡ true → speaks c ≡ true) → over a (over b f) ≡ over c (over w f)
passed None f a b c e h = over_assoc a b f ∙ ap (λ o. over o f) e
passed (Some w) f a b None e h = absurd (let t : false ≡ true = h refl in cc)
passed (Some w) f a b (Some c) e h = over_assoc a b f ∙ ap (λ o. over o f) e

-- what stands, behind which the first stage says nothing
stood : {V : Type 0} (w f a b c : Option (Option V)) → over a b ≡ c → (speaks w ≡ true → b ≡ None) → over (over a w) (over b f) ≡ over c (over w f)
stood None f a b c e h = ap (λ o. over o (over b f)) (over_none a) ∙ over_assoc a b f ∙ ap (λ o. over o f) e
stood (Some w) f None None c e h = ap (λ o. over o (Some w)) e
stood (Some w) f None (Some b) c e h = absurd (let n : Some b ≡ None = h refl in cc)
stood (Some w) f (Some a) b c e h = ap (λ o. over o (Some w)) e

-- The standing places of a chapter speak behind an earlier stage that speaks of all places. What ends a place says something of the
-- part, and where the earlier stage speaks, it ends what the chapter said before.
pub final-standing : {X V : Type 0} (ends : X → X → Bool) (says first : X → Option (Option V)) →
    ((x y : X) → speaks (says x) ≡ true → ends x y ≡ true → speaks (over (says y) (first y)) ≡ true) →
    ((x y : X) → speaks (says x) ≡ true → speaks (first y) ≡ true → ends x y ≡ true) →
    (xs : List X) → over (final says (standing ends xs)) (final first xs) ≡ final (λ x. over (says x) (first x)) xs
final-standing ends says first covers clears [] = refl
final-standing ends says first covers clears (x ∷ xs) =
    let both : _ → Option (Option _) = λ y. over (says y) (first y) in
    let ih = final-standing ends says first covers clears xs in
    elim (cases_Bool (list_any (ends x) xs)) [
      | inl t ↦
          let later : speaks (says x) ≡ true → speaks (final both xs) ≡ true = λ h.
          speaks-final both xs ∙ any_weaker (ends x) (λ y. speaks (both y)) (λ y e. covers x y h e) xs t in
          rw t (passed (says x) (first x) (final says (standing ends xs)) (final first xs) (final both xs) ih later)
      | inr f ↦
          let none : speaks (says x) ≡ true → final first xs ≡ None = λ h.
          final-none first xs (AllByRecursion-weaker (λ y. ends x y ≡ false) (λ y. first y ≡ None)
          (λ y e. silent (first y) (λ s. let both_ways : true ≡ false = sym (clears x y h s) ∙ e in cc)) xs (all_unended (ends x) xs f)) in
          rw f (stood (says x) (first x) (final says (standing ends xs)) (final first xs) (final both xs) ih none)
    ]

-- the same from a packet on
pub final-coded : {X V : Type 0} (ends : X → X → Bool) (says first : X → Option (Option V)) →
    ((x y : X) → speaks (says x) ≡ true → ends x y ≡ true → speaks (over (says y) (first y)) ≡ true) →
    ((x y : X) → speaks (says x) ≡ true → speaks (first y) ≡ true → ends x y ≡ true) →
    (at : X → ℕ) (checkpoint : ℕ) (xs : List X) → InOrder at xs →
    over (final says (coded ends at checkpoint xs)) (final first (since at checkpoint xs)) ≡ final (λ x. over (says x) (first x)) (since at checkpoint xs)
final-coded ends says first covers clears at checkpoint xs o =
    ap (λ (ys : List _). over (final says ys) (final first (since at checkpoint xs))) (since-standing ends at checkpoint xs o)
    ∙ final-standing ends says first covers clears (since at checkpoint xs)

not_later : {X V : Type 0} (ends : X → X → Bool) (early : X → Option (Option V)) (x : X) (xs : List X) → AllByRecursion (λ y. ends x y ≡ false) xs → ((y : X) → speaks (early y) ≡ true → ends x y ≡ true) → final early xs ≡ None
not_later ends early x xs u h =
    final-none early xs (AllByRecursion-weaker (λ y. ends x y ≡ false) (λ y. early y ≡ None)
    (λ y e. silent (early y) (λ s. let both_ways : true ≡ false = sym (h y s) ∙ e in cc)) xs u)

apart : {V : Type 0} (l e a b : Option (Option V)) → (speaks l ≡ true → b ≡ None) → over (over a l) (over b e) ≡ over (over a b) (over l e)
apart None e a b h = ap (λ o. over o (over b e)) (over_none a) ∙ over_assoc a b e
apart (Some l) e None None h = refl
apart (Some l) e None (Some b) h = absurd (let n : Some b ≡ None = h refl in cc)
apart (Some l) e (Some a) b h = refl

-- Two stages that speak of one list of places, none of which ends another: where what the later stage says of a place would be ended
-- by a later place that the earlier stage speaks of, they are one stage.
pub final-stages : {X V : Type 0} (ends : X → X → Bool) (early late : X → Option (Option V)) → ((x y : X) → speaks (late x) ≡ true → speaks (early y) ≡ true → ends x y ≡ true) →
    (xs : List X) → Unended ends xs → over (final late xs) (final early xs) ≡ final (λ x. over (late x) (early x)) xs
final-stages ends early late h [] u = refl
final-stages ends early late h (x ∷ xs) u =
    apart (late x) (early x) (final late xs) (final early xs) (λ s. not_later ends early x xs u.0 (λ y t. h x y s t))
    ∙ ap (λ o. over o (over (late x) (early x))) (final-stages ends early late h xs u.1)

-- ## Data from before the places

pub fold-scanned : {S T X V : Type 0} (base : S → T) (base_step : T → X → T) (step : S → X → S) (part : S → Option V) (says : T × X → Option (Option V)) →
    ((s : S) (x : X) → base (step s x) ≡ base_step (base s) x) → ((s : S) (x : X) → part (step s x) ≡ said (says (base s, x)) (part s)) →
    (s : S) (xs : List X) → part (fold step s xs) ≡ said (final says (scanned base_step (base s) xs)) (part s)
fold-scanned base base_step step part says same law s [] = refl
fold-scanned base base_step step part says same law s (x ∷ xs) =
    fold-scanned base base_step step part says same law (step s x) xs
    ∙ ap (λ (t : _). said (final says (scanned base_step t xs)) (part (step s x))) (same s x)
    ∙ ap (said (final says (scanned base_step (base_step (base s) x) xs))) (law s x)
    ∙ said-over (final says (scanned base_step (base_step (base s) x) xs)) (says (base s, x)) (part s)
