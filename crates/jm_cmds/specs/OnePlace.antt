-- One item: some places tell it, and each later place that touches it ends them. One of them at most stands.
use Rattle.std.proofs.Common.{◌≡◌, Bool, true, false, not, cond, ◌&&◌, ◌||◌, List, [], ◌∷◌, ◌++◌, refl, ap, ◌∙◌, inl, inr}
use Rattle.std.specs.List.{flat_map, list_any, AllByRecursion, filter}
use Rattle.std.proofs.lemmas.Bool.{cases_Bool}
use Rattle.jm_cmds.specs.History.{standing, Unended}
use Rattle.jm_cmds.specs.HistoryLaws.{filter_none, AllByRecursion-weaker, AllByRecursion-standing, all_unended}
use Rattle.jm_cmds.specs.OneItem.{replaced, any-replaced}

-- whether the place tells the item, and no later one touches it
abbrev pub stands : {X : Type 0} → (item touches : X → Bool) → (place : X) → (later : List X) → Bool
stands item touches place later = item place && not (list_any touches later)

-- the place that tells the item and stands among these
unfoldable pub one_standing : {X : Type 0} → (item touches : X → Bool) → List X → List X
one_standing item touches places = filter item (standing (replaced item touches) places)

-- each place that tells the item touches it
abbrev pub Touching : {X : Type 0} → (item touches : X → Bool) → Type 0
Touching {X} item touches = (x : X) → item x ≡ true → touches x ≡ true

not_both : (b : Bool) → b ≡ true → b ≡ false → ⊥
not_both b t f = cc

untold : {X : Type 0} (item touches : X → Bool) → Touching item touches → (after : X) → touches after ≡ false → item after ≡ false
untold item touches touching after e =
    elim (cases_Bool (item after)) [ inl a ↦ absurd (not_both (touches after) (touching after a) e) | inr b ↦ b ]

pub none-behind : {X : Type 0} (item touches : X → Bool) → Touching item touches → (place : X) (later : List X) → item place ≡ true →
    AllByRecursion (λ after. replaced item touches place after ≡ false) later → filter item later ≡ []
none-behind item touches touching place later t h =
    filter_none item later
    (AllByRecursion-weaker (λ after. replaced item touches place after ≡ false) (λ after. item after ≡ false)
    (λ after e. untold item touches touching after (rw t at e)) later h)

-- one place more: passed over where it doesn't stand
standing-step : {X : Type 0} (item touches : X → Bool) (place : X) (later : List X) →
    one_standing item touches (place ∷ later)
    ≡ cond (list_any (replaced item touches place) later) (one_standing item touches later)
    (cond (item place) (place ∷ one_standing item touches later) (one_standing item touches later))
unfolding one_standing
standing-step item touches place later =
    elim (cases_Bool (list_any (replaced item touches place) later)) [ inl t ↦ rw t refl | inr f ↦ rw f refl ]

pub standing-none : {X : Type 0} (item touches : X → Bool) → one_standing item touches [] ≡ []
unfolding one_standing
standing-none item touches = refl

over : {Y : Type 0} (ended told : Bool) (x y : Y) → (told && not ended) ≡ false → cond (told && ended) y (cond told x y) ≡ y
over true true x y e = refl
over true false x y e = refl
over false true x y e = absurd cc
over false false x y e = refl

pub standing-over : {X : Type 0} (item touches : X → Bool) (place : X) (later : List X) → stands item touches place later ≡ false →
    one_standing item touches (place ∷ later) ≡ one_standing item touches later
standing-over item touches place later h =
    standing-step item touches place later
    ∙ rw (any-replaced item touches place later) (over (list_any touches later) (item place) (place ∷ one_standing item touches later) (one_standing item touches later) h)

found : (ended told : Bool) → (told && not ended) ≡ true → (ended ≡ false) × (told ≡ true)
found true true e = absurd cc
found true false e = absurd cc
found false true e = (refl, refl)
found false false e = absurd cc

-- one that stands is all that stands
pub standing-found : {X : Type 0} (item touches : X → Bool) → Touching item touches → (place : X) (later : List X) → stands item touches place later ≡ true →
    one_standing item touches (place ∷ later) ≡ place ∷ []
unfolding one_standing
standing-found item touches touching place later h =
    let parts = found (list_any touches later) (item place) h in
    let unended : list_any (replaced item touches place) later ≡ false = rw (parts.1, parts.0) at (any-replaced item touches place later) in
    let none = none-behind item touches touching place (standing (replaced item touches) later) parts.1
    (AllByRecursion-standing (λ after. replaced item touches place after ≡ false) (replaced item touches) later (all_unended (replaced item touches place) later unended)) in
    rw (unended, parts.1) (ap (λ l. place ∷ l) none)

-- ## One at most

pub data OneAtMost {X : Type 0} (xs : List X) : Type 0 where
  none : xs ≡ [] → OneAtMost xs
  one : (x : X) → xs ≡ x ∷ [] → OneAtMost xs

pub one-unended : {X : Type 0} (item touches : X → Bool) → Touching item touches → (places : List X) → Unended (replaced item touches) places → OneAtMost (filter item places)
one-unended item touches touching [] h = none refl
one-unended item touches touching (x ∷ xs) h =
    elim (cases_Bool (item x)) [
      | inl t ↦ rw t (one x (ap (λ l. x ∷ l) (none-behind item touches touching x xs t h.0)))
      | inr f ↦ rw f (one-unended item touches touching xs h.1)
    ]

-- ## What the places that don't tell the item say

-- nothing in a text
pub flat_map-told : {X Y : Type 0} (item : X → Bool) (log : X → List Y) → ((x : X) → item x ≡ false → log x ≡ []) → (places : List X) → flat_map log places ≡ flat_map log (filter item places)
flat_map-told item log silent [] = refl
flat_map-told item log silent (x ∷ xs) =
    let ih = flat_map-told item log silent xs in
    elim (cases_Bool (item x)) [ inl t ↦ rw t (ap (λ l. log x ++ l) ih) | inr f ↦ rw (f, silent x f) ih ]

-- nothing in a test that asks for the item
pub any-told : {X : Type 0} (item test : X → Bool) (places : List X) → list_any (λ x. item x && test x) places ≡ list_any test (filter item places)
any-told item test [] = refl
any-told item test (x ∷ xs) =
    let ih = any-told item test xs in
    elim (cases_Bool (item x)) [ inl t ↦ rw t (ap (λ b. test x || b) ih) | inr f ↦ rw f ih ]
