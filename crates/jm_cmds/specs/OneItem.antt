-- A chapter with one item keeps the last log while it goes along the history. What is left at the end is
-- what the places that stand say.
use Rattle.std.proofs.Common.{◌≡◌, ℕ, Bool, true, false, cond, ◌&&◌, ◌||◌, List, [], ◌∷◌, ◌++◌, fold, refl, sym, ap, ◌∙◌, inl, inr, leb, append-nil}
use Rattle.std.specs.List.{flat_map, list_any}
use Rattle.std.proofs.lemmas.Bool.{cases_Bool}
use Rattle.jm_cmds.specs.History.{standing, since}
use Rattle.jm_cmds.specs.HistoryLaws.{flat_map-standing}

-- an item's place is ended by each later one that touches the item
abbrev pub replaced : {X : Type 0} → (X → Bool) → (X → Bool) → X → X → Bool
replaced item touches x y = item x && touches y

pub any-replaced : {X : Type 0} (item touches : X → Bool) (x : X) (xs : List X) → list_any (replaced item touches x) xs ≡ (item x && list_any touches xs)
any-replaced item touches x [] = elim (cases_Bool (item x)) [ inl t ↦ rw t refl | inr f ↦ rw f refl ]
any-replaced item touches x (y ∷ ys) =
    let ih = any-replaced item touches x ys in
    elim (cases_Bool (item x)) [ inl t ↦ rw t (ap (λ b. touches y || b) (rw t at ih)) | inr f ↦ rw f (rw f at ih) ]

-- One step along the history: what is kept is passed on or becomes what the place says. `text` reads what
-- is kept, and `log` the place.
pub record KeepsLast {S X Y : Type 0} (item touches : X → Bool) (step : S → X → S) (text : S → List Y) (log : X → List Y) : Type 0 where
  pub passes : (s : S) (x : X) → touches x ≡ false → step s x ≡ s
  pub takes : (s : S) (x : X) → touches x ≡ true → text (step s x) ≡ log x
  pub silent : (x : X) → item x ≡ false → log x ≡ []
  pub touching : (x : X) → item x ≡ true → touches x ≡ true

no_choice : {Y : Type 0} (b : Bool) (xs : List Y) → cond b [] [] ++ xs ≡ xs
no_choice true xs = refl
no_choice false xs = refl

along : {S X Y : Type 0} (item touches : X → Bool) (step : S → X → S) (text : S → List Y) (log : X → List Y) →
    KeepsLast item touches step text log → (s : S) (xs : List X) →
    text (fold step s xs) ≡ cond (list_any touches xs) [] (text s) ++ flat_map log (standing (replaced item touches) xs)
along item touches step text log k s [] = sym (append-nil (text s))
along item touches step text log k s (x ∷ xs) =
    let later = list_any touches xs in
    let rest = flat_map log (standing (replaced item touches) xs) in
    let ih = along item touches step text log k (step s x) xs in
    let split = flat_map-standing (replaced item touches) log x xs in
    let ended = any-replaced item touches x xs in
    elim (cases_Bool (item x)) [
      | inl i ↦
          let t = k.touching x i in
          let e : list_any (replaced item touches x) xs ≡ later = rw i at ended in
          rw (t, split, e) (ih ∙ ap (λ l. cond later [] l ++ rest) (k.takes s x t))
      | inr n ↦
          let none = k.silent x n in
          let e : list_any (replaced item touches x) xs ≡ false = rw n at ended in
          elim (cases_Bool (touches x)) [
            | inl t ↦ rw (t, split, e, none) (ih ∙ ap (λ l. cond later [] l ++ rest) (k.takes s x t ∙ none) ∙ no_choice later rest)
            | inr f ↦ rw (f, split, e, none) (ih ∙ ap (λ l. cond later [] (text l) ++ rest) (k.passes s x f))
          ]
    ]

-- What is left of nothing is what the places that stand say.
pub text-kept : {S X Y : Type 0} (item touches : X → Bool) (step : S → X → S) (text : S → List Y) (log : X → List Y) →
    KeepsLast item touches step text log → (s : S) (xs : List X) → text s ≡ [] →
    text (fold step s xs) ≡ flat_map log (standing (replaced item touches) xs)
text-kept item touches step text log k s xs none =
    along item touches step text log k s xs
    ∙ ap (λ l. cond (list_any touches xs) [] l ++ flat_map log (standing (replaced item touches) xs)) none
    ∙ no_choice (list_any touches xs) (flat_map log (standing (replaced item touches) xs))

-- ## A test in the place of a text

-- a list that shows whether the test holds
abbrev pub mark : Bool → List Bool
mark b = cond b (true ∷ []) []

abbrev is_some : List Bool → Bool
is_some [] = false
is_some (b ∷ bs) = true

marked : (b : Bool) → is_some (mark b) ≡ b
marked true = refl
marked false = refl

any-marked : {X : Type 0} (test : X → Bool) (xs : List X) → is_some (flat_map (λ x. mark (test x)) xs) ≡ list_any test xs
any-marked test [] = refl
any-marked test (x ∷ xs) = elim (cases_Bool (test x)) [ inl t ↦ rw t refl | inr f ↦ rw f (any-marked test xs) ]

pub fresh-kept : {S X : Type 0} (item touches : X → Bool) (step : S → X → S) (fresh : S → Bool) (test : X → Bool) →
    KeepsLast item touches step (λ s. mark (fresh s)) (λ x. mark (test x)) → (s : S) (xs : List X) → fresh s ≡ false →
    fresh (fold step s xs) ≡ list_any test (standing (replaced item touches) xs)
fresh-kept item touches step fresh test k s xs none =
    sym (marked (fresh (fold step s xs)))
    ∙ ap is_some (text-kept item touches step (λ s. mark (fresh s)) (λ x. mark (test x)) k s xs (ap mark none))
    ∙ any-marked test (standing (replaced item touches) xs)

-- ## From the checkpoint on

pub flat_map-since : {X Y : Type 0} (at : X → ℕ) (checkpoint : ℕ) (log : X → List Y) (xs : List X) → flat_map log (since at checkpoint xs) ≡ flat_map (λ x. cond (leb checkpoint (at x)) (log x) []) xs
flat_map-since at checkpoint log [] = refl
flat_map-since at checkpoint log (x ∷ xs) =
    let ih = flat_map-since at checkpoint log xs in
    elim (cases_Bool (leb checkpoint (at x))) [ inl t ↦ rw t (ap (λ l. log x ++ l) ih) | inr f ↦ rw f ih ]

pub any-since : {X : Type 0} (at : X → ℕ) (checkpoint : ℕ) (test : X → Bool) (xs : List X) → list_any test (since at checkpoint xs) ≡ list_any (λ x. leb checkpoint (at x) && test x) xs
any-since at checkpoint test [] = refl
any-since at checkpoint test (x ∷ xs) =
    let ih = any-since at checkpoint test xs in
    elim (cases_Bool (leb checkpoint (at x))) [ inl t ↦ rw t (ap (λ b. test x || b) ih) | inr f ↦ rw f ih ]
