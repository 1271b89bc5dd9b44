-- What a table keeps of one item: the packet and the event of the place that tells it, where that is coded.
use Rattle.std.proofs.Common.{◌≡◌, ℕ, ◌+◌, ◌<◌, ◌≤◌, Bool, true, false, not, cond, ◌&&◌, ◌||◌, List, [], ◌∷◌, ◌++◌, eqb, leb, refl, sym, ap, ◌∙◌, inl, inr, map, append-nil}
use Rattle.std.specs.List.{flat_map, list_any, AllByRecursion, filter}
use Rattle.std.proofs.lemmas.Bool.{cases_Bool, lt-ltb}
use Rattle.std.proofs.lemmas.List.Elements.{filter-append}
use Rattle.jm_cmds.specs.History.{coded, below}
use Rattle.jm_cmds.specs.HistoryLaws.{filter-swap, coded-push, coded-later}
use Rattle.jm_cmds.specs.OneItem.{replaced}
use Rattle.jm_cmds.specs.OnePlace.{Touching, any-told}

abbrev pub kept : {X E : Type 0} → (item touches : X → Bool) → (at : X → ℕ) → (event : X → E) → (checkpoint : ℕ) → List X → List (ℕ × E)
kept {X} {E} item touches at event checkpoint places = map {B = ℕ × E} (λ x. (at x, event x)) (filter item (coded (replaced item touches) at checkpoint places))

-- whether it went out in the packet before this one
abbrev pub kept_fresh : {E : Type 0} → (packet : ℕ) → ℕ × E → Bool
kept_fresh packet k = eqb (k.0 + 1) packet

-- those of packets from this one on
abbrev pub kept_since : {E : Type 0} → (packet : ℕ) → List (ℕ × E) → List (ℕ × E)
kept_since packet ks = filter (λ k. leb packet k.0) ks

-- All places are of packets before this one: what is below it is all.
pub all_below : {X : Type 0} (at : X → ℕ) (packet : ℕ) (places : List X) → AllByRecursion (λ x. at x < packet) places → below at packet places ≡ places
all_below at packet [] h = refl
all_below at packet (x ∷ xs) h = rw (lt-ltb (at x) packet h.0) (ap (λ l. x ∷ l) (all_below at packet xs h.1))

-- a place that touches the item leaves nothing of it
none_left : {X : Type 0} (item touches : X → Bool) (y : X) (places : List X) → touches y ≡ true → filter item (filter (λ x. not (item x && touches y)) places) ≡ []
none_left item touches y [] t = refl
none_left item touches y (x ∷ xs) t =
    let ih = none_left item touches y xs t in
    elim (cases_Bool (item x)) [ inl a ↦ rw (a, t) ih | inr b ↦ rw (b, b) ih ]

-- one that doesn't touch it leaves all
all_left : {X : Type 0} (item touches : X → Bool) (y : X) (places : List X) → touches y ≡ false → filter (λ x. not (item x && touches y)) places ≡ places
all_left item touches y [] f = refl
all_left item touches y (x ∷ xs) f =
    let ih = ap (λ (l : List _). x ∷ l) (all_left item touches y xs f) in
    elim (cases_Bool (item x)) [ inl a ↦ rw (a, f) ih | inr b ↦ rw b ih ]

untouched : {X : Type 0} (item touches : X → Bool) → Touching item touches → (y : X) → touches y ≡ false → item y ≡ false
untouched item touches touching y f =
    elim (cases_Bool (item y)) [ inl a ↦ absurd (both (touches y) (touching y a) f) | inr b ↦ b ]
  where
    both : (b : Bool) → b ≡ true → b ≡ false → ⊥
    both b t f = cc

-- One more place: where it touches the item, it is all that is kept, or nothing is.
pub kept-push : {X E : Type 0} (item touches : X → Bool) (at : X → ℕ) (event : X → E) → Touching item touches → (checkpoint : ℕ) (places : List X) (y : X) → checkpoint ≤ at y →
    kept item touches at event checkpoint (places ++ y ∷ []) ≡ cond (touches y) (cond (item y) ((at y, event y) ∷ []) []) (kept item touches at event checkpoint places)
kept-push {X} {E} item touches at event touching checkpoint places y l =
    let here : X → ℕ × E = λ x. (at x, event x) in
    let old = coded (replaced item touches) at checkpoint places in
    let pushed = ap (λ (xs : List X). map here (filter item xs)) (coded-push (replaced item touches) at checkpoint places y l)
    ∙ ap (map here) (filter-append item (filter (λ x. not (item x && touches y)) old) (y ∷ [])) in
    pushed ∙ elim (cases_Bool (touches y)) [
      | inl t ↦ rw (none_left item touches y old t, t) (elim (cases_Bool (item y)) [ inl a ↦ rw a refl | inr b ↦ rw b refl ])
      | inr f ↦ rw (all_left item touches y old f, f, untouched item touches touching y f) (ap (map here) (append-nil (filter item old)))
    ]

-- A later checkpoint keeps what is of a packet from it on.
pub kept-later : {X E : Type 0} (item touches : X → Bool) (at : X → ℕ) (event : X → E) (checkpoint later : ℕ) (places : List X) → checkpoint ≤ later →
    kept item touches at event later places ≡ kept_since later (kept item touches at event checkpoint places)
kept-later {X} {E} item touches at event checkpoint later places l =
    let here : X → ℕ × E = λ x. (at x, event x) in
    let old = coded (replaced item touches) at checkpoint places in
    ap (λ (xs : List X). map here (filter item xs)) (sym (coded-later (replaced item touches) at checkpoint later places l))
    ∙ ap (map here) (filter-swap item (λ x. leb later (at x)) old)
    ∙ mapped (filter item old)
  where
    mapped : (xs : List X) → map {B = ℕ × E} (λ x. (at x, event x)) (filter (λ x. leb later (at x)) xs) ≡ filter (λ k. leb later k.0) (map {B = ℕ × E} (λ x. (at x, event x)) xs)
    mapped [] = refl
    mapped (x ∷ xs) =
        let ih = mapped xs in
        elim (cases_Bool (leb later (at x))) [ inl t ↦ rw t (ap (λ (l : List (ℕ × E)). (at x, event x) ∷ l) ih) | inr f ↦ rw f ih ]

-- ## What the chapter says, by what is kept

pub kept-text : {X E Y : Type 0} (item touches : X → Bool) (at : X → ℕ) (event : X → E) (log : X → List Y) (text : ℕ × E → List Y) →
    ((x : X) → item x ≡ true → log x ≡ text (at x, event x)) → ((x : X) → item x ≡ false → log x ≡ []) → (checkpoint : ℕ) (places : List X) →
    flat_map log (coded (replaced item touches) at checkpoint places) ≡ flat_map text (kept item touches at event checkpoint places)
kept-text {X} {E} item touches at event log text agrees silent checkpoint places = along (coded (replaced item touches) at checkpoint places)
  where
    along : (xs : List X) → flat_map log xs ≡ flat_map text (map {B = ℕ × E} (λ x. (at x, event x)) (filter item xs))
    along [] = refl
    along (x ∷ xs) =
        let ih = along xs in
        elim (cases_Bool (item x)) [
          | inl t ↦ rw (t, agrees x t) (ap (λ l. text (at x, event x) ++ l) ih)
          | inr f ↦ rw (f, silent x f) ih
        ]

pub kept-any : {X E : Type 0} (item touches : X → Bool) (at : X → ℕ) (event : X → E) (packet checkpoint : ℕ) (places : List X) →
    list_any (λ x. item x && eqb (at x + 1) packet) (coded (replaced item touches) at checkpoint places) ≡ list_any (kept_fresh packet) (kept item touches at event checkpoint places)
kept-any {X} {E} item touches at event packet checkpoint places =
    let old = coded (replaced item touches) at checkpoint places in
    any-told item (λ x. eqb (at x + 1) packet) old ∙ mapped (filter item old)
  where
    mapped : (xs : List X) → list_any (λ x. eqb (at x + 1) packet) xs ≡ list_any (kept_fresh packet) (map {B = ℕ × E} (λ x. (at x, event x)) xs)
    mapped [] = refl
    mapped (x ∷ xs) = ap (λ b. eqb (at x + 1) packet || b) (mapped xs)
