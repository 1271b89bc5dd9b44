-- What counting the places gives: the numbers of Chapter N.
use Rattle.std.proofs.Common.{◌≡◌, ◌≢◌, ℕ, ◌+◌, ◌/◌, ◌<◌, Bool, true, false, cond, ◌&&◌, ◌||◌, eqb, List, [], ◌∷◌, length, fold, get_or, set, refl, sym, ap, ◌∙◌, arith, inl, inr, length-set, min, max}
use Rattle.std.specs.List.{list_any, cons_option}
use Rattle.std.proofs.Math.Bool.{or_assoc, or-false}
use Rattle.std.proofs.lemmas.Bool.{cases_Bool, eqb-true, eqb-false}
use Rattle.std.proofs.lemmas.List.Sums.{sum_by-cons}
use Rattle.std.proofs.lemmas.List.{get_or-set_same, get_or-set_other}
use Rattle.jm_cmds.specs.declared.history.Sent.{Sent}
use Rattle.jm_cmds.specs.Sent.{is_fresh}
use Rattle.ch_notes.specs.declared.events.NoteEvent.{NoteEvent}
use Rattle.ch_notes.specs.declared.events.NoteEvent.TheVariants.{Struck, Released, Cleared, Other}
use Rattle.ch_notes.specs.declared.shape.Shape.{Shape}
use Rattle.ch_notes.specs.NoteEvent.{event_at, IsWithin, AreWithin}
use Rattle.ch_notes.specs.Shape.{shape_step, counted}
use Rattle.ch_notes.specs.ChapterN.{is_struck, is_released, released_note, released, log_count}

step-logs : (s : Shape) (fresh : Bool) (event : NoteEvent) → (shape_step s fresh event).logs ≡ s.logs + cond (is_struck event) 1 0
step-logs s fresh (Struck note velocity) = refl
step-logs s fresh (Released note velocity) = omega arith
step-logs s fresh Cleared = omega arith
step-logs s fresh Other = omega arith

pub counted-logs : (channel packet : ℕ) (s : Shape) (places : List Sent) → (counted channel packet s places).logs ≡ s.logs + log_count channel places
counted-logs channel packet s [] = omega arith
counted-logs channel packet s (x ∷ xs) =
    let fresh = is_fresh packet x in
    let event = event_at channel x in
    let ih = counted-logs channel packet (shape_step s fresh event) xs in
    let step = step-logs s fresh event in
    let more = sum_by-cons (λ place. cond (is_struck (event_at channel place)) 1 0) x xs in
    omega (arith, ih, step, more)

step-off : (s : Shape) (fresh : Bool) (event : NoteEvent) (notes : List ℕ) → (shape_step s fresh event).off + length notes ≡ s.off + length (cons_option (released_note event) notes)
step-off s fresh (Struck note velocity) notes = refl
step-off s fresh (Released note velocity) notes = omega arith
step-off s fresh Cleared notes = refl
step-off s fresh Other notes = refl

pub counted-off : (channel packet : ℕ) (s : Shape) (places : List Sent) → (counted channel packet s places).off ≡ s.off + length (released channel places)
counted-off channel packet s [] = omega arith
counted-off channel packet s (x ∷ xs) =
    let fresh = is_fresh packet x in
    let event = event_at channel x in
    counted-off channel packet (shape_step s fresh event) xs ∙ step-off s fresh event (released channel xs)

step-low : (s : Shape) (fresh : Bool) (event : NoteEvent) (notes : List ℕ) → fold (λ low note. min low (note / 8)) (shape_step s fresh event).low notes ≡ fold (λ low note. min low (note / 8)) s.low (cons_option (released_note event) notes)
step-low s fresh (Struck note velocity) notes = refl
step-low s fresh (Released note velocity) notes = refl
step-low s fresh Cleared notes = refl
step-low s fresh Other notes = refl

pub counted-low : (channel packet : ℕ) (s : Shape) (places : List Sent) → (counted channel packet s places).low ≡ fold (λ low note. min low (note / 8)) s.low (released channel places)
counted-low channel packet s [] = refl
counted-low channel packet s (x ∷ xs) =
    let fresh = is_fresh packet x in
    let event = event_at channel x in
    counted-low channel packet (shape_step s fresh event) xs ∙ step-low s fresh event (released channel xs)

step-high : (s : Shape) (fresh : Bool) (event : NoteEvent) (notes : List ℕ) → fold (λ high note. max high (note / 8)) (shape_step s fresh event).high notes ≡ fold (λ high note. max high (note / 8)) s.high (cons_option (released_note event) notes)
step-high s fresh (Struck note velocity) notes = refl
step-high s fresh (Released note velocity) notes = refl
step-high s fresh Cleared notes = refl
step-high s fresh Other notes = refl

pub counted-high : (channel packet : ℕ) (s : Shape) (places : List Sent) → (counted channel packet s places).high ≡ fold (λ high note. max high (note / 8)) s.high (released channel places)
counted-high channel packet s [] = refl
counted-high channel packet s (x ∷ xs) =
    let fresh = is_fresh packet x in
    let event = event_at channel x in
    counted-high channel packet (shape_step s fresh event) xs ∙ step-high s fresh event (released channel xs)

step-fresh_off : (s : Shape) (fresh : Bool) (event : NoteEvent) → (shape_step s fresh event).fresh_off ≡ (s.fresh_off || (is_released event && fresh))
step-fresh_off s fresh (Struck note velocity) = sym (or-false s.fresh_off)
step-fresh_off s fresh (Released note velocity) = refl
step-fresh_off s fresh Cleared = sym (or-false s.fresh_off)
step-fresh_off s fresh Other = sym (or-false s.fresh_off)

pub counted-fresh_off : (channel packet : ℕ) (s : Shape) (places : List Sent) → (counted channel packet s places).fresh_off ≡ (s.fresh_off || list_any (λ place. is_released (event_at channel place) && is_fresh packet place) places)
counted-fresh_off channel packet s [] = sym (or-false s.fresh_off)
counted-fresh_off channel packet s (x ∷ xs) =
    let fresh = is_fresh packet x in
    let event = event_at channel x in
    let test : Sent → Bool = λ place. is_released (event_at channel place) && is_fresh packet place in
    counted-fresh_off channel packet (shape_step s fresh event) xs
    ∙ ap (λ b. b || list_any test xs) (step-fresh_off s fresh event)
    ∙ or_assoc s.fresh_off (is_released event && fresh) (list_any test xs)

step-marks : (s : Shape) (fresh : Bool) (event : NoteEvent) → length (shape_step s fresh event).released ≡ length s.released
step-marks s fresh (Struck note velocity) = refl
step-marks s fresh (Released note velocity) = length-set s.released note true
step-marks s fresh Cleared = refl
step-marks s fresh Other = refl

step-released : (s : Shape) (fresh : Bool) (event : NoteEvent) (notes : List ℕ) (n : ℕ) → IsWithin event → length s.released ≡ 128 →
    (get_or (shape_step s fresh event).released n false || list_any (λ m. eqb m n) notes) ≡ (get_or s.released n false || list_any (λ m. eqb m n) (cons_option (released_note event) notes))
step-released s fresh (Struck note velocity) notes n w l = refl
step-released s fresh (Released note velocity) notes n w l =
    let inside : note < length s.released = omega arith in
    elim (cases_Bool (eqb note n)) [
      | inl t ↦
          let same : get_or (set s.released note true) n false ≡ true = ap (λ k. get_or (set s.released note true) k false) (sym (eqb-true note n t)) ∙ get_or-set_same s.released note true false inside in
          rw (t, same) (sym (or_true (get_or s.released n false)))
      | inr f ↦
          let apart : n ≢ note = λ e. eqb-false note n f (sym e) in
          let other : get_or (set s.released note true) n false ≡ get_or s.released n false = get_or-set_other s.released note n true false apart in
          rw (f, other) refl
    ]
  where
    or_true : (a : Bool) → (a || true) ≡ true
    or_true true = refl
    or_true false = refl
step-released s fresh Cleared notes n w l = refl
step-released s fresh Other notes n w l = refl

pub counted-released : (channel packet : ℕ) (s : Shape) (places : List Sent) (n : ℕ) → AreWithin channel places → length s.released ≡ 128 →
    get_or (counted channel packet s places).released n false ≡ (get_or s.released n false || list_any (λ m. eqb m n) (released channel places))
counted-released channel packet s [] n w l = sym (or-false (get_or s.released n false))
counted-released channel packet s (x ∷ xs) n w l =
    let fresh = is_fresh packet x in
    let event = event_at channel x in
    counted-released channel packet (shape_step s fresh event) xs n w.1 (step-marks s fresh event ∙ l)
    ∙ step-released s fresh event (released channel xs) n w.0 l

step-fresh : (s : Shape) (is_new : Bool) (event : NoteEvent) → (shape_step s is_new event).fresh ≡ (s.fresh || ((is_struck event || is_released event) && is_new))
step-fresh s is_new (Struck note velocity) = refl
step-fresh s is_new (Released note velocity) = refl
step-fresh s is_new Cleared = sym (or-false s.fresh)
step-fresh s is_new Other = sym (or-false s.fresh)

pub counted-fresh : (channel packet : ℕ) (s : Shape) (places : List Sent) → (counted channel packet s places).fresh ≡ (s.fresh || list_any (λ place. (is_struck (event_at channel place) || is_released (event_at channel place)) && is_fresh packet place) places)
counted-fresh channel packet s [] = sym (or-false s.fresh)
counted-fresh channel packet s (x ∷ xs) =
    let is_new = is_fresh packet x in
    let event = event_at channel x in
    let test : Sent → Bool = λ place. (is_struck (event_at channel place) || is_released (event_at channel place)) && is_fresh packet place in
    counted-fresh channel packet (shape_step s is_new event) xs
    ∙ ap (λ b. b || list_any test xs) (step-fresh s is_new event)
    ∙ or_assoc s.fresh ((is_struck event || is_released event) && is_new) (list_any test xs)
