-- The turns of one pass in a history.
use Rattle.std.proofs.Common.{◌≡◌, ◌≢◌, ◌⊎◌, ℕ, suc, ◌+◌, Bool, true, false, ◌==◌, if◌then◌else◌, List, [], ◌∷◌, ◌++◌, length, refl, sym, ap, ◌∙◌, inl, inr, arith, eq-eqb, length-append}
use Rattle.std.proofs.lemmas.Bool.{cases_Bool}
use Rattle.std.proofs.lemmas.Bool.Decides.{nat_tests}
use Rattle.jm_turn.specs.declared.view.Made.{Made}
use Rattle.jm_turn.specs.Turns.{made, places, AllOthers, Begins, Follows}
use Rattle.jm_turn.specs.declared.view.View.{View}
use Rattle.jm_turn.specs.Rule.{EndedOwn}
use Rattle.jm_turn.specs.Closing.{Accounts}
use Rattle.jm_desk.specs.declared.turn.DeskTurn.{DeskTurn}
use Rattle.jm_desk.specs.declared.held.Held.{Held}

-- the turns of pass n, in order
abbrev pub turns_by : ℕ → List (Made DeskTurn) → List DeskTurn
turns_by n [] = []
turns_by n (m ∷ turns) = if m.by == n then m.what ∷ turns_by n turns else turns_by n turns

own_first : (b : Bool) (what : DeskTurn) (xs ys : List DeskTurn) → (if b then what ∷ (xs ++ ys) else xs ++ ys) ≡ (if b then what ∷ xs else xs) ++ ys
own_first true what xs ys = refl
own_first false what xs ys = refl

pub turns_by-append : (n : ℕ) (xs ys : List (Made DeskTurn)) → turns_by n (xs ++ ys) ≡ turns_by n xs ++ turns_by n ys
turns_by-append n [] ys = refl
turns_by-append n (m ∷ xs) ys = rw (turns_by-append n xs ys) (own_first (m.by == n) m.what (turns_by n xs) (turns_by n ys))

-- ---- the places of its turns

append_none : (xs : List DeskTurn) → xs ++ [] ≡ xs
append_none [] = refl
append_none (x ∷ xs) = ap (λ l. x ∷ l) (append_none xs)

places-append : (n k : ℕ) (xs ys : List (Made DeskTurn)) → places n k (xs ++ ys) ≡ places n k xs ++ places n (k + length xs) ys
places-append n k [] ys = ap (λ (i : ℕ). places n i ys) (omega arith)
places-append n k (x ∷ xs) ys =
    let e : (k + 1) + length xs ≡ k + suc (length xs) = omega arith in
    let h = places-append n (k + 1) xs ys ∙ ap (λ (i : ℕ). places n (k + 1) xs ++ places n i ys) e in
    elim (cases_Bool (x.by == n)) [ inl t ↦ rw t (ap (λ (r : List ℕ). k ∷ r) h) | inr t ↦ rw t h ]

pub places-own : (n : ℕ) (xs : List (Made DeskTurn)) (what : DeskTurn) → places n 0 (xs ++ made n what ∷ []) ≡ places n 0 xs ++ length xs ∷ []
places-own n xs what =
    let e : 0 + length xs ≡ length xs = omega arith in
    let here : places n (0 + length xs) (made n what ∷ []) ≡ length xs ∷ [] = rw (eq-eqb n n refl) (ap (λ (i : ℕ). i ∷ []) e) in
    places-append n 0 xs (made n what ∷ []) ∙ ap (λ (r : List ℕ). places n 0 xs ++ r) here

-- where there is no place, no turn is its
no_turns : (n k : ℕ) (turns : List (Made DeskTurn)) → length (places n k turns) ≡ 0 → turns_by n turns ≡ []
no_turns n k [] z = refl
no_turns n k (m ∷ turns) z =
    elim (cases_Bool (m.by == n)) [ inl t ↦ absurd (some_place t (rw t at z)) | inr t ↦ rw t (no_turns n (k + 1) turns (rw t at z)) ]
  where
    some_place : (m.by == n) ≡ true → length (k ∷ places n (k + 1) turns) ≡ 0 → ⊥
    some_place t z = omega (arith, z)

-- a list that goes on with no place of its own goes on with no turn of its own
pub turns_by-places : (n : ℕ) (xs ys : List (Made DeskTurn)) → Begins xs ys → places n 0 ys ≡ places n 0 xs → turns_by n ys ≡ turns_by n xs
turns_by-places n xs ys b same =
    let e : places n 0 xs ++ places n (0 + length xs) b.0 ≡ places n 0 xs = sym (places-append n 0 xs b.0) ∙ (ap (places n 0) (sym b.1) ∙ same) in
    let z : length (places n (0 + length xs) b.0) ≡ 0 = omega (arith, ap length e, length-append (places n 0 xs) (places n (0 + length xs) b.0)) in
    rw (b.1, turns_by-append n xs b.0, no_turns n (0 + length xs) b.0 z) (append_none (turns_by n xs))

-- ---- turns of others

apart_false : (k n : ℕ) → k ≢ n → (k == n) ≡ false
apart_false k n h = grind (arith, nat_tests)

same_true : (n : ℕ) → (n == n) ≡ true
same_true n = grind (arith, nat_tests)

pub turns_by-others : (n : ℕ) (turns : List (Made DeskTurn)) → AllOthers n turns → turns_by n turns ≡ []
turns_by-others n [] h = refl
turns_by-others n (m ∷ turns) h = rw (apart_false m.by n h.0) (turns_by-others n turns h.1)

-- turns of others add none
pub turns_by-follows : (n : ℕ) (xs ys : List (Made DeskTurn)) → Follows n xs ys → turns_by n ys ≡ turns_by n xs
turns_by-follows n xs ys h =
    rw (h.1, turns_by-append n xs h.0, turns_by-others n h.0 h.2) (append_none (turns_by n xs))

-- and one of its own is the last
pub turns_by-push : (n : ℕ) (xs : List (Made DeskTurn)) (what : DeskTurn) → turns_by n (xs ++ made n what ∷ []) ≡ turns_by n xs ++ what ∷ []
turns_by-push n xs what =
    let own : turns_by n (made n what ∷ []) ≡ what ∷ [] = rw (same_true n) refl in
    turns_by-append n xs (made n what ∷ []) ∙ ap (λ l. turns_by n xs ++ l) own

-- ---- the passes that were joined

-- a pass of this number was joined, with these places
abbrev pub HasEnded : ℕ → List ℕ → List (ℕ × List ℕ) → Type 0
HasEnded n mine [] = ⊥
HasEnded n mine (e ∷ ended) = ((e.0 ≡ n) × (e.1 ≡ mine)) ⊎ HasEnded n mine ended

ended_places : (n : ℕ) (mine : List ℕ) (seen : List (Made DeskTurn)) (ended : List (ℕ × List ℕ)) → EndedOwn seen ended → HasEnded n mine ended → places n 0 seen ≡ mine
ended_places n mine seen [] h has = absurd has
ended_places n mine seen (e ∷ ended) h (inl is) = ap (λ k. places k 0 seen) (sym is.0) ∙ (sym h.0 ∙ is.1)
ended_places n mine seen (e ∷ ended) h (inr more) = ended_places n mine seen ended h.1 more

-- its turns in the whole history are those that it had seen
pub ended_turns : (v : View Held DeskTurn) (n : ℕ) (mine : List ℕ) (seen : List (Made DeskTurn)) → Accounts v → HasEnded n mine v.ended → mine ≡ places n 0 seen → Begins seen v.seen → turns_by n v.seen ≡ turns_by n seen
ended_turns v n mine seen accounts has own begins =
    turns_by-places n seen v.seen begins (ended_places n mine v.seen v.ended accounts.ended has ∙ own)
