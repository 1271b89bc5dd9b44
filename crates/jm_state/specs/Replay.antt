-- A part that the last command that speaks of it decides: playing the commands from an earlier packet on over it again changes
-- nothing.
use Rattle.std.proofs.Common.{◌≡◌, ℕ, ◌≤◌, ◌<◌, true, false, ltb, leb, List, [], ◌∷◌, ◌++◌, Option, Some, None, fold, refl, sym, ap, ◌∙◌, arith, inl, inr}
use Rattle.std.specs.List.{AllByRecursion}
use Rattle.std.proofs.lemmas.Bool.{cases_Bool, ltb-true, ltb-false, lt-ltb, lt-leb, le-ltb, le-leb}
use Rattle.std.proofs.lemmas.List.Sums.{fold-append}
use Rattle.jm_cmds.specs.History.{below, since, InOrder}
use Rattle.jm_cmds.specs.HistoryLaws.{filter_none, filter-filter, filter-swap, since_all, AllByRecursion-weaker, InOrder-filter}
use Rattle.jm_state.specs.Says.{said}

-- ## What the last one says

-- what a later one says, or else what an earlier one does
abbrev pub over : {V : Type 0} → (later earlier : Option (Option V)) → Option (Option V)
over None earlier = earlier
over (Some value) earlier = Some value

-- the part behind these
abbrev pub latest : {X V : Type 0} → (X → Option (Option V)) → Option V → List X → Option V
latest says old xs = fold (λ v x. said (says x) v) old xs

-- what the last of these that speaks of the part says, behind what was said before
abbrev heard : {X V : Type 0} → (X → Option (Option V)) → Option (Option V) → List X → Option (Option V)
heard says before xs = fold (λ h x. over (says x) h) before xs

pub said-over : {V : Type 0} (later earlier : Option (Option V)) (old : Option V) → said later (said earlier old) ≡ said (over later earlier) old
said-over None earlier old = refl
said-over (Some value) earlier old = refl

over-over : {V : Type 0} (a b c : Option (Option V)) → over a (over b c) ≡ over (over a (over b None)) c
over-over None None c = refl
over-over None (Some b) c = refl
over-over (Some a) b c = refl

over-same : {V : Type 0} (a : Option (Option V)) → over a a ≡ a
over-same None = refl
over-same (Some a) = refl

latest-heard : {X V : Type 0} (says : X → Option (Option V)) (before : Option (Option V)) (old : Option V) (xs : List X) →
    latest says (said before old) xs ≡ said (heard says before xs) old
latest-heard says before old [] = refl
latest-heard says before old (x ∷ xs) =
    ap (λ v. latest says v xs) (said-over (says x) before old) ∙ latest-heard says (over (says x) before) old xs

heard-over : {X V : Type 0} (says : X → Option (Option V)) (before : Option (Option V)) (xs : List X) → heard says before xs ≡ over (heard says None xs) before
heard-over says before [] = refl
heard-over says before (x ∷ xs) =
    heard-over says (over (says x) before) xs
    ∙ over-over (heard says None xs) (says x) before
    ∙ ap (λ h. over h before) (sym (heard-over says (over (says x) None) xs))

-- once more changes nothing
pub latest-again : {X V : Type 0} (says : X → Option (Option V)) (old : Option V) (xs : List X) → latest says (latest says old xs) xs ≡ latest says old xs
latest-again says old xs =
    let all = latest-heard says None old xs in
    ap (λ v. latest says v xs) all
    ∙ latest-heard says (heard says None xs) old xs
    ∙ ap (λ h. said h old) (heard-over says (heard says None xs) xs ∙ over-same (heard says None xs))
    ∙ sym all

-- ## From a packet on

-- a history is what is before a packet, then what is from it on
pub in_two : {X : Type 0} (at : X → ℕ) (p : ℕ) (xs : List X) → InOrder at xs → xs ≡ below at p xs ++ since at p xs
in_two at p [] o = refl
in_two at p (x ∷ xs) o =
    elim (cases_Bool (ltb (at x) p)) [
      | inl t ↦
          let under : at x < p = ltb-true (at x) p t in
          let not_since : leb p (at x) ≡ false = lt-leb p (at x) under in
          rw (t, not_since) (ap (λ l. x ∷ l) (in_two at p xs o.1))
      | inr f ↦
          let begins : p ≤ at x = ltb-false (at x) p f in
          let later : AllByRecursion (λ y. ltb (at y) p ≡ false) xs = AllByRecursion-weaker (λ y. at x ≤ at y) (λ y. ltb (at y) p ≡ false) (λ y h. le-ltb (at y) p (omega (arith, h, begins))) xs o.0 in
          let all : AllByRecursion (λ y. p ≤ at y) xs = AllByRecursion-weaker (λ y. at x ≤ at y) (λ y. p ≤ at y) (λ y h. omega (arith, h, begins)) xs o.0 in
          rw (f, le-leb p (at x) begins, filter_none (λ y. ltb (at y) p) xs later) (ap (λ l. x ∷ l) (sym (since_all at p xs all)))
    ]

both-latest : {X V : Type 0} (says : X → Option (Option V)) (old : Option V) (xs ys : List X) → latest says old (xs ++ ys) ≡ latest says (latest says old xs) ys
both-latest says old xs ys = fold-append (λ v x. said (says x) v) old xs ys

earlier : {X : Type 0} (at : X → ℕ) (checkpoint packet : ℕ) → checkpoint ≤ packet → (x : X) → ltb (at x) checkpoint ≡ true → ltb (at x) packet ≡ true
earlier at checkpoint packet l x h = let under : at x < checkpoint = ltb-true (at x) checkpoint h in lt-ltb (at x) packet (omega (arith, under, l))

-- Behind the packets below one, those from another on that isn't later, played again, leave what all leave.
pub replay : {X V : Type 0} (says : X → Option (Option V)) (at : X → ℕ) (checkpoint packet : ℕ) (old : Option V) (xs : List X) → InOrder at xs → checkpoint ≤ packet →
    latest says (latest says old (below at packet xs)) (since at checkpoint xs) ≡ latest says old xs
replay says at checkpoint packet old xs o l =
    let a = below at checkpoint xs in
    let s = since at checkpoint xs in
    let u = below at packet xs in
    let b = below at packet s in
    let c = since at packet s in
    let first : latest says old xs ≡ latest says (latest says old a) s = ap (latest says old) (in_two at checkpoint xs o) ∙ both-latest says old a s in
    let u_two : u ≡ below at checkpoint u ++ since at checkpoint u = in_two at checkpoint u (InOrder-filter at (λ x. ltb (at x) packet) xs o) in
    let u_front : below at checkpoint u ≡ a = filter-filter (λ x. ltb (at x) packet) (λ x. ltb (at x) checkpoint) (earlier at checkpoint packet l) xs in
    let u_back : since at checkpoint u ≡ b = filter-swap (λ x. leb checkpoint (at x)) (λ x. ltb (at x) packet) xs in
    let s_two : s ≡ b ++ c = in_two at packet s (InOrder-filter at (λ x. leb checkpoint (at x)) xs o) in
    let front : latest says old u ≡ latest says (latest says old a) b =
    ap (latest says old) u_two ∙ both-latest says old (below at checkpoint u) (since at checkpoint u) ∙ rw (u_front, u_back) refl in
    let v = latest says old a in
    let over_b : latest says (latest says v b) s ≡ latest says (latest says (latest says v b) b) c = ap (latest says (latest says v b)) s_two ∙ both-latest says (latest says v b) b c in
    let v_s : latest says v s ≡ latest says (latest says v b) c = ap (latest says v) s_two ∙ both-latest says v b c in
    ap (λ w. latest says w s) front
    ∙ over_b
    ∙ ap (λ w. latest says w c) (latest-again says v b)
    ∙ sym v_s
    ∙ sym first
