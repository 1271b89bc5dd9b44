-- Entering a half of a parameter, as a read of parameters sees it.
use Rattle.std.proofs.lemmas.Bool.{not-true}
use Rattle.std.proofs.Common.{◌≡◌, ℕ, ◌-◌, ◌<◌, ◌≤◌, Bool, true, false, not, List, [], ◌∷◌, ◌++◌, Option, Some, None, take, drop, length, filter, refl, ap, sym, ◌∙◌, inl, inr, arith, eq-eqb, length-append}
use Rattle.std.proofs.Math.Bool.{beq}
use Rattle.std.specs.List.{list_all, filter_map, cons_option}
use Rattle.std.proofs.lemmas.Bool.{cases_Bool, and_parts}
use Rattle.std.proofs.lemmas.List.{take-append-drop, drop-append-le, length-drop}
use Rattle.std.proofs.lemmas.List.Folds.{list_all-append}
use Rattle.jm_cmds.specs.declared.param.Param.{Param}
use Rattle.jm_cmds.specs.Param.{same_param}
use Rattle.jm_cmds.specs.ParamLaws.{same_param-equal}
use Rattle.jm_state.specs.declared.entered.Entry.{Entry}
use Rattle.jm_state.specs.Entered.{half_set, halves_in, is_other, with_halves, half_dropped, latest, entered_with}
use Rattle.jm_state.specs.EnteredLaws.{latest_room}

beq_self : (b : Bool) → beq b b ≡ true
beq_self true = refl
beq_self false = refl

pub same_self : (p : Param) → same_param p p ≡ true
same_self p = rw (beq_self p.nrpn, eq-eqb p.high p.high refl, eq-eqb p.low p.low refl) refl

others_all : (p : Param) (es : List Entry) → list_all (is_other p) (filter (is_other p) es) ≡ true
others_all p [] = refl
others_all p (x ∷ es) =
    elim (cases_Bool (same_param x.param p)) [
      | inl t ↦ rw t (others_all p es)
      | inr f ↦ rw f (rw f (others_all p es))
    ]

rest_all : (p : Param) (k : ℕ) (xs : List Entry) → list_all (is_other p) xs ≡ true → list_all (is_other p) (drop k xs) ≡ true
rest_all p k xs h =
    let whole : list_all (is_other p) (take k xs ++ drop k xs) ≡ true = ap (list_all (is_other p)) (take-append-drop k xs) ∙ h in
    (and_parts (list_all (is_other p) (take k xs)) (list_all (is_other p) (drop k xs)) (sym (list_all-append (is_other p) (take k xs) (drop k xs)) ∙ whole)).1

found_last : (p : Param) (xs : List Entry) (e : Entry) → list_all (is_other p) xs ≡ true → same_param e.param p ≡ true → halves_in (xs ++ e ∷ []) p ≡ e.halves
found_last p [] e h s = rw s refl
found_last p (x ∷ xs) e h s =
    let both = and_parts (not (same_param x.param p)) (list_all (is_other p) xs) h in
    rw (not-true (same_param x.param p) both.0) (found_last p xs e both.1 s)

-- the half that is entered is there, with the other half that was
pub entered_own : (high : Bool) (p : Param) (value : ℕ) (es : List Entry) → halves_in (entered_with high p (Some value) es) p ≡ half_set high (Some value) (halves_in es p)
unfolding latest
entered_own high p value es =
    let e : Entry = record { param = p; halves = half_set high (Some value) (halves_in es p) } in
    let others = filter (is_other p) es in
    let gone : length (others ++ e ∷ []) - 16 ≤ length others = omega (arith, length-append others (e ∷ [])) in
    ap (λ xs. halves_in xs p) (drop-append-le (length (others ++ e ∷ []) - 16) others (e ∷ []) gone)
    ∙ found_last p (drop (length (others ++ e ∷ []) - 16) others) e (rest_all p (length (others ++ e ∷ []) - 16) others (others_all p es)) (same_self p)

same_turned : (x p q : Param) → same_param x p ≡ true → same_param p q ≡ false → same_param x q ≡ false
same_turned x p q s f = rw (same_param-equal x p s) f

filtered_other : (p q : Param) (es : List Entry) → same_param p q ≡ false → halves_in (filter (is_other p) es) q ≡ halves_in es q
filtered_other p q [] f = refl
filtered_other p q (x ∷ es) f =
    elim (cases_Bool (same_param x.param p)) [
      | inl t ↦ rw (t, same_turned x.param p q t f) (filtered_other p q es f)
      | inr g ↦ rw g (elim (cases_Bool (same_param x.param q)) [
        | inl t ↦ rw t refl
        | inr h ↦ rw h (filtered_other p q es f)
      ])
    ]

behind_other : (q : Param) (xs : List Entry) (e : Entry) → same_param e.param q ≡ false → halves_in (xs ++ e ∷ []) q ≡ halves_in xs q
behind_other q [] e f = rw f refl
behind_other q (x ∷ xs) e f =
    elim (cases_Bool (same_param x.param q)) [
      | inl t ↦ rw t refl
      | inr g ↦ rw g (behind_other q xs e f)
    ]

-- where fewer than 16 others were entered, each of them stays as it is
pub entered_other : (high : Bool) (p q : Param) (value : ℕ) (es : List Entry) → length (filter (is_other p) es) < 16 → same_param p q ≡ false → halves_in (entered_with high p (Some value) es) q ≡ halves_in es q
entered_other high p q value es few f =
    let e : Entry = record { param = p; halves = half_set high (Some value) (halves_in es p) } in
    let others = filter (is_other p) es in
    ap (λ xs. halves_in xs q) (latest_room others e few) ∙ behind_other q others e f ∙ filtered_other p q es f

-- what is left of an entry, in front of others, at another parameter
left_other : (q x : Param) (a b : Option ℕ) (es : List Entry) → same_param x q ≡ false → halves_in (cons_option (with_halves x a b) es) q ≡ halves_in es q
left_other q x None None es f = refl
left_other q x (Some a) b es f = rw f refl
left_other q x None (Some b) es f = rw f refl

-- a half that is taken away leaves each other parameter as it is
pub dropped_other : (high : Bool) (p q : Param) (es : List Entry) → same_param p q ≡ false → halves_in (entered_with high p None es) q ≡ halves_in es q
dropped_other high p q [] f = refl
dropped_other high p q (x ∷ es) f =
    elim (cases_Bool (same_param x.param p)) [
      | inl t ↦ rw (t, same_turned x.param p q t f) (left_other q x.param (half_set high None x.halves).entry_high (half_set high None x.halves).entry_low (filter_map (half_dropped high p) es) (same_turned x.param p q t f) ∙ dropped_other high p q es f)
      | inr g ↦ rw g (elim (cases_Bool (same_param x.param q)) [
        | inl t ↦ rw t refl
        | inr h ↦ rw h (dropped_other high p q es f)
      ])
    ]

-- at most 16 are kept
pub entered_few : (high : Bool) (p : Param) (value : ℕ) (es : List Entry) → length (entered_with high p (Some value) es) ≤ 16
unfolding latest
entered_few high p value es =
    let e : Entry = record { param = p; halves = half_set high (Some value) (halves_in es p) } in
    let all = filter (is_other p) es ++ e ∷ [] in
    omega (arith, length-drop (length all - 16) all)
