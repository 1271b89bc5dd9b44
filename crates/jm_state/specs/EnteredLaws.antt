-- Entering one more parameter, and comparing what was entered.
use Rattle.std.proofs.Common.{◌≡◌, ℕ, ◌-◌, ◌<◌, true, Option, Some, None, eqb, List, [], ◌∷◌, ◌++◌, length, ◌⊎◌, inl, inr, refl, ap, sym, ◌∙◌, arith, length-append}
use Rattle.std.specs.List.{remove}
use Rattle.std.specs.Option.{option_eq}
use Rattle.std.proofs.lemmas.Bool.{cases_Bool, eqb-true, eq-eqb, and_parts}
use Rattle.jm_cmds.specs.declared.param.Param.{Param}
use Rattle.jm_cmds.specs.Param.{same_param}
use Rattle.jm_cmds.specs.ParamLaws.{same_param-equal}
use Rattle.jm_state.specs.declared.entered.Entry.{Entry}
use Rattle.jm_state.specs.declared.entered.Halves.{Halves}
use Rattle.jm_state.specs.Entered.{latest, no_halves, halves_in, halves_eq, agrees, same_entered}

-- of 16 the first gives way
pub latest_full : (es : List Entry) (e : Entry) → length es ≡ 16 → latest (es ++ e ∷ []) ≡ remove es 0 ++ e ∷ []
unfolding latest
latest_full [] e n = absurd (omega (arith, n))
latest_full (x ∷ es) e n =
    let all : length (x ∷ (es ++ e ∷ [])) - 16 ≡ 1 = omega (arith, n, length-append es (e ∷ [])) in rw all refl

-- fewer stay
pub latest_room : (es : List Entry) (e : Entry) → length es < 16 → latest (es ++ e ∷ []) ≡ es ++ e ∷ []
unfolding latest
latest_room es e n =
    let all : length (es ++ e ∷ []) - 16 ≡ 0 = omega (arith, n, length-append es (e ∷ [])) in rw all refl

-- ## Comparing

option_equal : (a b : Option ℕ) → option_eq eqb a b ≡ true → a ≡ b
option_equal None None e = refl
option_equal None (Some y) e = absurd cc
option_equal (Some x) None e = absurd cc
option_equal (Some x) (Some y) e = ap Some (eqb-true x y e)

option_self : (a : Option ℕ) → option_eq eqb a a ≡ true
option_self None = refl
option_self (Some x) = eq-eqb x x refl

both_halves : Option ℕ → Option ℕ → Halves
both_halves high low = record { entry_high = high; entry_low = low }

two_halves : (a b c d : Option ℕ) → a ≡ b → c ≡ d → both_halves a c ≡ both_halves b d
two_halves a b c d p q = cc

halves_equal : (a b : Halves) → halves_eq a b ≡ true → a ≡ b
unfolding both_halves
halves_equal a b e =
    let both = and_parts (option_eq eqb a.entry_high b.entry_high) (option_eq eqb a.entry_low b.entry_low) e in
    two_halves a.entry_high b.entry_high a.entry_low b.entry_low (option_equal a.entry_high b.entry_high both.0) (option_equal a.entry_low b.entry_low both.1)

halves_self : (a : Halves) → halves_eq a a ≡ true
halves_self a = rw (option_self a.entry_high, option_self a.entry_low) refl

-- what agrees is equal at each of these parameters, and at any other there is nothing in them
agrees_on : (ours theirs es : List Entry) (p : Param) → agrees ours theirs es ≡ true → (halves_in ours p ≡ halves_in theirs p) ⊎ (halves_in es p ≡ no_halves)
agrees_on ours theirs [] p e = inr refl
agrees_on ours theirs (x ∷ es) p e =
    let both = and_parts (halves_eq (halves_in ours x.param) (halves_in theirs x.param)) (agrees ours theirs es) e in
    elim (cases_Bool (same_param x.param p)) [
      | inl t ↦ inl (rw (same_param-equal x.param p t) at (halves_equal (halves_in ours x.param) (halves_in theirs x.param) both.0))
      | inr f ↦ rw f (agrees_on ours theirs es p both.1)
    ]

-- where both lists agree on the parameters of either, each parameter has the same halves in both
pub entered_equal : (ours theirs : List Entry) → same_entered ours theirs ≡ true → (p : Param) → halves_in ours p ≡ halves_in theirs p
entered_equal ours theirs e p =
    let both = and_parts (agrees ours theirs ours) (agrees ours theirs theirs) e in
    elim (agrees_on ours theirs ours p both.0) [
      | inl same ↦ same
      | inr none ↦ elim (agrees_on ours theirs theirs p both.1) [
        | inl same ↦ same
        | inr nothing ↦ none ∙ sym nothing
      ]
    ]

agrees_all : (ours theirs es : List Entry) → ((p : Param) → halves_in ours p ≡ halves_in theirs p) → agrees ours theirs es ≡ true
agrees_all ours theirs [] h = refl
agrees_all ours theirs (x ∷ es) h = rw (h x.param, halves_self (halves_in theirs x.param)) (agrees_all ours theirs es h)

pub equal_entered : (ours theirs : List Entry) → ((p : Param) → halves_in ours p ≡ halves_in theirs p) → same_entered ours theirs ≡ true
equal_entered ours theirs h = rw (agrees_all ours theirs ours h) (agrees_all ours theirs theirs h)
