-- What a controller does to each control of its channel.
use Rattle.std.proofs.Common.{◌≡◌, ℕ, ◌<◌, false, cond, eqb, List, [], ◌∷◌, Option, Some, None, length, set, refl, sym, ap, ◌∙◌, inl, inr, arith, subst, ◌≢◌}
use Rattle.std.specs.List.{AllByRecursion}
use Rattle.std.proofs.lemmas.Bool.{cases_Bool, eqb-true, eqb-false, ne_eqb, lt-leb}
use Rattle.std.proofs.lemmas.List.{length-set}
use Rattle.jm_cmds.specs.declared.controls.ControlKind.{ControlKind}
use Rattle.jm_cmds.specs.declared.controls.ControlKind.TheVariants as kinds
use Rattle.jm_cmds.specs.Control.{control_kind}
use Rattle.jm_state.specs.declared.channel.ChannelState.{ChannelState}
use Rattle.jm_state.specs.Table.{no_values, value_at, keep_value}
use Rattle.jm_state.specs.Parts.{control_by, control_at, pair_of}
use Rattle.jm_state.specs.Apply.{controls_left, controlled_by, selected_by}
use Rattle.jm_state.specs.Says.{said, ended, is_dropped, controller_says}
use Rattle.jm_state.specs.Kept.{value_set, no_value, length-no_values}
use Rattle.jm_state.specs.ChannelLaws.{entry_left}

pub control_none : (kind : ControlKind) → control_by kind None ≡ None
control_none (kinds.DataEntry high) = refl
control_none (kinds.Selection nrpn high) = refl
control_none (kinds.Increment n) = refl
control_none (kinds.Silence n) = refl
control_none kinds.ResetControllers = refl
control_none (kinds.Mode n) = refl
control_none (kinds.Kept n) = refl
control_none kinds.Pedal = refl
control_none (kinds.Plain n) = refl

-- ## What Control 121 leaves

-- the value at a number, where it is one that is kept
keep_at : (from left : List (Option ℕ)) (k number : ℕ) → number < length left → value_at (keep_value from left k) number ≡ cond (eqb k number) (value_at from number) (value_at left number)
keep_at from left k number l =
    elim (cases_Bool (eqb k number)) [
      | inl t ↦ let same : k ≡ number = eqb-true k number t in value_set left k number (value_at from k) l ∙ rw (t, same) refl
      | inr f ↦ value_set left k number (value_at from k) l ∙ rw f refl
    ]

-- the kept value, by the last number that is kept first
abbrev pub left_by : (ks : List ℕ) (number : ℕ) → Option ℕ → Option ℕ
left_by [] number value = None
left_by (k ∷ ks) number value = cond (eqb k number) value (left_by ks number value)

pub record IsLeft (from left : List (Option ℕ)) (ks : List ℕ) (number : ℕ) : Type 0 where
  pub inside : number < length left
  pub value : value_at left number ≡ left_by ks number (value_at from number)

kept_one : (from left : List (Option ℕ)) (ks : List ℕ) (number k : ℕ) → IsLeft from left ks number → IsLeft from (keep_value from left k) (k ∷ ks) number
kept_one from left ks number k h = record {
  inside = omega (arith, h.inside, length-set left k (value_at from k));
  value = keep_at from left k number h.inside ∙ rw (h.value) refl;
}

pub left_value : (from : List (Option ℕ)) (number : ℕ) → number < 128 → value_at (controls_left from) number ≡ left_by (127 ∷ 126 ∷ 125 ∷ 124 ∷ 122 ∷ 32 ∷ 0 ∷ []) number (value_at from number)
unfolding controls_left
left_value from number l =
    let t0 : IsLeft from no_values [] number = record { inside = omega (arith, l, length-no_values); value = no_value number l } in
    let t1 = kept_one from no_values [] number 0 t0 in
    let t2 = kept_one from _ _ number 32 t1 in
    let t3 = kept_one from _ _ number 122 t2 in
    let t4 = kept_one from _ _ number 124 t3 in
    let t5 = kept_one from _ _ number 125 t4 in
    let t6 = kept_one from _ _ number 126 t5 in
    let t7 = kept_one from _ _ number 127 t6 in
    t7.value

-- what holds of each of these numbers, and of one that is none of them, holds of a number
among : (P : ℕ → Type 0) (ks : List ℕ) (n : ℕ) → AllByRecursion P ks → (AllByRecursion (λ k. eqb n k ≡ false) ks → P n) → P n
among P [] n all other = other tt
among P (k ∷ ks) n all other =
    elim (cases_Bool (eqb n k)) [
      | inl t ↦ subst P (sym (eqb-true n k t)) all.0
      | inr f ↦ among P ks n all.1 (λ rest. other (f, rest))
    ]

-- what is left of a control whose value is given
abbrev LeavesControl : Option ℕ → ℕ → Type 0
LeavesControl value number =
    control_by (control_kind number) (left_by (127 ∷ 126 ∷ 125 ∷ 124 ∷ 122 ∷ 32 ∷ 0 ∷ []) number value)
    ≡ said (ended (is_dropped (control_kind number))) (control_by (control_kind number) value)

turned : (n k : ℕ) → eqb n k ≡ false → eqb k n ≡ false
turned n k f = ne_eqb k n (λ e. eqb-false n k f (sym e))

other_control : (value : Option ℕ) (n : ℕ) → n < 128 → AllByRecursion (λ k. eqb n k ≡ false) (127 ∷ 126 ∷ 125 ∷ 124 ∷ 122 ∷ 32 ∷ 0 ∷ 6 ∷ 38 ∷ 96 ∷ 97 ∷ 98 ∷ 99 ∷ 100 ∷ 101 ∷ 120 ∷ 123 ∷ 121 ∷ 64 ∷ []) → LeavesControl value n
unfolding control_kind
other_control value n l h =
    let top : n ≢ 127 = eqb-false n 127 h.0 in
    let third : n ≢ 126 = eqb-false n 126 h.1.0 in
    let second : n ≢ 125 = eqb-false n 125 h.1.1.0 in
    let first : n ≢ 124 = eqb-false n 124 h.1.1.1.0 in
    let below : n < 124 = omega (arith, l, top, third, second, first) in
    rw (lt-leb 124 n below, turned n 127 h.0, turned n 126 h.1.0, turned n 125 h.1.1.0, turned n 124 h.1.1.1.0, turned n 122 h.1.1.1.1.0, turned n 32 h.1.1.1.1.1.0, turned n 0 h.1.1.1.1.1.1.0, h.1.1.1.1.0, h.1.1.1.1.1.0, h.1.1.1.1.1.1.0, h.1.1.1.1.1.1.1.0, h.1.1.1.1.1.1.1.1.0, h.1.1.1.1.1.1.1.1.1.0, h.1.1.1.1.1.1.1.1.1.1.0, h.1.1.1.1.1.1.1.1.1.1.1.0, h.1.1.1.1.1.1.1.1.1.1.1.1.0, h.1.1.1.1.1.1.1.1.1.1.1.1.1.0, h.1.1.1.1.1.1.1.1.1.1.1.1.1.1.0, h.1.1.1.1.1.1.1.1.1.1.1.1.1.1.1.0, h.1.1.1.1.1.1.1.1.1.1.1.1.1.1.1.1.0, h.1.1.1.1.1.1.1.1.1.1.1.1.1.1.1.1.1.0, h.1.1.1.1.1.1.1.1.1.1.1.1.1.1.1.1.1.1.0)
    refl

leaves_control : (value : Option ℕ) (number : ℕ) → number < 128 → LeavesControl value number
unfolding control_kind
leaves_control value number l =
    among (LeavesControl value) (127 ∷ 126 ∷ 125 ∷ 124 ∷ 122 ∷ 32 ∷ 0 ∷ 6 ∷ 38 ∷ 96 ∷ 97 ∷ 98 ∷ 99 ∷ 100 ∷ 101 ∷ 120 ∷ 123 ∷ 121 ∷ 64 ∷ []) number
    (refl, (refl, (refl, (refl, (refl, (refl, (refl, (refl, (refl, (refl, (refl, (refl, (refl, (refl, (refl, (refl, (refl, (refl, (refl, tt)))))))))))))))))))
    (other_control value number l)

-- ## What a controller says of a control

-- a control that is set has its value, where it has a part
one_says : (kind : ControlKind) (number control value : ℕ) (controls : List (Option ℕ)) → control_kind number ≡ kind → control_by kind (Some value) ≡ Some value → control < length controls → control_by (control_kind control) (value_at (set controls number (Some value)) control) ≡ said (cond (eqb number control) (Some (Some value)) None) (control_by (control_kind control) (value_at controls control))
one_says kind number control value controls e part l =
    ap (control_by (control_kind control)) (value_set controls number control (Some value) l)
    ∙ elim (cases_Bool (eqb number control)) [
      | inl t ↦ let same : number ≡ control = eqb-true number control t in rw t (rw (← same, e) part)
      | inr f ↦ rw f refl
    ]

-- and the other mode of the pair is absent
pair_says : (kind : ControlKind) (pair number control value : ℕ) (controls : List (Option ℕ)) → control_kind number ≡ kind → control_by kind (Some value) ≡ Some value → control < length controls → control_by (control_kind control) (value_at (set (set controls pair None) number (Some value)) control) ≡ said (cond (eqb number control) (Some (Some value)) (ended (eqb pair control))) (control_by (control_kind control) (value_at controls control))
pair_says kind pair number control value controls e part l =
    ap (control_by (control_kind control)) (value_set (set controls pair None) number control (Some value) (omega (arith, l, length-set controls pair None)))
    ∙ elim (cases_Bool (eqb number control)) [
      | inl t ↦ let same : number ≡ control = eqb-true number control t in rw t (rw (← same, e) part)
      | inr f ↦ rw f (ap (control_by (control_kind control)) (value_set controls pair control None l)
          ∙ elim (cases_Bool (eqb pair control)) [
            | inl t ↦ rw t (control_none (control_kind control))
            | inr g ↦ rw g refl
          ])
    ]

-- what a controller of this kind and number does to a control
pub control_kind_says : (kind : ControlKind) (number control value : ℕ) (c : ChannelState) → control_kind number ≡ kind → control < 128 → length c.controls ≡ 128 → control_at (controlled_by kind number value c) control ≡ said (controller_says kind (control_kind control) number control value) (control_at c control)
control_kind_says (kinds.DataEntry high) number control value c e l full =
    entry_left (λ x. control_at x control) (selected_by c.selection) high value c (λ p. refl)
control_kind_says (kinds.Selection nrpn high) number control value c e l full = refl
control_kind_says (kinds.Increment n) number control value c e l full = refl
control_kind_says (kinds.Silence n) number control value c e l full = refl
control_kind_says kinds.ResetControllers number control value c e l full =
    ap (control_by (control_kind control)) (left_value c.controls control l) ∙ leaves_control (value_at c.controls control) control l
control_kind_says (kinds.Mode n) number control value c e l full =
    rw e (pair_says (kinds.Mode n) (pair_of number) number control value c.controls e refl (omega (arith, l, full)))
control_kind_says (kinds.Kept n) number control value c e l full =
    rw e (one_says (kinds.Kept n) number control value c.controls e refl (omega (arith, l, full)))
control_kind_says kinds.Pedal number control value c e l full =
    rw e (one_says kinds.Pedal number control value c.controls e refl (omega (arith, l, full)))
control_kind_says (kinds.Plain n) number control value c e l full =
    rw e (one_says (kinds.Plain n) number control value c.controls e refl (omega (arith, l, full)))
