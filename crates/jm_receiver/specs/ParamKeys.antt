-- Parameters that are entered while only so many different ones are: none is pushed out.
use Rattle.std.proofs.Common.{◌≡◌, ℕ, suc, ◌<◌, ◌≤◌, Bool, true, false, not, cond, ◌&&◌, List, [], ◌∷◌, ◌++◌, Option, Some, None, map, length, filter, refl, sym, ap, ◌∙◌, inl, inr, arith}
use Rattle.std.proofs.Math.Bool.{beq}
use Rattle.std.specs.Cmp.{IsEquivalence}
use Rattle.std.specs.List.{list_any, AllByRecursion, IsDistinct}
use Rattle.std.proofs.lemmas.Bool.{cases_Bool, or_cases}
use Rattle.std.proofs.lemmas.Map.Keys.{IsDistinct-push}
use Rattle.std.proofs.lemmas.Map.Made.{length-le_from_is_member}
use Rattle.jm_cmds.specs.declared.param.Param.{Param}
use Rattle.jm_cmds.specs.HistoryLaws.{AllByRecursion-append, AllByRecursion-filter}
use Rattle.jm_cmds.specs.Param.{same_param}
use Rattle.jm_cmds.specs.ParamLaws.{same_param-equal}
use Rattle.jm_state.specs.ParamLaws.{same_self}
use Rattle.jm_state.specs.declared.entered.Entry.{Entry}
use Rattle.jm_state.specs.declared.entered.Halves.{Halves}
use Rattle.jm_state.specs.Entered.{half_set, halves_in, is_other, entered_with}
use Rattle.jm_state.specs.EnteredLaws.{latest_room}
use Rattle.jm_state.specs.ParamLaws.{entered_own, entered_other}
use Rattle.jm_state.specs.Says.{said}

-- the parameter is one of these
abbrev pub is_known : List Param → Param → Bool
is_known known p = list_any (same_param p) known

abbrev pub keys_of : List Entry → List Param
keys_of es = map (λ e. e.param) es

-- What was entered is of these parameters, and of different ones.
pub record Holds (known : List Param) (es : List Entry) : Type 0 where
  pub among : AllByRecursion (λ e. is_known known e.param ≡ true) es
  pub distinct : IsDistinct same_param (keys_of es)

-- ## Parameters are told apart

same_back : (p q : Param) → same_param p q ≡ true → same_param q p ≡ true
same_back p q t = let e = same_param-equal p q t in rw e (same_self q)

pub same_turned : (p q : Param) → same_param p q ≡ same_param q p
same_turned p q =
    elim (cases_Bool (same_param p q)) [
      | inl t ↦ t ∙ sym (same_back p q t)
      | inr f ↦ elim (cases_Bool (same_param q p)) [
        | inl t ↦ absurd (let b : true ≡ false = sym (same_back q p t) ∙ f in cc)
        | inr g ↦ f ∙ sym g
      ]
    ]

same_laws : IsEquivalence same_param
same_laws = record {
  refl = same_self;
  symm = same_turned;
  congr = λ x y z t. let e = same_param-equal x y t in ap (λ (p : Param). same_param p z) e;
}

-- ## Among few

not_other : (p q : Param) → not (same_param q p) ≡ true → same_param p q ≡ false
not_other p q h = same_turned p q ∙ by (same_param q p) h
  where
    by : (b : Bool) → not b ≡ true → b ≡ false
    by true e = absurd (let f : false ≡ true = e in cc)
    by false e = refl

others_apart : (p : Param) (es : List Entry) → AllByRecursion (λ q. same_param p q ≡ false) (keys_of (filter (is_other p) es))
others_apart p [] = tt
others_apart p (e ∷ es) =
    elim (cases_Bool (is_other p e)) [
      | inl t ↦ rw t (not_other p e.param t, others_apart p es)
      | inr f ↦ rw f (others_apart p es)
    ]

keys_left : (P : Param → Type 0) (test : Entry → Bool) (es : List Entry) → AllByRecursion P (keys_of es) → AllByRecursion P (keys_of (filter test es))
keys_left P test [] h = tt
keys_left P test (e ∷ es) h =
    elim (cases_Bool (test e)) [
      | inl t ↦ rw t (h.0, keys_left P test es h.1)
      | inr f ↦ rw f (keys_left P test es h.1)
    ]

pub distinct_left : (test : Entry → Bool) (es : List Entry) → IsDistinct same_param (keys_of es) → IsDistinct same_param (keys_of (filter test es))
unfolding IsDistinct
distinct_left test [] d = tt
distinct_left test (e ∷ es) d =
    elim (cases_Bool (test e)) [
      | inl t ↦ rw t (keys_left (λ q. same_param e.param q ≡ false) test es d.0, distinct_left test es d.1)
      | inr f ↦ rw f (distinct_left test es d.1)
    ]

length-keys : (es : List Entry) → length (keys_of es) ≡ length es
length-keys [] = refl
length-keys (e ∷ es) = ap (λ (n : ℕ). suc n) (length-keys es)

known_same : (known : List Param) (p q : Param) → same_param q p ≡ true → is_known known p ≡ true → is_known known q ≡ true
known_same known p q t h = let e = same_param-equal q p t in rw e h

-- a key of what was entered is known
key_known : (known : List Param) (es : List Entry) (q : Param) → AllByRecursion (λ e. is_known known e.param ≡ true) es → is_known (keys_of es) q ≡ true → is_known known q ≡ true
key_known known [] q a h = absurd (let f : false ≡ true = h in cc)
key_known known (e ∷ es) q a h =
    elim (or_cases (same_param q e.param) (is_known (keys_of es) q) h) [
      | inl t ↦ known_same known e.param q t a.0
      | inr f ↦ key_known known es q a.1 f
    ]

-- No more different parameters are entered than are known.
pub holds_few : (known : List Param) (es : List Entry) → Holds known es → length es ≤ length known
holds_few known es h =
    let all = length-le_from_is_member same_laws (keys_of es) known h.distinct (λ q m. key_known known es q h.among m) in
    omega (arith, all, length-keys es)

-- fewer others than are known
pub others_few : (known : List Param) (es : List Entry) (p : Param) → Holds known es → is_known known p ≡ true → length (filter (is_other p) es) < length known
unfolding IsDistinct
others_few known es p h k =
    let others = filter (is_other p) es in
    let left = AllByRecursion-filter (λ (e : Entry). is_known known e.param ≡ true) (is_other p) es h.among in
    let distinct : IsDistinct same_param (p ∷ keys_of others) = (others_apart p es, distinct_left (is_other p) es h.distinct) in
    let all = length-le_from_is_member same_laws (p ∷ keys_of others) known distinct
    (λ q m. elim (or_cases (same_param q p) (is_known (keys_of others) q) m) [
      | inl t ↦ known_same known p q t k
      | inr f ↦ key_known known others q left f
    ]) in
    omega (arith, all, length-keys others)

keys-push : (es : List Entry) (e : Entry) → keys_of (es ++ e ∷ []) ≡ keys_of es ++ e.param ∷ []
keys-push [] e = refl
keys-push (x ∷ es) e = ap (λ (l : List Param). x.param ∷ l) (keys-push es e)

unknown : (p : Param) (qs : List Param) → AllByRecursion (λ q. same_param p q ≡ false) qs → is_known qs p ≡ false
unknown p [] h = refl
unknown p (q ∷ qs) h = rw (h.0) (unknown p qs h.1)

-- parameters stay different where one of them goes last
pub distinct_entered : (p : Param) (e : Entry) (es : List Entry) → e.param ≡ p → IsDistinct same_param (keys_of es) → IsDistinct same_param (keys_of (filter (is_other p) es ++ e ∷ []))
distinct_entered p e es same d =
    let others = filter (is_other p) es in
    rw (keys-push others e, same) (IsDistinct-push same_laws (keys_of others) p (distinct_left (is_other p) es d) (unknown p (keys_of others) (others_apart p es)))

-- A known one may be entered.
pub holds_entered : (known : List Param) (es : List Entry) (high : Bool) (p : Param) (value : ℕ) → length known ≤ 16 → Holds known es → is_known known p ≡ true → Holds known (entered_with high p (Some value) es)
holds_entered known es high p value few h k =
    let others = filter (is_other p) es in
    let e : Entry = record { param = p; halves = half_set high (Some value) (halves_in es p) } in
    let room : length others < 16 = (let l = others_few known es p h k in omega (arith, l, few)) in
    rw (latest_room others e room) (record {
      among = AllByRecursion-append (λ (x : Entry). is_known known x.param ≡ true) others (e ∷ []) (AllByRecursion-filter (λ (x : Entry). is_known known x.param ≡ true) (is_other p) es h.among) (k, tt);
      distinct = distinct_entered p e es refl h.distinct;
    })

pub holds_none : (known : List Param) → Holds known []
unfolding IsDistinct
holds_none known = record { among = tt; distinct = tt }

-- ## A half

-- the high half or the low one
abbrev pub half_of : (high : Bool) → Halves → Option ℕ
half_of high h = cond high h.entry_high h.entry_low

-- what entering this half of a parameter says of the half of another
abbrev pub half_says : (param : Param) → (high : Bool) → (entered : Param) → (entered_high : Bool) → (value : ℕ) → Option (Option ℕ)
half_says param high entered entered_high value = cond (same_param param entered && beq high entered_high) (Some (Some value)) None

own_half : (high other : Bool) (value : ℕ) (h : Halves) → half_of high (half_set other (Some value) h) ≡ said (cond (beq high other) (Some (Some value)) None) (half_of high h)
own_half true true value h = refl
own_half true false value h = refl
own_half false true value h = refl
own_half false false value h = refl

-- While no more than 16 are known, entering a half sets this half and leaves all others.
pub half_entered : (known : List Param) (es : List Entry) (param : Param) (high : Bool) (p : Param) (other : Bool) (value : ℕ) → length known ≤ 16 → Holds known es → is_known known p ≡ true →
    half_of high (halves_in (entered_with other p (Some value) es) param) ≡ said (half_says param high p other value) (half_of high (halves_in es param))
half_entered known es param high p other value few h k =
    elim (cases_Bool (same_param param p)) [
      | inl t ↦
          let same : param ≡ p = same_param-equal param p t in
          rw t
          (ap (λ (q : Param). half_of high (halves_in (entered_with other p (Some value) es) q)) same
          ∙ ap (half_of high) (entered_own other p value es)
          ∙ own_half high other value (halves_in es p)
          ∙ ap (λ (q : Param). said (cond (beq high other) (Some (Some value)) None) (half_of high (halves_in es q))) (sym same))
      | inr f ↦
          let room : length (filter (is_other p) es) < 16 = (let l = others_few known es p h k in omega (arith, l, few)) in
          rw f (ap (half_of high) (entered_other other p param value es room (same_turned p param ∙ f)))
    ]
