-- The coded value of a half, by one fold over the places.
use Rattle.std.proofs.Common.{◌≡◌, ℕ, Bool, true, false, cond, ◌&&◌, ◌||◌, leb, List, [], ◌∷◌, Option, Some, None, fold, refl, sym, ap, ◌∙◌, inl, inr}
use Rattle.std.proofs.Math.Bool.{beq}
use Rattle.std.specs.List.{list_any}
use Rattle.std.proofs.lemmas.Bool.{cases_Bool, and_parts, or_parts}
use Rattle.jm_cmds.specs.declared.param.Param.{Param}
use Rattle.ch_param.specs.declared.events.ParamEvent.{ParamEvent}
use Rattle.ch_param.specs.declared.events.ParamEvent.TheVariants.{Entry, Cleared, Other}
use Rattle.jm_cmds.specs.Param.{same_param}
use Rattle.jm_cmds.specs.ParamLaws.{beq-true, same_param-equal}
use Rattle.ch_param.specs.Event.{Place, packet_at, event_at, takes_half, half_ends, half_event_ends}
use Rattle.ch_param.specs.ChapterM.{is_half, event_value, coded_half}

-- what is coded of a half behind an event, which is in a packet from the checkpoint on or in an earlier one
abbrev pub half_step : Param → Bool → Option ℕ → Bool → ParamEvent → Option ℕ
half_step param high half is_coded (Entry other other_high value) =
    cond (same_param param other && beq high other_high) (cond is_coded (Some value) None) half
half_step param high half is_coded Cleared = None
half_step param high half is_coded Other = half

abbrev pub place_step : (channel checkpoint : ℕ) → Param → Bool → Option ℕ → Place → Option ℕ
place_step channel checkpoint param high half place = half_step param high half (leb checkpoint (packet_at place)) (event_at channel place)

-- ## What is coded of a half

-- whether one of these places is of the half, or clears all
is_taken : (channel : ℕ) → Param → (high : Bool) → List Place → Bool
is_taken channel param high places = list_any (λ place. takes_half param high (event_at channel place)) places

-- what is coded with one place more before those of which `later` is coded
among_one : Param → Bool → ParamEvent → Bool → Bool → Option ℕ → Option ℕ
among_one param high event ended is_coded later =
    cond ended later (cond is_coded (cond (is_half param high event) (event_value event) later) later)

among_more : (channel checkpoint : ℕ) (param : Param) (high : Bool) (x : Place) (xs : List Place) →
    coded_half channel checkpoint (x ∷ xs) param high
    ≡ among_one param high (event_at channel x) (list_any (half_ends channel x) xs) (leb checkpoint (packet_at x)) (coded_half channel checkpoint xs param high)
unfolding among_one
among_more channel checkpoint param high x xs =
    elim (cases_Bool (list_any (half_ends channel x) xs)) [
      | inl t ↦ rw t refl
      | inr n ↦ elim (cases_Bool (leb checkpoint (packet_at x))) [ inl l ↦ rw (n, l) refl | inr o ↦ rw (n, o) refl ]
    ]

-- an event of another half leaves what is coded
among_other : (param : Param) (high : Bool) (event : ParamEvent) (ended is_coded : Bool) (later : Option ℕ) → is_half param high event ≡ false → among_one param high event ended is_coded later ≡ later
unfolding among_one
among_other param high event true is_coded later e = refl
among_other param high event false true later e = rw e refl
among_other param high event false false later e = refl

half_takes : (param : Param) (high : Bool) (event : ParamEvent) → takes_half param high event ≡ false → is_half param high event ≡ false
half_takes param high (Entry other half value) e = e
half_takes param high Cleared e = refl
half_takes param high Other e = refl

-- where no place is of the half, nothing is
none_among : (channel checkpoint : ℕ) (param : Param) (high : Bool) (places : List Place) → is_taken channel param high places ≡ false → coded_half channel checkpoint places param high ≡ None
unfolding is_taken
none_among channel checkpoint param high [] e = refl
none_among channel checkpoint param high (x ∷ xs) e =
    let parts = or_parts (takes_half param high (event_at channel x)) (list_any (λ place. takes_half param high (event_at channel place)) xs) e in
    among_more channel checkpoint param high x xs
    ∙ among_other param high (event_at channel x) (list_any (half_ends channel x) xs) (leb checkpoint (packet_at x)) (coded_half channel checkpoint xs param high) (half_takes param high (event_at channel x) parts.0)
    ∙ none_among channel checkpoint param high xs parts.1

-- an event of the half itself
among_this : (channel : ℕ) (param : Param) (high : Bool) (value : ℕ) (is_coded : Bool) (later : Option ℕ) (xs : List Place) → same_param param param ≡ true → beq high high ≡ true →
    (is_taken channel param high xs ≡ false → later ≡ None) →
    cond (is_taken channel param high xs) later (cond is_coded (Some value) None)
    ≡ among_one param high (Entry param high value) (is_taken channel param high xs) is_coded later
unfolding among_one
among_this channel param high value is_coded later xs s t none =
    elim (cases_Bool (is_taken channel param high xs)) [
      | inl a ↦ rw a refl
      | inr n ↦ rw (n, s, t, none n) refl
    ]

among_entry : (channel : ℕ) (param : Param) (high : Bool) (other : Param) (half : Bool) (value : ℕ) (is_coded : Bool) (later : Option ℕ) (xs : List Place) →
    param ≡ other → high ≡ half → (same_param param other && beq high half) ≡ true →
    (is_taken channel param high xs ≡ false → later ≡ None) →
    cond (is_taken channel param high xs) later (cond is_coded (Some value) None)
    ≡ among_one param high (Entry other half value) (is_taken channel other half xs) is_coded later
among_entry channel param high other half value is_coded later xs p h t none =
    let parts = and_parts (same_param param param) (beq high high) (rw (p, h) (rw (p, h) at t)) in
    rw (← p, ← h) (among_this channel param high value is_coded later xs parts.0 parts.1 none)

-- One place more, where `acc` is what was coded before it, and `later` is what is coded of the places behind it.
step : (channel : ℕ) (param : Param) (high : Bool) (acc : Option ℕ) (is_coded : Bool) (later : Option ℕ) (event : ParamEvent) (xs : List Place) →
    (is_taken channel param high xs ≡ false → later ≡ None) →
    cond (is_taken channel param high xs) later (half_step param high acc is_coded event)
    ≡ cond (takes_half param high event || is_taken channel param high xs) (among_one param high event (list_any (λ place. half_event_ends event (event_at channel place)) xs) is_coded later) acc
unfolding is_taken
step channel param high acc is_coded later (Entry other half value) xs none =
    let taken = is_taken channel param high xs in
    elim (cases_Bool (same_param param other && beq high half)) [
      | inl t ↦
          let parts = and_parts (same_param param other) (beq high half) t in
          rw t (among_entry channel param high other half value is_coded later xs (same_param-equal param other parts.0) (beq-true high half parts.1) t none)
      | inr n ↦ rw n (ap (λ (o : Option ℕ). cond taken o acc) (sym (among_other param high (Entry other half value) (is_taken channel other half xs) is_coded later n)))
    ]
step channel param high acc is_coded later Cleared xs none =
    let left = sym (among_other param high Cleared (list_any (λ place. half_event_ends Cleared (event_at channel place)) xs) is_coded later refl) in
    elim (cases_Bool (is_taken channel param high xs)) [ inl a ↦ rw a left | inr n ↦ rw n (sym (none n) ∙ left) ]
step channel param high acc is_coded later Other xs none =
    ap (λ (o : Option ℕ). cond (is_taken channel param high xs) o acc) (sym (among_other param high Other (list_any (λ place. half_event_ends Other (event_at channel place)) xs) is_coded later refl))

-- a fold over the places gives what is coded behind them all
fold-half : (channel checkpoint : ℕ) (param : Param) (high : Bool) (acc : Option ℕ) (places : List Place) →
    fold (place_step channel checkpoint param high) acc places ≡ cond (is_taken channel param high places) (coded_half channel checkpoint places param high) acc
unfolding is_taken
fold-half channel checkpoint param high acc [] = refl
fold-half channel checkpoint param high acc (x ∷ xs) =
    let later = coded_half channel checkpoint xs param high in
    fold-half channel checkpoint param high (place_step channel checkpoint param high acc x) xs
    ∙ step channel param high acc (leb checkpoint (packet_at x)) later (event_at channel x) xs (none_among channel checkpoint param high xs)
    ∙ ap (λ (o : Option ℕ). cond (is_taken channel param high (x ∷ xs)) o acc) (sym (among_more channel checkpoint param high x xs))

pub coded_half-fold : (channel checkpoint : ℕ) (param : Param) (high : Bool) (places : List Place) →
    fold (place_step channel checkpoint param high) None places ≡ coded_half channel checkpoint places param high
coded_half-fold channel checkpoint param high places =
    elim (cases_Bool (is_taken channel param high places)) [
      | inl t ↦ rw (fold-half channel checkpoint param high None places, t) refl
      | inr f ↦ rw (fold-half channel checkpoint param high None places, f) (sym (none_among channel checkpoint param high places f))
    ]
