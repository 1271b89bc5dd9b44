-- The controllers in keys and an array.
use Rattle.std.proofs.Common.{◌≡◌, ℕ, ◌+◌, ◌*◌, ◌<◌, ◌≤◌, Bool, true, false, not, cond, ◌||◌, eqb, leb, List, [], ◌∷◌, ◌++◌, Option, length, refl, sym, ap, ◌∙◌, inl, inr, arith, get_or, set, append-nil, length-append}
use Rattle.std.specs.List.{flat_map, list_any, filter}
use Rattle.std.proofs.lemmas.Bool.{cases_Bool, eqb-true, eqb-false, or_parts}
use Rattle.std.proofs.lemmas.Bool.Decides.{nat_tests}
use Rattle.std.proofs.lemmas.List.{get_or-set_same, get_or-set_other}
use Rattle.jm_recency.specs.Recency.{holds, without, touched, since_stamp, AreUpTo, IsRecency, first_key, from_key, IsAtKey}
use Rattle.jm_recency.specs.RecencyLaws.{from_key-first, IsAtKey-first}
use Rattle.jm_recency.proofs.LinkLaws.{few_keys}
use Rattle.jm_cmds.specs.KeptItem.{kept_fresh}
use Rattle.jm_cmds.specs.KeptItem.{kept_since}
use Rattle.jm_cmds.specs.Control.{is_entry}
use Rattle.jm_cmds.specs.Sent.{s_of}
use Rattle.jm_chapter.specs.Logs.{logs_text, listed_size}
use Rattle.jm_chapter.specs.LogsLaws.{length-logs_text}
use Rattle.ch_control.specs.declared.counts.Counts.{Counts}
use Rattle.ch_control.specs.declared.events.ControlEvent.{ControlEvent}
use Rattle.ch_control.specs.declared.events.ControlEvent.TheVariants.{Set, Dropped, Other}
use Rattle.ch_control.specs.ControlEvent.{item_of, is_kept, event_ends}
use Rattle.ch_control.specs.ControlTable.{kept_noted, AreKeptUpTo, ControlsKept, logs_of, logs_count, kept_texts, controls_text, controls_in, twin_of, left_by_121}

-- two numbers are of one item where they are equal, or one is the other's twin
same_item : (a b : ℕ) → eqb (item_of a) (item_of b) ≡ (eqb a b || eqb a (twin_of b))
unfolding item_of
same_item a b = grind (arith, nat_tests)

-- ## A control more

abbrev gone : (number value : ℕ) → ℕ × ControlEvent → Bool
gone number value k = not (event_ends k.1 (Set number value))

left_plain : (number value : ℕ) (values : List ℕ) (es : List (ℕ × ℕ)) → eqb number 121 ≡ false →
    controls_in (set values number value) (without number (without (twin_of number) es)) ≡ filter (gone number value) (controls_in values es)
left_plain number value values [] h = refl
left_plain number value values (e ∷ es) h =
    let ih = left_plain number value values es h in
    let item = same_item e.0 number in
    elim (cases_Bool (eqb e.0 number)) [
      | inl a ↦ elim (cases_Bool (eqb e.0 (twin_of number))) [ inl b ↦ rw (item, b, a) ih | inr b ↦ rw (item, b, a) ih ]
      | inr a ↦ elim (cases_Bool (eqb e.0 (twin_of number))) [
        | inl b ↦ rw (item, b, a) ih
        | inr b ↦ rw (item, b, a, h, get_or-set_other values number e.0 value 0 (eqb-false e.0 number a)) (ap (λ (l : List (ℕ × ControlEvent)). (e.1, Set e.0 (get_or values e.0 0)) ∷ l) ih)
      ]
    ]

left_set_back : (number value : ℕ) (values : List ℕ) (es : List (ℕ × ℕ)) → eqb number 121 ≡ true →
    controls_in (set values number value) (without number (without (twin_of number) (left_by_121 es))) ≡ filter (gone number value) (controls_in values es)
left_set_back number value values [] h = refl
left_set_back number value values (e ∷ es) h =
    let ih = left_set_back number value values es h in
    let item = same_item e.0 number in
    elim (cases_Bool (is_kept e.0)) [
      | inl k ↦ elim (cases_Bool (eqb e.0 number)) [
        | inl a ↦ elim (cases_Bool (eqb e.0 (twin_of number))) [ inl b ↦ rw (k, item, b, a) ih | inr b ↦ rw (k, item, b, a) ih ]
        | inr a ↦ elim (cases_Bool (eqb e.0 (twin_of number))) [
          | inl b ↦ rw (k, item, b, a) ih
          | inr b ↦ rw (k, item, b, a, h, get_or-set_other values number e.0 value 0 (eqb-false e.0 number a)) (ap (λ (l : List (ℕ × ControlEvent)). (e.1, Set e.0 (get_or values e.0 0)) ∷ l) ih)
        ]
      ]
      | inr k ↦ elim (cases_Bool (eqb e.0 number)) [
        | inl a ↦ rw (k, item, a) ih
        | inr a ↦ elim (cases_Bool (eqb e.0 (twin_of number))) [ inl b ↦ rw (k, item, b, a) ih | inr b ↦ rw (k, item, b, a, h) ih ]
      ]
    ]

controls-push : (values : List ℕ) (es : List (ℕ × ℕ)) (key stamp : ℕ) → controls_in values (es ++ (key, stamp) ∷ []) ≡ controls_in values es ++ (stamp, Set key (get_or values key 0)) ∷ []
controls-push values [] key stamp = refl
controls-push values (e ∷ es) key stamp = ap (λ (l : List (ℕ × ControlEvent)). (e.1, Set e.0 (get_or values e.0 0)) ∷ l) (controls-push values es key stamp)

pub controls_set : (number value packet : ℕ) (values : List ℕ) (es : List (ℕ × ℕ)) → number < length values →
    controls_in (set values number value) (touched number packet (without (twin_of number) (cond (eqb number 121) (left_by_121 es) es))) ≡ kept_noted (Set number value) packet (controls_in values es)
controls_set number value packet values es l =
    let new = set values number value in
    let stay : List (ℕ × ControlEvent) = filter (gone number value) (controls_in values es) in
    let left : controls_in new (without number (without (twin_of number) (cond (eqb number 121) (left_by_121 es) es))) ≡ stay =
    elim (cases_Bool (eqb number 121)) [ inl t ↦ rw t (left_set_back number value values es t) | inr f ↦ rw f (left_plain number value values es f) ] in
    controls-push new (without number (without (twin_of number) (cond (eqb number 121) (left_by_121 es) es))) number packet
    ∙ ap (λ (k : List (ℕ × ControlEvent)). k ++ (packet, Set number (get_or new number 0)) ∷ []) left
    ∙ ap (λ (v : ℕ). stay ++ (packet, Set number v) ∷ []) (get_or-set_same values number value 0 l)

-- a reset drops all
pub controls_dropped : (values : List ℕ) (packet : ℕ) (es : List (ℕ × ℕ)) → [] ≡ kept_noted Dropped packet (controls_in values es)
controls_dropped values packet es = sym (append-nil _ ∙ all_go es)
  where
    all_go : (es : List (ℕ × ℕ)) → filter (λ k. not (event_ends k.1 Dropped)) (controls_in values es) ≡ []
    all_go [] = refl
    all_go (e ∷ es) = all_go es

-- what means nothing leaves all
pub controls_other : (values : List ℕ) (packet : ℕ) (es : List (ℕ × ℕ)) → controls_in values es ≡ kept_noted Other packet (controls_in values es)
controls_other values packet es = sym (append-nil _ ∙ all_stay es)
  where
    all_stay : (es : List (ℕ × ℕ)) → filter (λ k. not (event_ends k.1 Other)) (controls_in values es) ≡ controls_in values es
    all_stay [] = refl
    all_stay (e ∷ es) = ap (λ (l : List (ℕ × ControlEvent)). (e.1, Set e.0 (get_or values e.0 0)) ∷ l) (all_stay es)

pub controls_since : (values : List ℕ) (packet : ℕ) (es : List (ℕ × ℕ)) → controls_in values (since_stamp packet es) ≡ kept_since packet (controls_in values es)
controls_since values packet [] = refl
controls_since values packet (e ∷ es) =
    let ih = controls_since values packet es in
    elim (cases_Bool (leb packet e.1)) [
      | inl t ↦ rw t (ap (λ (l : List (ℕ × ControlEvent)). (e.1, Set e.0 (get_or values e.0 0)) ∷ l) ih)
      | inr f ↦ rw f ih
    ]

pub stamps_up_to : (values : List ℕ) (packet : ℕ) (es : List (ℕ × ℕ)) → AreKeptUpTo packet (controls_in values es) → AreUpTo packet es
stamps_up_to values packet [] h = tt
stamps_up_to values packet (e ∷ es) h = (h.0, stamps_up_to values packet es h.1)

-- ## Keys

pub up_to_filter : (packet : ℕ) (p : ℕ × ℕ → Bool) (es : List (ℕ × ℕ)) → AreUpTo packet es → AreUpTo packet (filter p es)
up_to_filter packet p [] h = tt
up_to_filter packet p (e ∷ es) h =
    let ih = up_to_filter packet p es h.1 in
    elim (cases_Bool (p e)) [ inl t ↦ rw t (h.0, ih) | inr f ↦ rw f ih ]

pub apart_filter : (key : ℕ) (p : ℕ × ℕ → Bool) (es : List (ℕ × ℕ)) → holds key es ≡ false → holds key (filter p es) ≡ false
apart_filter key p [] h = refl
apart_filter key p (e ∷ es) h =
    let both = or_parts (eqb e.0 key) (holds key es) h in
    let ih = apart_filter key p es both.1 in
    elim (cases_Bool (p e)) [ inl t ↦ rw (t, both.0) ih | inr f ↦ rw f ih ]

apart_push : (key number stamp : ℕ) (es : List (ℕ × ℕ)) → holds key es ≡ false → eqb number key ≡ false → holds key (es ++ (number, stamp) ∷ []) ≡ false
apart_push key number stamp [] h n = rw n refl
apart_push key number stamp (e ∷ es) h n =
    let both = or_parts (eqb e.0 key) (holds key es) h in
    rw both.0 (apart_push key number stamp es both.1 n)

not_entry : (number : ℕ) → is_entry number ≡ false → eqb number 6 ≡ false
unfolding is_entry
not_entry number h = (or_parts (eqb number 6) (eqb number 38) h).0

choice_apart : (key : ℕ) (b : Bool) (es : List (ℕ × ℕ)) → holds key es ≡ false → holds key (cond b (left_by_121 es) es) ≡ false
choice_apart key true es h = apart_filter key (λ e. is_kept e.0) es h
choice_apart key false es h = h

pub choice_up_to : (packet : ℕ) (b : Bool) (es : List (ℕ × ℕ)) → AreUpTo packet es → AreUpTo packet (cond b (left_by_121 es) es)
choice_up_to packet true es h = up_to_filter packet (λ e. is_kept e.0) es h
choice_up_to packet false es h = h

pub ended_up_to : (packet number : ℕ) (es : List (ℕ × ℕ)) → AreUpTo packet es → AreUpTo packet (without (twin_of number) (cond (eqb number 121) (left_by_121 es) es))
ended_up_to packet number es h =
    let rest = cond (eqb number 121) (left_by_121 es) es in
    up_to_filter packet (λ e. not (eqb e.0 (twin_of number))) rest (choice_up_to packet (eqb number 121) es h)

pub set_apart : (number packet : ℕ) (es : List (ℕ × ℕ)) → holds 6 es ≡ false → is_entry number ≡ false →
    holds 6 (touched number packet (without (twin_of number) (cond (eqb number 121) (left_by_121 es) es))) ≡ false
set_apart number packet es h e =
    let rest = cond (eqb number 121) (left_by_121 es) es in
    let ended = without (twin_of number) rest in
    let left = apart_filter 6 (λ e. not (eqb e.0 (twin_of number))) rest (choice_apart 6 (eqb number 121) es h) in
    apart_push 6 number packet (without number ended) (apart_filter 6 (λ e. not (eqb e.0 number)) ended left) (not_entry number e)

-- ## Walks

-- what Control 121 sets back, one key at a time
pub set_back_step : (key : ℕ) (es : List (ℕ × ℕ)) → is_kept key ≡ false → left_by_121 (without key es) ≡ left_by_121 es
set_back_step key [] h = refl
set_back_step key (e ∷ es) h =
    let ih = set_back_step key es h in
    elim (cases_Bool (eqb e.0 key)) [
      | inl t ↦ let k : is_kept e.0 ≡ false = ap is_kept (eqb-true e.0 key t) ∙ h in rw (t, k) ih
      | inr f ↦ elim (cases_Bool (is_kept e.0)) [
        | inl k ↦ rw (f, k) (ap (λ (l : List (ℕ × ℕ)). e ∷ l) ih)
        | inr k ↦ rw (f, k) ih
      ]
    ]

length-filter : (p : ℕ × ℕ → Bool) (es : List (ℕ × ℕ)) → length (filter p es) ≤ length es
length-filter p [] = omega arith
length-filter p (e ∷ es) =
    let ih = length-filter p es in
    elim (cases_Bool (p e)) [ inl t ↦ rw t (omega (arith, ih)) | inr f ↦ rw f (omega (arith, ih)) ]

pub fewer : (key : ℕ) (es : List (ℕ × ℕ)) → holds key es ≡ true → length (without key es) < length es
fewer key [] h = absurd (let none : false ≡ true = h in cc)
fewer key (e ∷ es) h =
    elim (cases_Bool (eqb e.0 key)) [
      | inl t ↦ rw t (omega (arith, length-filter (λ e. not (eqb e.0 key)) es))
      | inr f ↦ rw f (omega (arith, fewer key es (rw f at h)))
    ]

-- ## How many logs there may be

logs_by_keys : (counts : Counts) (toggles n low : ℕ) (values : List ℕ) (es : List (ℕ × ℕ)) → IsRecency n low es → logs_count counts toggles (controls_in values es) ≡ length es + cond (holds 64 es) 1 0
logs_by_keys counts toggles n low values [] h = refl
logs_by_keys counts toggles n low values (e ∷ es) h =
    let ih = logs_by_keys counts toggles n e.1 values es h.3 in
    elim (cases_Bool (eqb e.0 64)) [
      | inl t ↦
          let absent : holds 64 es ≡ false = ap (λ (k : ℕ). holds k es) (sym (eqb-true e.0 64 t)) ∙ h.2 in
          let rest : logs_count counts toggles (controls_in values es) ≡ length es + 0 = ih ∙ rw absent refl in
          rw t (omega (arith, rest))
      | inr f ↦ rw f (omega (arith, ih))
    ]

bit_small : (b : Bool) → cond b 1 0 ≤ 1
bit_small true = omega arith
bit_small false = omega arith

-- 127 keys at most, since 6 is none of them, and the pedal's second log
pub few_logs : (counts : Counts) (toggles : ℕ) (values : List ℕ) (es : List (ℕ × ℕ)) → IsRecency 128 0 es → holds 6 es ≡ false → logs_count counts toggles (controls_in values es) ≤ 128
few_logs counts toggles values es h absent =
    let six : 6 < 128 = omega arith in
    let low : 0 ≤ 0 = omega arith in
    let few = few_keys 128 0 ((6, 0) ∷ es) (six, low, absent, h) in
    omega (arith, few, logs_by_keys counts toggles 128 0 values es h, bit_small (holds 64 es))

-- a walk that counts begins
pub tally_starts : (counts : Counts) (toggles packet : ℕ) (values : List ℕ) (es : List (ℕ × ℕ)) (at : Option ℕ) → at ≡ first_key es → IsRecency 128 0 es → holds 6 es ≡ false →
    IsAtKey es at
    × (0 + logs_count counts toggles (controls_in values (from_key es at)) ≡ logs_count counts toggles (controls_in values es))
    × ((false || list_any (kept_fresh packet) (controls_in values (from_key es at))) ≡ list_any (kept_fresh packet) (controls_in values es))
    × (logs_count counts toggles (controls_in values es) ≤ 128)
tally_starts counts toggles packet values es at f h absent =
    let all : from_key es at ≡ es = ap (from_key es) f ∙ from_key-first es in
    (rw f (IsAtKey-first es), rw all (omega arith), rw all refl, few_logs counts toggles values es h absent)

-- ## The length

length-kept_texts : (counts : Counts) (toggles packet : ℕ) (ks : List (ℕ × ControlEvent)) → length (kept_texts counts toggles packet ks) ≡ 2 * logs_count counts toggles ks
length-kept_texts counts toggles packet [] = refl
length-kept_texts counts toggles packet (k ∷ ks) =
    let s = s_of (kept_fresh packet k) in
    let logs = logs_of counts toggles k.1 in
    omega (
      arith,
      length-append (logs_text s logs) (kept_texts counts toggles packet ks),
      length-append logs (flat_map (λ k. logs_of counts toggles k.1) ks),
      length-logs_text s logs,
      length-kept_texts counts toggles packet ks,
    )

pub length-controls_text : (packet : ℕ) (table : ControlsKept) → length (controls_text packet table) ≡ listed_size (logs_count table.counts table.pedal.toggles table.kept)
length-controls_text packet table =
    let count = logs_count table.counts table.pedal.toggles table.kept in
    let l = length-kept_texts table.counts table.pedal.toggles packet table.kept in
    elim (cases_Bool (eqb count 0)) [ inl t ↦ rw t refl | inr f ↦ rw f (omega (arith, l)) ]
