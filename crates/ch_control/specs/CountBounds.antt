-- How many logs Chapter C may have.
use Rattle.std.proofs.Common.{◌≡◌, ℕ, ◌+◌, ◌-◌, ◌≤◌, ◌<◌, Option, Some, None, Bool, true, false, cond, not, ◌&&◌, eqb, ltb, List, [], ◌∷◌, length, refl, sym, ap, ◌∙◌, arith, length-append, inl, inr}
use Rattle.std.specs.Prelude.{◌==◌, if◌then◌else◌}
use Rattle.std.specs.List.{filter_map, flat_map, cons_option}
use Rattle.std.proofs.lemmas.Bool.{cases_Bool, and_parts, eq-eqb, eqb-true}
use Rattle.std.proofs.lemmas.Bool.Decides.{nat_tests}
use Rattle.jm_cmds.specs.declared.commands.Command.{Command}
use Rattle.jm_cmds.specs.declared.commands.Command.TheVariants.{Control}
use Rattle.jm_cmds.specs.declared.history.Sent.{Sent}
use Rattle.jm_cmds.specs.Control.{is_entry, is_reset}
use Rattle.jm_cmds.specs.History.{Unended}
use Rattle.jm_chapter.specs.Logs.{log_count}
use Rattle.jm_cmds.specs.Keys.{key_count, EndsKey, keys_all, keys_few, none_some}
use Rattle.ch_control.specs.declared.events.ControlEvent.{ControlEvent}
use Rattle.ch_control.specs.declared.events.ControlEvent.TheVariants.{Set, Dropped, Other}
use Rattle.ch_control.specs.ControlEvent.{item_of, control_event, event_at, event_ends, control_ends, IsWithin, AreWithin}
use Rattle.ch_control.specs.ChapterC.{set_logs, event_logs, control_logs}

-- the place of an item among the 124 items
abbrev pub rank : ℕ → ℕ
rank item = item - (cond (ltb 6 item) 1 0 + cond (ltb 38 item) 1 0 + cond (ltb 124 item) 1 0)

rank-below : (number : ℕ) → number < 128 → rank (item_of number) < 124
unfolding item_of
rank-below number l = grind (arith, nat_tests)

rank-apart : (a b : ℕ) → is_entry a ≡ false → is_entry b ≡ false → rank (item_of a) ≡ rank (item_of b) → item_of a ≡ item_of b
unfolding item_of is_entry
rank-apart a b e f h = grind (arith, nat_tests)

-- the key of a controller's event: the rank of its item
abbrev pub key_of : ControlEvent → Option ℕ
key_of (Set number value) = Some (rank (item_of number))
key_of Dropped = None
key_of Other = None

abbrev pub control_key : (channel : ℕ) → Sent → Option ℕ
control_key channel place = key_of (event_at channel place)

-- an event is of no controller of Chapter M
abbrev NoEntry : ControlEvent → Type 0
NoEntry (Set number value) = is_entry number ≡ false
NoEntry Dropped = Unit {0}
NoEntry Other = Unit {0}

pub not-true : (b : Bool) → not b ≡ true → b ≡ false
not-true true e = absurd (let f : false ≡ true = e in cc)
not-true false e = refl

dropped-free : (b : Bool) → NoEntry (cond b Dropped Other)
dropped-free true = tt
dropped-free false = tt

NoEntry-event : (channel : ℕ) (command : Command) → NoEntry (control_event channel command)
NoEntry-event channel (Control at number value) =
    elim (cases_Bool (eqb at channel && not (is_entry number))) [
      | inl t ↦ rw t (not-true (is_entry number) (and_parts (eqb at channel) (not (is_entry number)) t).1)
      | inr f ↦ rw f tt
    ]
NoEntry-event channel command = dropped-free (is_reset command)

meets : (a b : ControlEvent) (k : ℕ) → NoEntry a → NoEntry b → key_of a ≡ Some k → key_of b ≡ Some k → event_ends a b ≡ true
meets (Set number value) (Set other next) k e f p q =
    let same : rank (item_of number) ≡ rank (item_of other) = cc in
    rw (eq-eqb (item_of number) (item_of other) (rank-apart number other e f same)) refl
meets (Set number value) Dropped k e f p q = absurd (none_some k q)
meets (Set number value) Other k e f p q = absurd (none_some k q)
meets Dropped b k e f p q = absurd (none_some k p)
meets Other b k e f p q = absurd (none_some k p)

-- a control of an item ends the one before it
pub EndsKey-control : (channel : ℕ) → EndsKey (control_ends channel) (control_key channel)
EndsKey-control channel = λ x y k p q. meets (event_at channel x) (event_at channel y) k (NoEntry-event channel x.command) (NoEntry-event channel y.command) p q

step-below : (event : ControlEvent) (k : ℕ) → IsWithin event → key_of event ≡ Some k → k < 124
step-below (Set number value) k w e =
    let same : rank (item_of number) ≡ k = cc in
    omega (arith, rank-below number w.0, same)
step-below Dropped k w e = absurd (none_some k e)
step-below Other k w e = absurd (none_some k e)

-- the key of a sustain pedal's event, which has a second log: all have the same one
abbrev pub pedal_of : ControlEvent → Option ℕ
pedal_of (Set number value) = if number == 64 then Some 0 else None
pedal_of Dropped = None
pedal_of Other = None

abbrev pub pedal_key : (channel : ℕ) → Sent → Option ℕ
pedal_key channel place = pedal_of (event_at channel place)

pedal-number : (number k : ℕ) → cond (eqb number 64) (Some 0) None ≡ Some k → (number ≡ 64) × (k ≡ 0)
pedal-number number k e =
    elim (cases_Bool (eqb number 64)) [
      | inl t ↦ let zero : Some 0 ≡ Some k = rw t at e in (eqb-true number 64 t, let same : 0 ≡ k = cc in sym same)
      | inr f ↦ absurd (none_some k (rw f at e))
    ]

pedals-meet : (a b : ControlEvent) (k : ℕ) → pedal_of a ≡ Some k → pedal_of b ≡ Some k → event_ends a b ≡ true
pedals-meet (Set number value) (Set other next) k p q =
    let first = (pedal-number number k p).0 in
    let second = (pedal-number other k q).0 in
    rw (eq-eqb (item_of number) (item_of other) (ap item_of first ∙ sym (ap item_of second))) refl
pedals-meet (Set number value) Dropped k p q = absurd (none_some k q)
pedals-meet (Set number value) Other k p q = absurd (none_some k q)
pedals-meet Dropped b k p q = absurd (none_some k p)
pedals-meet Other b k p q = absurd (none_some k p)

EndsKey-pedal : (channel : ℕ) → EndsKey (control_ends channel) (pedal_key channel)
EndsKey-pedal channel = λ x y k p q. pedals-meet (event_at channel x) (event_at channel y) k p q

pedal-below : (event : ControlEvent) (k : ℕ) → pedal_of event ≡ Some k → k < 1
pedal-below (Set number value) k e = omega (arith, (pedal-number number k e).1)
pedal-below Dropped k e = absurd (none_some k e)
pedal-below Other k e = absurd (none_some k e)

step-set : (channel : ℕ) (session : List Sent) (number value : ℕ) (pedals : List ℕ) →
    length (set_logs channel session number value) + length pedals ≡ 1 + length (cons_option (cond (eqb number 64) (Some 0) None) pedals)
step-set channel session number value pedals =
    elim (cases_Bool (eqb number 64)) [ inl t ↦ rw t (omega arith) | inr f ↦ rw f (omega arith) ]

step-logs : (channel : ℕ) (session : List Sent) (event : ControlEvent) (keys pedals : List ℕ) →
    length (event_logs channel session event) + length keys + length pedals ≡ length (cons_option (key_of event) keys) + length (cons_option (pedal_of event) pedals)
step-logs channel session (Set number value) keys pedals = omega (arith, step-set channel session number value pedals)
step-logs channel session Dropped keys pedals = omega arith
step-logs channel session Other keys pedals = omega arith

-- each controller has a log, and the sustain pedal one more
pub logs-keys : (channel : ℕ) (session places : List Sent) → log_count (control_logs channel session) places ≡ key_count (control_key channel) places + key_count (pedal_key channel) places
logs-keys channel session [] = refl
logs-keys channel session (x ∷ xs) =
    omega (
      arith,
      length-append (control_logs channel session x) (flat_map (control_logs channel session) xs),
      step-logs channel session (event_at channel x) (filter_map (control_key channel) xs) (filter_map (pedal_key channel) xs),
      logs-keys channel session xs,
    )

-- there are 124 items, and one sustain pedal
pub control-few : (channel : ℕ) (session places : List Sent) → Unended (control_ends channel) places → AreWithin channel places → log_count (control_logs channel session) places ≤ 125
control-few channel session places u w =
    let ends = control_ends channel in
    let below = keys_all (λ place. IsWithin (event_at channel place)) (λ k. k < 124) (control_key channel) (λ place k b e. step-below (event_at channel place) k b e) places w in
    let pedals = keys_all (λ place. IsWithin (event_at channel place)) (λ k. k < 1) (pedal_key channel) (λ place k b e. pedal-below (event_at channel place) k e) places w in
    omega (
      arith,
      logs-keys channel session places,
      keys_few ends (control_key channel) (EndsKey-control channel) 124 places u below,
      keys_few ends (pedal_key channel) (EndsKey-pedal channel) 1 places u pedals,
    )
