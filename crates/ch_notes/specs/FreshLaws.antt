-- A chapter shows what the packet before brought.
use Rattle.std.proofs.Common.{◌≡◌, ℕ, suc, ◌+◌, ◌*◌, ◌%◌, ◌≤◌, Bool, true, false, cond, not, ◌||◌, ◌&&◌, eqb, ltb, leb, List, [], ◌∷◌, ◌++◌, length, refl, sym, ap, ◌∙◌, arith, inl, inr, append_assoc, min}
use Rattle.std.specs.List.{list_any, AllByRecursion, flat_map, cons_option}
use Rattle.std.proofs.lemmas.Bool.{cases_Bool, lt-ltb, le-ltb, eqb-true, eqb-false, ne_eqb, eq-eqb, and_parts, cases_lt, cases_eq}
use Rattle.std.proofs.lemmas.List.Sums.{sum_by-cons}
use Rattle.jm_wire.specs.Heads.{bit}
use Rattle.jm_cmds.specs.declared.history.Sent.{Sent}
use Rattle.jm_cmds.specs.declared.commands.Command.{Command}
use Rattle.jm_cmds.specs.declared.commands.Command.TheVariants.{NoteOff, NoteOn}
use Rattle.jm_cmds.specs.Command.{IsCommand}
use Rattle.jm_cmds.specs.Control.{ends_notes}
use Rattle.jm_cmds.specs.History.{standing, below}
use Rattle.jm_cmds.specs.HistoryLaws.{AllByRecursion-filter, AllByRecursion-standing, AllByRecursion-weaker, Unended-coded}
use Rattle.jm_cmds.specs.Sent.{packet_of, is_fresh}
use Rattle.ch_notes.specs.declared.events.NoteEvent.{NoteEvent}
use Rattle.ch_notes.specs.declared.events.NoteEvent.TheVariants.{Struck, Released, Cleared, Other}
use Rattle.ch_notes.specs.declared.shape.Shape.{Shape}
use Rattle.ch_notes.specs.NoteEvent.{note_event, event_at, note_ends, IsWithin, AreWithin}
use Rattle.ch_notes.specs.Shape.{counted, no_notes, is_bare, high_field, mark_octets, shaped}
use Rattle.ch_notes.specs.ChapterN.{is_struck, is_released, event_log, note_log, y_bit, log_count, released, released_note, released_fresh, coded_notes, chapter_n, fresh_n}
use Rattle.ch_notes.specs.Count.{IsCount}
use Rattle.ch_notes.specs.CountLaws.{counted-logs, counted-off, counted-fresh_off}
use Rattle.ch_notes.specs.CountBounds.{IsCount-unended}
use Rattle.ch_notes.specs.ChapterLaws.{chapter_of-shaped, shaped-bare, shaped-full}
use Rattle.ch_notes.specs.Fresh.{log_number, clear_s, shows_fresh}

cleared-within : (b : Bool) → IsWithin (cond b Cleared Other)
cleared-within true = tt
cleared-within false = tt

-- a command within its bounds means a note within its bounds
pub IsWithin-event : (channel : ℕ) (command : Command) → IsCommand command → IsWithin (note_event channel command)
IsWithin-event channel (NoteOn at note velocity) h =
    elim (cases_Bool (eqb at channel)) [
      | inl t ↦ elim (cases_Bool (eqb velocity 0)) [
        | inl z ↦ rw (t, z) h.1
        | inr n ↦ let some : velocity ≡ 0 → ⊥ = eqb-false velocity 0 n in rw (t, n) (h.1, h.2, omega arith)
      ]
      | inr f ↦ rw f tt
    ]
IsWithin-event channel (NoteOff at note velocity) h =
    elim (cases_Bool (eqb at channel)) [ inl t ↦ rw t h.1 | inr f ↦ rw f tt ]
IsWithin-event channel command h = cleared-within (ends_notes channel command)

-- ## Both kinds of notes

mix : (a b f x y : Bool) → (((a || b) && f) || (x || y)) ≡ (((b && f) || x) || ((a && f) || y))
mix true true true x y = refl
mix true false true true y = refl
mix true false true false y = refl
mix false true true x y = refl
mix false false true x y = refl
mix true true false x y = refl
mix true false false x y = refl
mix false true false x y = refl
mix false false false x y = refl

struck_fresh : (channel packet : ℕ) → List Sent → Bool
struck_fresh channel packet places = list_any (λ place. is_struck (event_at channel place) && is_fresh packet place) places

both-fresh : (channel packet : ℕ) (places : List Sent) →
    list_any (λ place. (is_struck (event_at channel place) || is_released (event_at channel place)) && is_fresh packet place) places
    ≡ (released_fresh channel packet places || struck_fresh channel packet places)
unfolding struck_fresh
both-fresh channel packet [] = refl
both-fresh channel packet (x ∷ xs) =
    let a = is_struck (event_at channel x) in
    let b = is_released (event_at channel x) in
    let f = is_fresh packet x in
    ap (λ (r : Bool). ((a || b) && f) || r) (both-fresh channel packet xs)
    ∙ mix a b f (released_fresh channel packet xs) (struck_fresh channel packet xs)

-- where no note is released none of the packet before is, and so of struck ones
step-none : (event : NoteEvent) (fresh : Bool) (notes : List ℕ) → length (cons_option (released_note event) notes) ≡ 0 → ((is_released event && fresh) ≡ false) × (length notes ≡ 0)
step-none (Struck note velocity) fresh notes e = (refl, e)
step-none (Released note velocity) fresh notes e = absurd (omega (arith, e))
step-none Cleared fresh notes e = (refl, e)
step-none Other fresh notes e = (refl, e)

none-released : (channel packet : ℕ) (places : List Sent) → length (released channel places) ≡ 0 → released_fresh channel packet places ≡ false
none-released channel packet [] e = refl
none-released channel packet (x ∷ xs) e =
    let h = step-none (event_at channel x) (is_fresh packet x) (released channel xs) e in
    rw h.0 (none-released channel packet xs h.1)

-- ## The logs

step-clear : (fresh : Bool) (y : ℕ) (event : NoteEvent) (logs : ℕ) (rest : List ℕ) → IsWithin event →
    clear_s (cond (is_struck event) 1 0 + logs) (event_log (cond fresh 0 128) y event ++ rest) ≡ ((is_struck event && fresh) || clear_s logs rest)
step-clear true y (Struck note velocity) logs rest w =
    let more : 1 + logs ≡ suc logs = omega arith in
    let none : 0 + note ≡ note = omega arith in
    rw (more, none, lt-ltb note 128 w.0) refl
step-clear false y (Struck note velocity) logs rest w =
    let more : 1 + logs ≡ suc logs = omega arith in
    rw (more, le-ltb (128 + note) 128 (omega arith)) refl
step-clear fresh y (Released note velocity) logs rest w = let same : 0 + logs ≡ logs = omega arith in rw same refl
step-clear fresh y Cleared logs rest w = let same : 0 + logs ≡ logs = omega arith in rw same refl
step-clear fresh y Other logs rest w = let same : 0 + logs ≡ logs = omega arith in rw same refl

clear-logs : (channel packet tick : ℕ) (places : List Sent) (rest : List ℕ) → AreWithin channel places →
    clear_s (log_count channel places) (flat_map (note_log channel packet tick) places ++ rest) ≡ struck_fresh channel packet places
unfolding struck_fresh
clear-logs channel packet tick [] rest w = refl
clear-logs channel packet tick (x ∷ xs) rest w =
    let text = note_log channel packet tick in
    let more = sum_by-cons (λ place. cond (is_struck (event_at channel place)) 1 0) x xs in
    let step = step-clear (is_fresh packet x) (y_bit tick x) (event_at channel x) (log_count channel xs) (flat_map text xs ++ rest) w.0 in
    ap (λ (n : ℕ). clear_s n ((text x ++ flat_map text xs) ++ rest)) more
    ∙ ap (λ (t : List ℕ). clear_s (cond (is_struck (event_at channel x)) 1 0 + log_count channel xs) t) (append_assoc (text x) (flat_map text xs) rest)
    ∙ step
    ∙ ap (λ (b : Bool). (is_struck (event_at channel x) && is_fresh packet x) || b) (clear-logs channel packet tick xs rest w.1)

-- ## The header

-- its octets
abbrev first_field : Shape → ℕ
first_field s = 128 * bit (not s.fresh_off) + min 127 s.logs

abbrev second_field : Shape → ℕ
second_field s = 16 * s.low + high_field s

first-shows : (s : Shape) → ltb (first_field s) 128 ≡ s.fresh_off
first-shows s =
    elim (cases_Bool s.fresh_off) [
      | inl t ↦ rw t (lt-ltb (0 + min 127 s.logs) 128 (omega arith))
      | inr f ↦ rw f (le-ltb (128 + min 127 s.logs) 128 (omega arith))
    ]

first-len : (s : Shape) → first_field s % 128 ≡ min 127 s.logs
first-len s =
    elim (cases_Bool s.fresh_off) [ inl t ↦ rw t (omega arith) | inr f ↦ rw f (omega arith) ]

second-apart : (s : Shape) → IsCount s → s.logs ≡ 127 → eqb (second_field s) 240 ≡ false
second-apart s k is =
    let tell : eqb s.logs 127 ≡ true = eq-eqb s.logs 127 is in
    elim (cases_Bool (eqb s.off 0)) [
      | inl none ↦
          let off : s.off ≡ 0 = eqb-true s.off 0 none in
          let low = k.none_low off in
          rw (none, tell) (ne_eqb (16 * s.low + 1) 240 (λ e. omega (arith, e, low)))
      | inr f ↦
          let apart : s.off ≡ 0 → ⊥ = eqb-false s.off 0 f in
          let ordered : s.low ≤ s.high = k.some (omega arith) in
          rw f (ne_eqb (16 * s.low + s.high) 240 (λ e. omega (arith, e, ordered, k.high)))
    ]

second-all : (s : Shape) → IsCount s → s.logs ≡ 128 → second_field s ≡ 240
second-all s k is =
    let off : s.off ≡ 0 = omega (arith, is, k.notes) in
    let low = k.none_low off in
    let high = k.none_high off in
    let some : eqb s.logs 127 ≡ false = ne_eqb s.logs 127 (λ e. omega (arith, e, is)) in
    rw (off, some) (omega (arith, low, high))

number-of-logs : (s : Shape) → IsCount s → log_number (first_field s) (second_field s) ≡ s.logs
number-of-logs s k =
    elim (cases_lt s.logs 127) [
      | inl few ↦
          let len : first_field s % 128 ≡ s.logs = first-len s ∙ omega (arith, few) in
          let apart : eqb s.logs 127 ≡ false = ne_eqb s.logs 127 (λ e. omega (arith, e, few)) in
          ap (λ (n : ℕ). cond (eqb n 127 && eqb (second_field s) 240) 128 n) len ∙ rw apart refl
      | inr many ↦
          let len : first_field s % 128 ≡ 127 = first-len s ∙ omega (arith, many) in
          ap (λ (n : ℕ). cond (eqb n 127 && eqb (second_field s) 240) 128 n) len
          ∙ elim (cases_eq s.logs 127) [
            | inl is ↦ rw (second-apart s k is) (sym is)
            | inr apart ↦
                let is : s.logs ≡ 128 = omega (arith, k.notes) in
                rw (second-all s k is) (sym is)
          ]
    ]

-- ## The whole chapter

shaped-shows : (channel packet tick : ℕ) (places : List Sent) → IsCount (counted channel packet no_notes places) → AreWithin channel places →
    (released_fresh channel packet places || struck_fresh channel packet places)
    ≡ shows_fresh (shaped (counted channel packet no_notes places) (flat_map (note_log channel packet tick) places))
unfolding struck_fresh
shaped-shows channel packet tick places k w =
    let s = counted channel packet no_notes places in
    let lines = flat_map (note_log channel packet tick) places in
    let logs : s.logs ≡ log_count channel places = omega (arith, counted-logs channel packet no_notes places) in
    let off : s.off ≡ length (released channel places) = omega (arith, counted-off channel packet no_notes places) in
    let struck = clear-logs channel packet tick places in
    elim (cases_Bool (is_bare s)) [
      | inl bare ↦
          let parts = and_parts (eqb s.logs 0) (eqb s.off 0) bare in
          let no_logs : log_count channel places ≡ 0 = sym logs ∙ eqb-true s.logs 0 parts.0 in
          let no_off : length (released channel places) ≡ 0 = sym off ∙ eqb-true s.off 0 parts.1 in
          let none_released : released_fresh channel packet places ≡ false = none-released channel packet places no_off in
          let none_struck : struck_fresh channel packet places ≡ false = sym (struck [] w) ∙ ap (λ (n : ℕ). clear_s n (lines ++ [])) no_logs in
          rw (none_released, none_struck) (ap shows_fresh (sym (shaped-bare s lines bare)))
      | inr full ↦
          let b : ltb (first_field s) 128 ≡ released_fresh channel packet places = first-shows s ∙ counted-fresh_off channel packet no_notes places in
          let n : log_number (first_field s) (second_field s) ≡ log_count channel places = number-of-logs s k ∙ logs in
          let c : clear_s (log_number (first_field s) (second_field s)) (lines ++ mark_octets s) ≡ struck_fresh channel packet places = ap (λ (m : ℕ). clear_s m (lines ++ mark_octets s)) n ∙ struck (mark_octets s) w in
          sym (ap shows_fresh (shaped-full s lines full) ∙ ap (λ (r : Bool). r || clear_s (log_number (first_field s) (second_field s)) (lines ++ mark_octets s)) b ∙ ap (λ (r : Bool). released_fresh channel packet places || r) c)
    ]

pub fresh_n-shows : (channel checkpoint packet tick : ℕ) (sent : List Sent) → AllByRecursion (λ place. IsCommand place.command) sent →
    fresh_n channel checkpoint packet sent ≡ shows_fresh (chapter_n channel checkpoint packet tick sent)
unfolding fresh_n chapter_n
fresh_n-shows channel checkpoint packet tick sent h =
    let places = coded_notes channel checkpoint packet sent in
    let within_all = AllByRecursion-weaker (λ (place : Sent). IsCommand place.command) (λ place. IsWithin (event_at channel place)) (λ place b. IsWithin-event channel place.command b) sent h in
    let seen = below packet_of packet sent in
    let within_seen = AllByRecursion-filter (λ place. IsWithin (event_at channel place)) (λ place. ltb (packet_of place) packet) sent within_all in
    let within_standing = AllByRecursion-standing (λ place. IsWithin (event_at channel place)) (note_ends channel) seen within_seen in
    let w : AreWithin channel places = AllByRecursion-filter (λ place. IsWithin (event_at channel place)) (λ place. leb checkpoint (packet_of place)) (standing (note_ends channel) seen) within_standing in
    let k = IsCount-unended channel packet places (Unended-coded (note_ends channel) packet_of checkpoint seen) w in
    both-fresh channel packet places
    ∙ shaped-shows channel packet tick places k w
    ∙ ap shows_fresh (sym (chapter_of-shaped channel packet tick places w))
