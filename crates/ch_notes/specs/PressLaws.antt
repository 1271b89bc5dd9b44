-- How many logs Chapter A may have, and what its octets show.
use Rattle.std.proofs.Common.{◌≡◌, ℕ, ◌+◌, ◌≤◌, ◌<◌, Bool, true, false, cond, eqb, leb, ltb, Some, List, [], ◌∷◌, length, refl, ap, ◌∙◌, arith, length-append, inl, inr}
use Rattle.std.specs.List.{filter_map, cons_option, flat_map, AllByRecursion}
use Rattle.std.proofs.lemmas.Bool.{cases_Bool}
use Rattle.jm_cmds.specs.Sent.{shows_fresh as header_shows_fresh}
use Rattle.jm_cmds.specs.declared.commands.Command.{Command}
use Rattle.jm_cmds.specs.declared.commands.Command.TheVariants.{PolyPressure}
use Rattle.jm_cmds.specs.declared.history.Sent.{Sent}
use Rattle.jm_cmds.specs.Command.{IsCommand}
use Rattle.jm_cmds.specs.Control.{ends_controllers}
use Rattle.jm_cmds.specs.History.{standing, below, Unended}
use Rattle.jm_cmds.specs.HistoryLaws.{Unended-coded, AllByRecursion-filter, AllByRecursion-standing, AllByRecursion-weaker}
use Rattle.jm_cmds.specs.Keys.{key_count, keys_all, keys_few, none_some}
use Rattle.jm_cmds.specs.Sent.{packet_of}
use Rattle.ch_notes.specs.declared.presses.PolyEvent.{PolyEvent}
use Rattle.ch_notes.specs.declared.presses.PolyEvent.TheVariants.{Pressed, Dropped, Other}
use Rattle.ch_notes.specs.PolyEvent.{poly_event, poly_at, poly_ends, poly_key, pressed_note, IsWithin, ArePresses}
use Rattle.ch_notes.specs.PolyLimits.{EndsKey-poly}
use Rattle.jm_chapter.specs.Logs.{log_count, listed_size, log_shows_fresh}
use Rattle.jm_chapter.specs.LogsLaws.{FitLogs, length-listed, listed-shows}
use Rattle.ch_notes.specs.ChapterA.{press_logs, press_at, coded_presses, chapter_a, fresh_a, poly_count}

-- ## Each pressure has a log

step-logs : (channel : ℕ) (session : List Sent) (event : PolyEvent) (notes : List ℕ) → length (press_logs channel session event) + length notes ≡ length (cons_option (pressed_note event) notes)
step-logs channel session (Pressed note value) notes = omega arith
step-logs channel session Dropped notes = omega arith
step-logs channel session Other notes = omega arith

pub logs-keys : (channel : ℕ) (session places : List Sent) → log_count (press_at channel session) places ≡ key_count (poly_key channel) places
logs-keys channel session [] = refl
logs-keys channel session (x ∷ xs) =
    omega (
      arith,
      length-append (press_at channel session x) (flat_map (press_at channel session) xs),
      step-logs channel session (poly_at channel x) (filter_map (poly_key channel) xs),
      logs-keys channel session xs,
    )

-- ## How many notes

step-below : (event : PolyEvent) (k : ℕ) → IsWithin event → pressed_note event ≡ Some k → k < 128
step-below (Pressed note value) k w e = let same : note ≡ k = cc in omega (arith, w, same)
step-below Dropped k w e = absurd (none_some k e)
step-below Other k w e = absurd (none_some k e)

-- there are 128 notes
pub presses-few : (channel : ℕ) (places : List Sent) → Unended (poly_ends channel) places → ArePresses channel places → key_count (poly_key channel) places ≤ 128
presses-few channel places u w =
    let below = keys_all (λ place. IsWithin (poly_at channel place)) (λ k. k < 128) (poly_key channel) (λ place k b e. step-below (poly_at channel place) k b e) places w in
    keys_few (poly_ends channel) (poly_key channel) (EndsKey-poly channel) 128 places u below

pub press-few : (channel : ℕ) (session places : List Sent) → Unended (poly_ends channel) places → ArePresses channel places → log_count (press_at channel session) places ≤ 128
press-few channel session places u w = omega (arith, presses-few channel places u w, logs-keys channel session places)

pub listed_size-few : (count : ℕ) → count ≤ 64 → listed_size count ≤ 129
listed_size-few count l = elim (cases_Bool (eqb count 0)) [ inl t ↦ rw t (omega arith) | inr f ↦ rw f (omega (arith, l)) ]

-- so many notes make so many octets
pub length-chapter_a : (channel checkpoint packet : ℕ) (sent : List Sent) → length (chapter_a channel checkpoint packet sent) ≡ listed_size (poly_count channel checkpoint (below packet_of packet sent))
unfolding chapter_a poly_count
length-chapter_a channel checkpoint packet sent =
    let session = below packet_of packet sent in
    let places = coded_presses channel checkpoint session in
    length-listed (press_at channel session) packet places ∙ ap listed_size (logs-keys channel session places)

-- ## What the octets show

dropped-within : (b : Bool) → IsWithin (cond b Dropped Other)
dropped-within true = tt
dropped-within false = tt

IsWithin-poly : (channel : ℕ) (command : Command) → IsCommand command → IsWithin (poly_event channel command)
IsWithin-poly channel (PolyPressure at note value) h =
    elim (cases_Bool (eqb at channel)) [ inl t ↦ rw t h.1 | inr f ↦ rw f tt ]
IsWithin-poly channel command h = dropped-within (ends_controllers channel command)

FitLogs-press : (channel : ℕ) (session : List Sent) (event : PolyEvent) → IsWithin event → FitLogs (press_logs channel session event)
FitLogs-press channel session (Pressed note value) w = (w, tt)
FitLogs-press channel session Dropped w = tt
FitLogs-press channel session Other w = tt

pub fresh_a-shows : (channel checkpoint packet : ℕ) (sent : List Sent) → AllByRecursion (λ place. IsCommand place.command) sent →
    (fresh_a channel checkpoint packet sent ≡ header_shows_fresh (chapter_a channel checkpoint packet sent))
    × (fresh_a channel checkpoint packet sent ≡ log_shows_fresh (chapter_a channel checkpoint packet sent))
unfolding fresh_a chapter_a
fresh_a-shows channel checkpoint packet sent h =
    let within_all = AllByRecursion-weaker (λ (place : Sent). IsCommand place.command) (λ place. IsWithin (poly_at channel place)) (λ place b. IsWithin-poly channel place.command b) sent h in
    let seen = below packet_of packet sent in
    let places = coded_presses channel checkpoint seen in
    let within_seen = AllByRecursion-filter (λ place. IsWithin (poly_at channel place)) (λ place. ltb (packet_of place) packet) sent within_all in
    let within_standing = AllByRecursion-standing (λ place. IsWithin (poly_at channel place)) (poly_ends channel) seen within_seen in
    let w : ArePresses channel places = AllByRecursion-filter (λ place. IsWithin (poly_at channel place)) (λ place. leb checkpoint (packet_of place)) (standing (poly_ends channel) seen) within_standing in
    let few = presses-few channel places (Unended-coded (poly_ends channel) packet_of checkpoint seen) w in
    let fits = AllByRecursion-weaker (λ (place : Sent). IsWithin (poly_at channel place)) (λ place. FitLogs (press_at channel seen place)) (λ place b. FitLogs-press channel seen (poly_at channel place) b) places w in
    listed-shows (press_at channel seen) packet places fits (omega (arith, few, logs-keys channel seen places))
