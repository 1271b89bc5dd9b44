-- How many notes there may be.
use Rattle.std.proofs.Common.{◌≡◌, ℕ, ◌+◌, ◌/◌, ◌≤◌, ◌<◌, true, cond, List, [], ◌∷◌, Option, Some, None, length, fold, refl, sym, ap, ◌∙◌, arith, min, max}
use Rattle.std.specs.List.{AllByRecursion, filter_map, cons_option}
use Rattle.std.proofs.lemmas.Bool.{eq-eqb}
use Rattle.std.proofs.lemmas.List.Sums.{sum_by-cons}
use Rattle.jm_cmds.specs.declared.history.Sent.{Sent}
use Rattle.jm_cmds.specs.History.{standing, Unended}
use Rattle.jm_cmds.specs.HistoryLaws.{Unended-standing}
use Rattle.jm_cmds.specs.Keys.{key_count, EndsKey, keys_all, keys_few, none_some}
use Rattle.ch_notes.specs.declared.events.NoteEvent.{NoteEvent}
use Rattle.ch_notes.specs.declared.events.NoteEvent.TheVariants.{Struck, Released, Cleared, Other}
use Rattle.ch_notes.specs.NoteEvent.{event_at, concerns, event_ends, note_ends, IsWithin, AreWithin}
use Rattle.ch_notes.specs.Shape.{counted, no_notes}
use Rattle.ch_notes.specs.Count.{IsCount}
use Rattle.ch_notes.specs.CountLaws.{counted-logs, counted-off, counted-low, counted-high}
use Rattle.ch_notes.specs.ChapterN.{is_struck, released_note, released, log_count, low_octet, high_octet}

abbrev pub note_of : NoteEvent → Option ℕ
note_of (Struck note velocity) = Some note
note_of (Released note velocity) = Some note
note_of Cleared = None
note_of Other = None

-- the key of a note's place
abbrev pub note_key : (channel : ℕ) → Sent → Option ℕ
note_key channel place = note_of (event_at channel place)

-- each note has a log or a bit
step-notes : (event : NoteEvent) (logs : ℕ) (off notes : List ℕ) → logs + length off ≡ length notes →
    (cond (is_struck event) 1 0 + logs) + length (cons_option (released_note event) off) ≡ length (cons_option (note_of event) notes)
step-notes (Struck note velocity) logs off notes h = omega (arith, h)
step-notes (Released note velocity) logs off notes h = omega (arith, h)
step-notes Cleared logs off notes h = omega (arith, h)
step-notes Other logs off notes h = omega (arith, h)

logs-and-off : (channel : ℕ) (places : List Sent) → log_count channel places + length (released channel places) ≡ key_count (note_key channel) places
logs-and-off channel [] = refl
logs-and-off channel (x ∷ xs) =
    let more = sum_by-cons (λ place. cond (is_struck (event_at channel place)) 1 0) x xs in
    ap (λ n. n + length (released channel (x ∷ xs))) more
    ∙ step-notes (event_at channel x) (log_count channel xs) (released channel xs) (filter_map (note_key channel) xs) (logs-and-off channel xs)

-- a note's command ends the one before it
concerned : (note : ℕ) (event : NoteEvent) → note_of event ≡ Some note → concerns note event ≡ true
concerned note (Struck other velocity) e = let same : other ≡ note = cc in eq-eqb note other (sym same)
concerned note (Released other velocity) e = let same : other ≡ note = cc in eq-eqb note other (sym same)
concerned note Cleared e = absurd (none_some note e)
concerned note Other e = absurd (none_some note e)

meets : (a b : NoteEvent) (k : ℕ) → note_of a ≡ Some k → note_of b ≡ Some k → event_ends a b ≡ true
meets (Struck note velocity) b k p q = let same : note ≡ k = cc in rw same (concerned k b q)
meets (Released note velocity) b k p q = let same : note ≡ k = cc in rw same (concerned k b q)
meets Cleared b k p q = absurd (none_some k p)
meets Other b k p q = absurd (none_some k p)

EndsKey-note : (channel : ℕ) → EndsKey (note_ends channel) (note_key channel)
EndsKey-note channel = λ x y k p q. meets (event_at channel x) (event_at channel y) k p q

step-below : (event : NoteEvent) (k : ℕ) → IsWithin event → note_of event ≡ Some k → k < 128
step-below (Struck note velocity) k w e = let same : note ≡ k = cc in omega (arith, w.0, same)
step-below (Released note velocity) k w e = let same : note ≡ k = cc in omega (arith, w, same)
step-below Cleared k w e = absurd (none_some k e)
step-below Other k w e = absurd (none_some k e)

-- there are 128 notes
pub notes-few : (channel : ℕ) (places : List Sent) → Unended (note_ends channel) places → AreWithin channel places → key_count (note_key channel) places ≤ 128
notes-few channel places u w =
    let below = keys_all (λ place. IsWithin (event_at channel place)) (λ k. k < 128) (note_key channel) (λ place k b e. step-below (event_at channel place) k b e) places w in
    keys_few (note_ends channel) (note_key channel) (EndsKey-note channel) 128 places u below

released-below_one : (event : NoteEvent) (k : ℕ) → IsWithin event → released_note event ≡ Some k → k < 128
released-below_one (Struck note velocity) k w e = absurd (none_some k e)
released-below_one (Released note velocity) k w e = let same : note ≡ k = cc in omega (arith, w, same)
released-below_one Cleared k w e = absurd (none_some k e)
released-below_one Other k w e = absurd (none_some k e)

pub released-below : (channel : ℕ) (places : List Sent) → AreWithin channel places → AllByRecursion (λ n. n < 128) (released channel places)
released-below channel places w =
    keys_all (λ place. IsWithin (event_at channel place)) (λ k. k < 128) (λ place. released_note (event_at channel place)) (λ place k b e. released-below_one (event_at channel place) k b e) places w

low-le : (start : ℕ) (notes : List ℕ) → start ≤ 15 → fold (λ low note. min low (note / 8)) start notes ≤ 15
low-le start [] h = h
low-le start (n ∷ ns) h = low-le (min start (n / 8)) ns (omega (arith, h))

high-le : (start : ℕ) (notes : List ℕ) → start ≤ 15 → AllByRecursion (λ n. n < 128) notes → fold (λ high note. max high (note / 8)) start notes ≤ 15
high-le start [] h b = h
high-le start (n ∷ ns) h b = high-le (max start (n / 8)) ns (omega (arith, h, b.0)) b.1

one-octet : (notes : List ℕ) → AllByRecursion (λ n. n < 128) notes → length notes ≡ 1 → low_octet notes ≡ high_octet notes
one-octet [] b e = absurd (omega (arith, e))
one-octet (n ∷ []) b e = omega (arith, b.0)
one-octet (n ∷ m ∷ ns) b e = absurd (omega (arith, e))

no-octet : (notes : List ℕ) → length notes ≡ 0 → (low_octet notes ≡ 15) × (high_octet notes ≡ 0)
no-octet [] e = (refl, refl)
no-octet (n ∷ ns) e = absurd (omega (arith, e))

-- where a note is released, LOW is at most HIGH
low-down : (start : ℕ) (notes : List ℕ) → fold (λ low note. min low (note / 8)) start notes ≤ start
low-down start [] = omega arith
low-down start (n ∷ ns) = omega (arith, low-down (min start (n / 8)) ns)

high-up : (start : ℕ) (notes : List ℕ) → start ≤ fold (λ high note. max high (note / 8)) start notes
high-up start [] = omega arith
high-up start (n ∷ ns) = omega (arith, high-up (max start (n / 8)) ns)

low-high : (notes : List ℕ) → 1 ≤ length notes → low_octet notes ≤ high_octet notes
low-high [] e = absurd (omega (arith, e))
low-high (n ∷ ns) e = omega (arith, low-down (min 15 (n / 8)) ns, high-up (max 0 (n / 8)) ns)

pub IsCount-unended : (channel packet : ℕ) (places : List Sent) → Unended (note_ends channel) places → AreWithin channel places → IsCount (counted channel packet no_notes places)
IsCount-unended channel packet stand u w =
    let notes = released channel stand in
    let below = released-below channel stand w in
    let logs = counted-logs channel packet no_notes stand in
    let off = counted-off channel packet no_notes stand in
    let low = counted-low channel packet no_notes stand in
    let high = counted-high channel packet no_notes stand in
    let few = notes-few channel stand u w in
    let both = logs-and-off channel stand in
    record {
      low = rw low (low-le 15 notes (omega arith));
      high = rw high (high-le 0 notes (omega arith) below);
      notes = omega (arith, logs, off, few, both);
      none_low = λ e. low ∙ (no-octet notes (omega (arith, e, off))).0;
      none_high = λ e. high ∙ (no-octet notes (omega (arith, e, off))).1;
      one = λ e. low ∙ one-octet notes below (omega (arith, e, off)) ∙ sym high;
      some = λ e. rw (low, high) (low-high notes (omega (arith, e, off)));
    }

pub IsCount-counted : (channel packet : ℕ) (places : List Sent) → AreWithin channel (standing (note_ends channel) places) → IsCount (counted channel packet no_notes (standing (note_ends channel) places))
IsCount-counted channel packet places w =
    IsCount-unended channel packet (standing (note_ends channel) places) (Unended-standing (note_ends channel) places) w
