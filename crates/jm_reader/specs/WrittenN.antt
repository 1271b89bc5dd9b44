-- What is written of notes is read: Chapter N (RFC 6295, A.6.1, Figure A.6.2, and A.6.2, Figure A.6.3).
use Rattle.std.proofs.Common.{◌≡◌, ◌≢◌, ℕ, zero, suc, ◌+◌, ◌-◌, ◌*◌, ◌/◌, ◌%◌, ◌<◌, ◌≤◌, Bool, true, false, cond, not, ◌&&◌, ltb, leb, eqb, List, [], ◌∷◌, ◌++◌, Some, None, length, map, take, drop, fold, min, max, refl, sym, ap, ◌∙◌, arith, inl, inr, length-append, append_assoc}
use Rattle.std.proofs.Math.Seq.{take-append_seam, drop-append_seam}
use Rattle.std.specs.Prelude.{nat_le, ◌==◌, if◌then◌else◌}
use Rattle.std.specs.List.{list_any, flat_map, range_with_len, AllByRecursion}
use Rattle.std.proofs.lemmas.Bool.{cases_Bool, lt-ltb, le-ltb, eqb-true, ne_eqb, cases_lt, cases_eq, and_parts}
use Rattle.std.proofs.lemmas.List.Sums.{sum_by-cons}
use Rattle.std.proofs.lemmas.Grind.{flat_map-append}
use Rattle.std.proofs.lemmas.List.{append-nil}
use Rattle.std.proofs.lemmas.List.FromFn.{length-map-range_with_len}
use Rattle.jm_wire.specs.declared.heads.ChannelHead.{ChannelHead}
use Rattle.jm_wire.specs.declared.heads.NoteHead.{NoteHead}
use Rattle.jm_wire.specs.Heads.{bit, is_set, FitsNote, note_octets}
use Rattle.jm_wire.specs.HeadLaws.{channel_back, note_back}
use Rattle.jm_cmds.specs.declared.history.Sent.{Sent}
use Rattle.jm_cmds.specs.Command.{IsCommand}
use Rattle.jm_cmds.specs.History.{below, standing}
use Rattle.jm_cmds.specs.HistoryLaws.{AllByRecursion-filter, AllByRecursion-standing, AllByRecursion-weaker, Unended-coded}
use Rattle.jm_cmds.specs.Sent.{packet_of, is_fresh, s_of}
use Rattle.ch_notes.specs.declared.events.NoteEvent.{NoteEvent}
use Rattle.ch_notes.specs.declared.events.NoteEvent.TheVariants.{Struck, Released, Cleared, Other}
use Rattle.ch_notes.specs.NoteEvent.{event_at, note_ends, IsWithin, AreWithin}
use Rattle.ch_notes.specs.Shape.{counted, no_notes}
use Rattle.ch_notes.specs.ChapterN.{is_struck, is_released, event_log, note_log, log_count, released, released_fresh, low_octet, high_octet, off_octets, chapter_of, coded_notes, chapter_n, off_octet as bits_of}
use Rattle.ch_notes.specs.Count.{IsCount}
use Rattle.ch_notes.specs.CountLaws.{counted-logs, counted-off, counted-low, counted-high}
use Rattle.ch_notes.specs.CountBounds.{IsCount-unended}
use Rattle.ch_notes.specs.ChapterLaws.{length-logs}
use Rattle.ch_notes.specs.FreshLaws.{IsWithin-event}
use Rattle.jm_journal.specs.Channel.{is_there}
use Rattle.jm_reader.specs.declared.logs.Log.{Log}
use Rattle.jm_reader.specs.declared.logs.LogKind.TheVariants.{NoteOff, NoteOn}
use Rattle.jm_reader.specs.declared.pairs.PairKind.TheVariants.{Notes}
use Rattle.jm_reader.specs.Chapter.{Chapter}
use Rattle.jm_reader.specs.ChapterN.{off_octet, off_logs, note_count, off_count, n_size, n_logs, n_read}
use Rattle.jm_reader.specs.Octets.{shows, low_bits}
use Rattle.jm_reader.specs.Pairs.{pair_logs}

-- ## What is coded

abbrev pub struck_log : ℕ → Bool → Bool → NoteEvent → List Log
struck_log channel fresh soon (Struck note velocity) = record { fresh = fresh; what = NoteOn channel note velocity soon } ∷ []
struck_log channel fresh soon (Released note velocity) = []
struck_log channel fresh soon Cleared = []
struck_log channel fresh soon Other = []

-- the log of a place, where it is a struck note: it is worth playing while it is at most 2,000 ticks old
abbrev pub struck_said : (channel packet tick : ℕ) → Sent → List Log
struck_said channel packet tick place = struck_log channel (is_fresh packet place) (nat_le tick (place.tick + 2000)) (event_at channel place)

abbrev pub has_note : List ℕ → ℕ → Bool
has_note notes note = list_any (λ n. n == note) notes

abbrev pub released_log : (channel : ℕ) → (fresh : Bool) → List ℕ → (note : ℕ) → List Log
released_log channel fresh notes note = if has_note notes note then record { fresh = fresh; what = NoteOff channel note } ∷ [] else []

-- the released notes, in the order of their numbers
unfoldable pub released_said : ℕ → Bool → List ℕ → List Log
released_said channel fresh notes = flat_map (released_log channel fresh notes) (range_with_len 0 128)

abbrev pub notes_said : (channel packet tick : ℕ) → List Sent → List Log
notes_said channel packet tick places =
    released_said channel (released_fresh channel packet places) (released channel places) ++ flat_map (struck_said channel packet tick) places

-- The coded notes of a channel as logs: the released ones, then the struck ones, oldest first.
unfoldable pub n_said : (channel checkpoint packet tick : ℕ) → List Sent → List Log
n_said channel checkpoint packet tick sent = notes_said channel packet tick (coded_notes channel checkpoint packet sent)

-- ## Struck notes

y-shows : (soon : Bool) (number : ℕ) → number < 128 → not (ltb (cond soon 128 0 + number) 128) ≡ soon
y-shows true number l = ap not (le-ltb (128 + number) 128 (omega arith))
y-shows false number l = ap not (lt-ltb (0 + number) 128 (omega arith))

y-low : (soon : Bool) (number : ℕ) → number < 128 → (cond soon 128 0 + number) % 128 ≡ number
y-low true number l = omega arith
y-low false number l = omega arith

struck_again : (channel : ℕ) (fresh soon : Bool) (event : NoteEvent) (rest : List ℕ) → IsWithin event →
    pair_logs Notes channel (event_log (s_of fresh) (cond soon 128 0) event ++ rest) ≡ struck_log channel fresh soon event ++ pair_logs Notes channel rest
struck_again channel fresh soon (Struck note velocity) rest w =
    rw (shows fresh note w.0, low_bits fresh note w.0, y-low soon velocity w.1, y-shows soon velocity w.1) refl
struck_again channel fresh soon (Released note velocity) rest w = refl
struck_again channel fresh soon Cleared rest w = refl
struck_again channel fresh soon Other rest w = refl

lines_again : (channel packet tick : ℕ) (places : List Sent) → AreWithin channel places →
    pair_logs Notes channel (flat_map (note_log channel packet tick) places) ≡ flat_map (struck_said channel packet tick) places
lines_again channel packet tick [] w = refl
lines_again channel packet tick (x ∷ xs) w =
    struck_again channel (is_fresh packet x) (nat_le tick (x.tick + 2000)) (event_at channel x) (flat_map (note_log channel packet tick) xs) w.0
    ∙ ap (λ (more : List Log). struck_said channel packet tick x ++ more) (lines_again channel packet tick xs w.1)

-- ## Released notes

-- an octet of eight flags
flags : Bool → Bool → Bool → Bool → Bool → Bool → Bool → Bool → ChannelHead
flags p c m w n e t a = record { s = false; chan = 0; h = false; length = 0; p = p; c = c; m = m; w = w; n = n; e = e; t = t; a = a }

eight : (one : ℕ → List Log) (a : ℕ) →
    one a ++ (one (a + 1) ++ (one (a + 2) ++ (one (a + 3) ++ (one (a + 4) ++ (one (a + 5) ++ (one (a + 6) ++ one (a + 7))))))) ≡ flat_map one (range_with_len a 8)
eight one a =
    let second : a + 1 + 1 ≡ a + 2 = omega arith in
    let third : a + 2 + 1 ≡ a + 3 = omega arith in
    let fourth : a + 3 + 1 ≡ a + 4 = omega arith in
    let fifth : a + 4 + 1 ≡ a + 5 = omega arith in
    let sixth : a + 5 + 1 ≡ a + 6 = omega arith in
    let seventh : a + 6 + 1 ≡ a + 7 = omega arith in
    rw (second, third, fourth, fifth, sixth, seventh, append-nil (one (a + 7))) refl

regrouped : (a b c d e f g h : List Log) → a ++ b ++ c ++ d ++ e ++ f ++ g ++ h ≡ a ++ (b ++ (c ++ (d ++ (e ++ (f ++ (g ++ h))))))
regrouped a b c d e f g h = simp append_assoc

octet_again : (channel : ℕ) (fresh : Bool) (notes : List ℕ) (k : ℕ) →
    off_octet channel fresh (8 * k) (bits_of notes k) ≡ flat_map (released_log channel fresh notes) (range_with_len (8 * k) 8)
unfolding flags
octet_again channel fresh notes k =
    let has : ℕ → Bool = λ i. has_note notes (8 * k + i) in
    let back = channel_back (flags (has_note notes (8 * k)) (has 1) (has 2) (has 3) (has 4) (has 5) (has 6) (has 7)) (omega arith, omega arith) in
    let p : is_set 128 (bits_of notes k) ≡ has_note notes (8 * k) = ap (λ (h : ChannelHead). h.p) back in
    let c : is_set 64 (bits_of notes k) ≡ has_note notes (8 * k + 1) = ap (λ (h : ChannelHead). h.c) back in
    let m : is_set 32 (bits_of notes k) ≡ has_note notes (8 * k + 2) = ap (λ (h : ChannelHead). h.m) back in
    let w : is_set 16 (bits_of notes k) ≡ has_note notes (8 * k + 3) = ap (λ (h : ChannelHead). h.w) back in
    let n : is_set 8 (bits_of notes k) ≡ has_note notes (8 * k + 4) = ap (λ (h : ChannelHead). h.n) back in
    let e : is_set 4 (bits_of notes k) ≡ has_note notes (8 * k + 5) = ap (λ (h : ChannelHead). h.e) back in
    let t : is_set 2 (bits_of notes k) ≡ has_note notes (8 * k + 6) = ap (λ (h : ChannelHead). h.t) back in
    let a : is_set 1 (bits_of notes k) ≡ has_note notes (8 * k + 7) = ap (λ (h : ChannelHead). h.a) back in
    let one = released_log channel fresh notes in
    rw (p, c, m, w, n, e, t, a)
    (regrouped (one (8 * k)) (one (8 * k + 1)) (one (8 * k + 2)) (one (8 * k + 3)) (one (8 * k + 4)) (one (8 * k + 5)) (one (8 * k + 6)) (one (8 * k + 7)) ∙ eight one (8 * k))

range-append : (a m n : ℕ) → range_with_len a (m + n) ≡ range_with_len a m ++ range_with_len (a + m) n
range-append a zero n =
    let none : 0 + n ≡ n = omega arith in
    let same : a + 0 ≡ a = omega arith in
    rw (none, same) refl
range-append a (suc m) n =
    let more : suc m + n ≡ suc (m + n) = omega arith in
    let on : a + 1 + m ≡ a + suc m = omega arith in
    rw (more, range-append (a + 1) m n, on) refl

-- the logs of the octets from this one on
octets_again : (channel : ℕ) (fresh : Bool) (notes : List ℕ) (k n : ℕ) →
    off_logs channel fresh (8 * k) (map (bits_of notes) (range_with_len k n)) ≡ flat_map (released_log channel fresh notes) (range_with_len (8 * k) (8 * n))
octets_again channel fresh notes k zero = refl
octets_again channel fresh notes k (suc n) =
    let one = released_log channel fresh notes in
    let next : 8 * k + 8 ≡ 8 * (k + 1) = omega arith in
    let all : 8 * suc n ≡ 8 + 8 * n = omega arith in
    let more = octets_again channel fresh notes (k + 1) n in
    let joined : off_octet channel fresh (8 * k) (bits_of notes k) ++ off_logs channel fresh (8 * k + 8) (map (bits_of notes) (range_with_len (k + 1) n))
    ≡ flat_map one (range_with_len (8 * k) 8) ++ flat_map one (range_with_len (8 * k + 8) (8 * n)) =
    ap (λ (first : List Log). first ++ off_logs channel fresh (8 * k + 8) (map (bits_of notes) (range_with_len (k + 1) n))) (octet_again channel fresh notes k)
    ∙ ap (λ (checkpoint : ℕ). flat_map one (range_with_len (8 * k) 8) ++ off_logs channel fresh checkpoint (map (bits_of notes) (range_with_len (k + 1) n))) next
    ∙ ap (λ (rest : List Log). flat_map one (range_with_len (8 * k) 8) ++ rest) more
    ∙ ap (λ (checkpoint : ℕ). flat_map one (range_with_len (8 * k) 8) ++ flat_map one (range_with_len checkpoint (8 * n))) (sym next) in
    joined
    ∙ sym (flat_map-append one (range_with_len (8 * k) 8) (range_with_len (8 * k + 8) (8 * n)))
    ∙ ap (flat_map one) (sym (range-append (8 * k) 8 (8 * n)))
    ∙ ap (λ (size : ℕ). flat_map one (range_with_len (8 * k) size)) (sym all)

-- ## The notes below LOW and over HIGH

lows : (start : ℕ) (notes : List ℕ) → (fold (λ low note. min low (note / 8)) start notes ≤ start) × AllByRecursion (λ n. fold (λ low note. min low (note / 8)) start notes ≤ n / 8) notes
lows start [] = (omega arith, tt)
lows start (n ∷ ns) =
    let more = lows (min start (n / 8)) ns in
    let least = more.0 in
    (omega (arith, least), (omega (arith, least), more.1))

highs : (start : ℕ) (notes : List ℕ) → (start ≤ fold (λ high note. max high (note / 8)) start notes) × AllByRecursion (λ n. n / 8 ≤ fold (λ high note. max high (note / 8)) start notes) notes
highs start [] = (omega arith, tt)
highs start (n ∷ ns) =
    let more = highs (max start (n / 8)) ns in
    let most = more.0 in
    (omega (arith, most), (omega (arith, most), more.1))

not_there : (notes : List ℕ) (note : ℕ) → AllByRecursion (λ n. n ≢ note) notes → has_note notes note ≡ false
not_there [] note h = refl
not_there (n ∷ ns) note h = rw (ne_eqb n note h.0) (not_there ns note h.1)

nothing : (channel : ℕ) (fresh : Bool) (notes : List ℕ) (a n : ℕ) → ((note : ℕ) → a ≤ note → note < a + n → has_note notes note ≡ false) →
    flat_map (released_log channel fresh notes) (range_with_len a n) ≡ []
nothing channel fresh notes a zero h = refl
nothing channel fresh notes a (suc n) h =
    rw (h a (omega arith) (omega arith)) (nothing channel fresh notes (a + 1) n (λ note l u. h note (omega (arith, l)) (omega (arith, u))))

below_low : (notes : List ℕ) (low note : ℕ) → note < 8 * low → AllByRecursion (λ n. low ≤ n / 8) notes → AllByRecursion (λ n. n ≢ note) notes
below_low [] low note l h = tt
below_low (n ∷ ns) low note l h = ((λ e. omega (arith, e, l, h.0)), below_low ns low note l h.1)

over_high : (notes : List ℕ) (high note : ℕ) → 8 * high + 8 ≤ note → AllByRecursion (λ n. n / 8 ≤ high) notes → AllByRecursion (λ n. n ≢ note) notes
over_high [] high note l h = tt
over_high (n ∷ ns) high note l h = ((λ e. omega (arith, e, l, h.0)), over_high ns high note l h.1)

-- a list of numbers in three parts, of which the first and the last say nothing
three : (one : ℕ → List Log) (a b c whole : ℕ) → whole ≡ a + (b + c) → flat_map one (range_with_len 0 a) ≡ [] → flat_map one (range_with_len (a + b) c) ≡ [] →
    flat_map one (range_with_len 0 whole) ≡ flat_map one (range_with_len a b)
three one a b c whole w front back =
    let same : 0 + a ≡ a = omega arith in
    ap (λ (n : ℕ). flat_map one (range_with_len 0 n)) w
    ∙ ap (flat_map one) (range-append 0 a (b + c))
    ∙ flat_map-append one (range_with_len 0 a) (range_with_len (0 + a) (b + c))
    ∙ ap (λ (first : List Log). first ++ flat_map one (range_with_len (0 + a) (b + c))) front
    ∙ ap (λ (checkpoint : ℕ). flat_map one (range_with_len checkpoint (b + c))) same
    ∙ ap (flat_map one) (range-append a b c)
    ∙ flat_map-append one (range_with_len a b) (range_with_len (a + b) c)
    ∙ ap (λ (last : List Log). flat_map one (range_with_len a b) ++ last) back
    ∙ append-nil (flat_map one (range_with_len a b))

-- all of them stand in the octets from LOW to HIGH
within_octets : (channel : ℕ) (fresh : Bool) (notes : List ℕ) (whole : ℕ) → whole ≡ 128 → low_octet notes ≤ 15 → high_octet notes ≤ 15 →
    flat_map (released_log channel fresh notes) (range_with_len 0 whole)
    ≡ flat_map (released_log channel fresh notes) (range_with_len (8 * low_octet notes) (8 * (high_octet notes + 1 - low_octet notes)))
within_octets channel fresh notes whole is l h =
    let low = low_octet notes in
    let high = high_octet notes in
    let span = high + 1 - low in
    three (released_log channel fresh notes) (8 * low) (8 * span) (whole - (8 * low + 8 * span)) whole (omega (arith, is, l, h))
    (nothing channel fresh notes 0 (8 * low) (λ note a b. not_there notes note (below_low notes low note (omega (arith, b)) (lows 15 notes).1)))
    (nothing channel fresh notes (8 * low + 8 * span) (whole - (8 * low + 8 * span)) (λ note a b. not_there notes note (over_high notes high note (omega (arith, a)) (highs 0 notes).1)))

released_again : (channel : ℕ) (fresh : Bool) (notes : List ℕ) → low_octet notes ≤ 15 → high_octet notes ≤ 15 →
    off_logs channel fresh (8 * low_octet notes) (off_octets notes) ≡ released_said channel fresh notes
unfolding released_said
released_again channel fresh notes l h =
    octets_again channel fresh notes (low_octet notes) (high_octet notes + 1 - low_octet notes) ∙ sym (within_octets channel fresh notes 128 refl l h)

-- ## The header

-- what is known of the numbers that it has
record AreNumbers (count off low high : ℕ) : Type 0 where
  low_few : low ≤ 15
  high_few : high ≤ 15
  notes : count + off ≤ 128
  none_low : off ≡ 0 → low ≡ 15
  none_high : off ≡ 0 → high ≡ 0
  some : 1 ≤ off → low ≤ high

high_of : ℕ → ℕ → ℕ → ℕ
high_of count off high = cond (eqb off 0 && eqb count 127) 1 high

header : Bool → ℕ → ℕ → ℕ → ℕ → NoteHead
header fresh count off low high = record { b = not fresh; len = min 127 count; low = low; high = high_of count off high }

and_false : (b : Bool) → (b && false) ≡ false
and_false true = refl
and_false false = refl

apart : (low high : ℕ) → low ≤ high → (eqb low 15 && eqb high 0) ≡ false
apart low high l =
    elim (cases_eq high 0) [
      | inl none ↦ rw (ne_eqb low 15 (λ e. omega (arith, e, l, none))) refl
      | inr some ↦ rw (ne_eqb high 0 some) (and_false (eqb low 15))
    ]

count_again : (fresh : Bool) (count off low high : ℕ) → AreNumbers count off low high → note_count (header fresh count off low high) ≡ count
unfolding header high_of
count_again fresh count off low high k =
    elim (cases_lt count 127) [
      | inl few ↦
          let len : min 127 count ≡ count = omega (arith, few) in
          rw (len, ne_eqb count 127 (λ e. omega (arith, e, few))) refl
      | inr many ↦ elim (cases_eq count 127) [
        | inl is ↦ elim (cases_eq off 0) [
          | inl none ↦ rw (is, none, k.none_low none) refl
          | inr some ↦ rw (is, ne_eqb off 0 some, apart low high (k.some (omega (arith, some)))) refl
        ]
        | inr more ↦
            let all : count ≡ 128 = omega (arith, many, more, k.notes) in
            let none : off ≡ 0 = omega (arith, all, k.notes) in
            rw (all, none, k.none_low none, k.none_high none) refl
      ]
    ]

off_again : (fresh : Bool) (count off low high : ℕ) → AreNumbers count off low high → off_count (header fresh count off low high) ≡ high + 1 - low
unfolding header high_of
off_again fresh count off low high k =
    elim (cases_eq off 0) [
      | inl none ↦ elim (cases_eq count 127) [
        | inl is ↦ rw (is, none, k.none_low none, k.none_high none) refl
        | inr other ↦ rw (ne_eqb count 127 other, none, k.none_low none, k.none_high none) refl
      ]
      | inr some ↦ rw (ne_eqb off 0 some, le-ltb high low (k.some (omega (arith, some)))) refl
    ]

fits_again : (fresh : Bool) (count off low high : ℕ) → AreNumbers count off low high → FitsNote (header fresh count off low high)
unfolding header high_of
fits_again fresh count off low high k =
    elim (cases_Bool (eqb off 0 && eqb count 127)) [
      | inl t ↦ rw t (omega arith, omega (arith, k.low_few), omega arith)
      | inr f ↦ rw f (omega arith, omega (arith, k.low_few), omega (arith, k.high_few))
    ]

-- ## The chapter

-- what stands behind a header
by_head : ℕ → NoteHead → List ℕ → Chapter
by_head channel head rest = cond (ltb (length rest) (n_size head)) None (Some (n_logs channel head rest, n_size head + 2))

head_again : (channel : ℕ) (head : NoteHead) (rest : List ℕ) → FitsNote head → n_read channel (note_octets head ++ rest) ≡ by_head channel head rest
unfolding by_head
head_again channel head rest f = ap (λ (h : NoteHead). by_head channel h rest) (note_back head f)

-- a chapter of these numbers, lines and bits
text : Bool → ℕ → ℕ → ℕ → ℕ → List ℕ → List ℕ
text fresh count off low high behind = note_octets (header fresh count off low high) ++ behind

double_not : (b : Bool) → not (not b) ≡ b
double_not true = refl
double_not false = refl

text_again : (channel : ℕ) (fresh : Bool) (count off low high : ℕ) (lines bits rest : List ℕ) → AreNumbers count off low high → length lines ≡ 2 * count → length bits ≡ high + 1 - low →
    n_read channel (text fresh count off low high (lines ++ (bits ++ rest)))
    ≡ Some (off_logs channel fresh (8 * low) bits ++ pair_logs Notes channel lines, 2 * count + (high + 1 - low) + 2)
unfolding text header by_head
text_again channel fresh count off low high lines bits rest k l b =
    let head = header fresh count off low high in
    let behind = lines ++ (bits ++ rest) in
    let counted = count_again fresh count off low high k in
    let span = off_again fresh count off low high k in
    let enough : ltb (length behind) (2 * count + (high + 1 - low)) ≡ false = le-ltb (length behind) (2 * count + (high + 1 - low)) (omega (arith, length-append lines (bits ++ rest), length-append bits rest, l, b)) in
    let front : take (2 * count) behind ≡ lines = rw (← l) (take-append_seam lines (bits ++ rest)) in
    let back : drop (2 * count) behind ≡ bits ++ rest = rw (← l) (drop-append_seam lines (bits ++ rest)) in
    let middle : take (high + 1 - low) (bits ++ rest) ≡ bits = rw (← b) (take-append_seam bits rest) in
    head_again channel head behind (fits_again fresh count off low high k)
    ∙ rw (counted, span, enough, front, back, middle, double_not fresh) refl

-- the logs and their octets in the end
chapter_again : (channel packet tick : ℕ) (places : List Sent) (rest : List ℕ) → AreWithin channel places →
    AreNumbers (log_count channel places) (length (released channel places)) (low_octet (released channel places)) (high_octet (released channel places)) →
    is_there (chapter_of channel packet tick places) ≡ true →
    n_read channel (chapter_of channel packet tick places ++ rest) ≡ Some (notes_said channel packet tick places, length (chapter_of channel packet tick places))
unfolding text header high_of
chapter_again channel packet tick places rest w k there =
    let notes = released channel places in
    let count = log_count channel places in
    let fresh = released_fresh channel packet places in
    let lines = flat_map (note_log channel packet tick) places in
    let low = low_octet notes in
    let high = high_octet notes in
    let bits = off_octets notes in
    let wide : length bits ≡ high + 1 - low = length-map-range_with_len (bits_of notes) low (high + 1 - low) in
    let long : length lines ≡ 2 * count = length-logs channel packet tick places in
    let read = text_again channel fresh count (length notes) low high lines bits rest k long wide in
    let size : 2 * count + (high + 1 - low) + 2 ≡ suc (suc (length (lines ++ bits))) = omega (arith, length-append lines bits, wide, long) in
    let told : off_logs channel fresh (8 * low) bits ++ pair_logs Notes channel lines ≡ notes_said channel packet tick places =
    ap (λ (first : List Log). first ++ pair_logs Notes channel lines) (released_again channel fresh notes k.low_few k.high_few)
    ∙ ap (λ (more : List Log). released_said channel fresh notes ++ more) (lines_again channel packet tick places w) in
    elim (cases_Bool (eqb count 0 && eqb (length notes) 0)) [
      | inl none ↦ absurd (let empty : ltb 0 (length (chapter_of channel packet tick places)) ≡ false = rw none refl in cc)
      | inr full ↦ rw (full, append_assoc lines bits rest) (read ∙ ap (λ (n : ℕ). Some (off_logs channel fresh (8 * low) bits ++ pair_logs Notes channel lines, n)) size ∙ ap (λ (l : List Log). Some (l, suc (suc (length (lines ++ bits))))) told)
    ]

-- ## The chapter of a history

within_coded : (channel checkpoint packet : ℕ) (sent : List Sent) → AllByRecursion (λ place. IsCommand place.command) sent → AreWithin channel (coded_notes channel checkpoint packet sent)
within_coded channel checkpoint packet sent h =
    let all = AllByRecursion-weaker (λ (place : Sent). IsCommand place.command) (λ place. IsWithin (event_at channel place)) (λ place b. IsWithin-event channel place.command b) sent h in
    let seen = AllByRecursion-filter (λ place. IsWithin (event_at channel place)) (λ place. ltb (packet_of place) packet) sent all in
    let stand = AllByRecursion-standing (λ place. IsWithin (event_at channel place)) (note_ends channel) (below packet_of packet sent) seen in
    AllByRecursion-filter (λ place. IsWithin (event_at channel place)) (λ place. leb checkpoint (packet_of place)) (standing (note_ends channel) (below packet_of packet sent)) stand

numbers_coded : (channel packet : ℕ) (places : List Sent) → IsCount (counted channel packet no_notes places) →
    AreNumbers (log_count channel places) (length (released channel places)) (low_octet (released channel places)) (high_octet (released channel places))
numbers_coded channel packet places k =
    let s = counted channel packet no_notes places in
    let notes = released channel places in
    let logs : s.logs ≡ log_count channel places = omega (arith, counted-logs channel packet no_notes places) in
    let off : s.off ≡ length notes = omega (arith, counted-off channel packet no_notes places) in
    let low : s.low ≡ low_octet notes = counted-low channel packet no_notes places in
    let high : s.high ≡ high_octet notes = counted-high channel packet no_notes places in
    record {
      low_few = rw (← low) k.low;
      high_few = rw (← high) k.high;
      notes = rw (← logs, ← off) k.notes;
      none_low = λ e. sym low ∙ k.none_low (off ∙ e);
      none_high = λ e. sym high ∙ k.none_high (off ∙ e);
      some = λ e. rw (← low, ← high) (k.some (rw off e));
    }

-- What is written of the notes of a channel is read as what is coded of them, whatever follows.
pub n_again : (channel checkpoint packet tick : ℕ) (sent : List Sent) → AllByRecursion (λ place. IsCommand place.command) sent →
    is_there (chapter_n channel checkpoint packet tick sent) ≡ true → (rest : List ℕ) →
    n_read channel (chapter_n channel checkpoint packet tick sent ++ rest) ≡ Some (n_said channel checkpoint packet tick sent, length (chapter_n channel checkpoint packet tick sent))
unfolding chapter_n n_said
n_again channel checkpoint packet tick sent h there rest =
    let places = coded_notes channel checkpoint packet sent in
    let w = within_coded channel checkpoint packet sent h in
    let k = IsCount-unended channel packet places (Unended-coded (note_ends channel) packet_of checkpoint (below packet_of packet sent)) w in
    chapter_again channel packet tick places rest w (numbers_coded channel packet places k) there

-- ## Where the chapter isn't there

step_none : (channel : ℕ) (fresh soon : Bool) (event : NoteEvent) (more : ℕ) → cond (is_struck event) 1 0 + more ≡ 0 → (struck_log channel fresh soon event ≡ []) × (more ≡ 0)
step_none channel fresh soon (Struck note velocity) more e = absurd (omega (arith, e))
step_none channel fresh soon (Released note velocity) more e = (refl, omega (arith, e))
step_none channel fresh soon Cleared more e = (refl, omega (arith, e))
step_none channel fresh soon Other more e = (refl, omega (arith, e))

none_struck : (channel packet tick : ℕ) (places : List Sent) → log_count channel places ≡ 0 → flat_map (struck_said channel packet tick) places ≡ []
none_struck channel packet tick [] e = refl
none_struck channel packet tick (x ∷ xs) e =
    let more = sum_by-cons (λ place. cond (is_struck (event_at channel place)) 1 0) x xs in
    let here = step_none channel (is_fresh packet x) (nat_le tick (x.tick + 2000)) (event_at channel x) (log_count channel xs) (sym more ∙ e) in
    ap (λ (first : List Log). first ++ flat_map (struck_said channel packet tick) xs) here.0 ∙ none_struck channel packet tick xs here.1

none_released : (channel : ℕ) (fresh : Bool) (notes : List ℕ) → length notes ≡ 0 → released_said channel fresh notes ≡ []
unfolding released_said
none_released channel fresh [] e = nothing channel fresh [] 0 128 (λ note l u. refl)
none_released channel fresh (n ∷ ns) e = absurd (omega (arith, e))

none_said : (channel packet tick : ℕ) (places : List Sent) → is_there (chapter_of channel packet tick places) ≡ false → notes_said channel packet tick places ≡ []
none_said channel packet tick places n =
    let notes = released channel places in
    let count = log_count channel places in
    elim (cases_Bool (eqb count 0 && eqb (length notes) 0)) [
      | inl none ↦
          let parts = and_parts (eqb count 0) (eqb (length notes) 0) none in
          ap (λ (first : List Log). first ++ flat_map (struck_said channel packet tick) places) (none_released channel (released_fresh channel packet places) notes (eqb-true (length notes) 0 parts.1))
          ∙ none_struck channel packet tick places (eqb-true count 0 parts.0)
      | inr full ↦
          absurd (let some : ltb 0 (length (chapter_of channel packet tick places)) ≡ true =
          rw full (lt-ltb 0 (suc (suc (length (flat_map (note_log channel packet tick) places ++ off_octets notes)))) (omega arith)) in cc)
    ]

-- Where the chapter isn't there, no note is coded.
pub n_none : (channel checkpoint packet tick : ℕ) (sent : List Sent) →
    is_there (chapter_n channel checkpoint packet tick sent) ≡ false → n_said channel checkpoint packet tick sent ≡ []
unfolding chapter_n n_said
n_none channel checkpoint packet tick sent n = none_said channel packet tick (coded_notes channel checkpoint packet sent) n

pub record NotesAreRead : Type 0 where
  pub there : (channel checkpoint packet tick : ℕ) (sent : List Sent) → AllByRecursion (λ place. IsCommand place.command) sent →
      is_there (chapter_n channel checkpoint packet tick sent) ≡ true → (rest : List ℕ) →
      n_read channel (chapter_n channel checkpoint packet tick sent ++ rest) ≡ Some (n_said channel checkpoint packet tick sent, length (chapter_n channel checkpoint packet tick sent))
  pub none : (channel checkpoint packet tick : ℕ) (sent : List Sent) →
      is_there (chapter_n channel checkpoint packet tick sent) ≡ false → n_said channel checkpoint packet tick sent ≡ []

pub notes_are_read : NotesAreRead
notes_are_read = record { there = n_again; none = n_none }
