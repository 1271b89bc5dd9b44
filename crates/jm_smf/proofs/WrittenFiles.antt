-- A file that is written is spelled, and read.
use Rattle.std.proofs.Common.{◌≡◌, ℕ, ◌+◌, ◌-◌, ◌/◌, ◌%◌, ◌≤◌, ◌<◌, false, ltb, List, [], ◌∷◌, ◌++◌, map, length, Option, Some, None, Result, Ok, Err, refl, sym, ap, subst, ◌∙◌, append_assoc, arith, inl, inr}
use Rattle.std.specs.List.{AllByRecursion}
use Rattle.std.proofs.lemmas.Bool.{cases_Bool, ltb-false}
use Rattle.std.proofs.lemmas.List.{append-nil}
use Rattle.jm_wire.specs.Delta.{value, delta, IsField}
use Rattle.jm_wire.specs.DeltaWriting as deltas
use Rattle.jm_wire.specs.Numbers.{be32}
use Rattle.jm_cmds.specs.History.{InOrder}
use Rattle.jm_smf.specs.declared.before.Before.{Before}
use Rattle.jm_smf.specs.declared.timed.Timed.{Timed}
use Rattle.jm_smf.specs.declared.fault.SmfFault.{SmfFault}
use Rattle.jm_smf.specs.declared.fault.SmfFault.TheVariants.{TooFar, TooLong}
use Rattle.jm_smf.specs.File.{event, events, first_tick, end_of_track, track, head, file, first_far, written_unless}
use Rattle.jm_smf.specs.Reading.{number4, timed_at, nothing_before, header_name}
use Rattle.jm_smf.specs.Grammar.{SpellsTrack, track_ends, one_more, IsSize, four, IsChunk, track_name, SpellsChunks, first_track, IsHeader, header, IsFile}
use Rattle.jm_smf.specs.Laws.{AreCommands, tick_of, earlier, from_first, FilesReadBack}
use Rattle.jm_smf.proofs.SpelledFiles.{file_is_read}
use Rattle.jm_smf.proofs.WrittenEvents.{event_is_spelled}

-- ---- the track

field_of_0 : IsField (0 ∷ [])
field_of_0 = record { ended = refl; few = omega arith }

record IsNear (index before : ℕ) (t : Timed) (ts : List Timed) : Type 0 where
  near : t.tick - before < 268435456
  others : first_far (index + 1) t.tick ts ≡ None

none_some : (n : ℕ) → Some n ≡ None → ⊥
none_some n e = cc

is_near : (index before : ℕ) (t : Timed) (ts : List Timed) → first_far index before (t ∷ ts) ≡ None → IsNear index before t ts
is_near index before t ts e =
    elim (cases_Bool (ltb 0x0fffffff (t.tick - before))) [
      | inl far ↦ absurd (none_some index (rw far at e))
      | inr f ↦ let near = ltb-false 0x0fffffff (t.tick - before) f in record { near = omega (arith, near); others = rw f at e }
    ]

-- The events of commands behind one at this tick, of which the first stood at another, are spelled, each command at its tick less that.
events_are_spelled : (before : Before) (first now index : ℕ) (list : List Timed) → before.unfinished ≡ false → first ≤ now → AllByRecursion (λ t. now ≤ tick_of t) list → InOrder tick_of list → AreCommands list
    → first_far index now list ≡ None → SpellsTrack before (now - first) (events now list ++ end_of_track) (map (earlier first) list)
events_are_spelled before first now index [] e least above order bounds near = track_ends before (now - first) (0 ∷ []) (0 ∷ []) field_of_0
events_are_spelled before first now index (t ∷ ts) e least above order bounds near =
    let n = is_near index now t ts near in
    let here = above.0 in
    let d = t.tick - now in
    let w = deltas.written d n.near in
    let s = event_is_spelled before d t.command e bounds.0 in
    let rest = events t.tick ts ++ end_of_track in
    let later = events_are_spelled s.after first t.tick (index + 1) ts s.ended (omega (arith, least, here)) order.0 order.1 bounds.1 n.others in
    let sum : now - first + value (delta d) ≡ t.tick - first = ap (λ (v : ℕ). now - first + v) w.value_is ∙ omega (arith, least, here) in
    let behind : SpellsTrack s.after (now - first + value (delta d)) rest (map (earlier first) ts) = subst (λ (tick : ℕ). SpellsTrack s.after tick rest (map (earlier first) ts)) (sym sum) later in
    let all = one_more before s.after (now - first) (delta d) s.text rest (t.command ∷ []) (map (earlier first) ts) w.field s.spelled behind in
    let octets : delta d ++ (s.text ++ rest) ≡ (event d t.command ++ events t.tick ts) ++ end_of_track =
    sym (append_assoc (delta d) s.text rest)
    ∙ ap (λ (x : List ℕ). x ++ rest) (sym s.event_is)
    ∙ sym (append_assoc (event d t.command) (events t.tick ts) end_of_track) in
    subst (λ (x : List ℕ). SpellsTrack before (now - first) x (map (earlier first) (t ∷ ts))) octets
    (subst (λ (tick : ℕ). SpellsTrack before (now - first) (delta d ++ (s.text ++ rest)) (timed_at tick (t.command ∷ []) ++ map (earlier first) ts)) sum all)

at_least_first : (list : List Timed) → InOrder tick_of list → AllByRecursion (λ t. first_tick list ≤ tick_of t) list
at_least_first [] order = tt
at_least_first (t ∷ ts) order = (omega arith, order.0)

first_taken : (list : List Timed) → map (earlier (first_tick list)) list ≡ from_first list
first_taken [] = refl
first_taken (t ∷ ts) = refl

track_is_spelled : (list : List Timed) → AreCommands list → InOrder tick_of list → first_far 0 (first_tick list) list ≡ None → SpellsTrack nothing_before 0 (track list) (from_first list)
track_is_spelled list bounds order near =
    let first = first_tick list in
    let start : first - first ≡ 0 = omega arith in
    subst (λ (all : List Timed). SpellsTrack nothing_before 0 (track list) all) (first_taken list)
    (subst (λ (tick : ℕ). SpellsTrack nothing_before tick (track list) (map (earlier first) list)) start
    (events_are_spelled nothing_before first first 0 list refl (omega arith) (at_least_first list order) order bounds near))

-- ---- chunks

size_written : (n : ℕ) → n < 4294967296 → IsSize (be32 n) n
size_written n few =
    let same : number4 (n / 16777216 % 256) (n / 65536 % 256) (n / 256 % 256) (n % 256) ≡ n = omega (arith, few) in
    subst (λ (m : ℕ). IsSize (be32 n) m) same (four (n / 16777216 % 256) (n / 65536 % 256) (n / 256 % 256) (n % 256))

header_octets : List ℕ
header_octets = 0 ∷ 0 ∷ 0 ∷ 1 ∷ 19 ∷ 136 ∷ []

header_text : List ℕ
header_text = 0x4d ∷ 0x54 ∷ 0x68 ∷ 0x64 ∷ 0 ∷ 0 ∷ 0 ∷ 6 ∷ header_octets

head_is : (len : ℕ) → head len ≡ header_text ++ (track_name ++ be32 len)
unfolding head header_text header_octets
head_is len = refl

file_is : (list : List Timed) → file list ≡ header_text ++ (track_name ++ (be32 (length (track list)) ++ track list))
unfolding header_text header_octets
file_is list = ap (λ (t : List ℕ). t ++ track list) (head_is (length (track list)))

header_chunk : IsChunk header_text header_name header_octets
unfolding header_text header_octets
header_chunk = record { size = 0 ∷ 0 ∷ 0 ∷ 6 ∷ []; four = refl; size_is = four 0 0 0 6; text_is = refl }

is_header : IsHeader header_octets
unfolding header_octets
is_header = header 0 0 0 1 19 136 [] refl (omega arith) (omega arith)

file_is_spelled : (list : List Timed) → AreCommands list → InOrder tick_of list → first_far 0 (first_tick list) list ≡ None → length (track list) < 4294967296 → IsFile (file list) (from_first list)
file_is_spelled list bounds order near few =
    let size = be32 (length (track list)) in
    let chunk = track_name ++ (size ++ track list) in
    let is_chunk : IsChunk chunk track_name (track list) = record { size = size; four = refl; size_is = size_written (length (track list)) few; text_is = refl } in
    record {
      text = header_text;
      head = header_octets;
      rest = chunk;
      split = file_is list;
      headed = header_chunk;
      header = is_header;
      spelled = subst (λ (x : List ℕ). SpellsChunks x (from_first list)) (append-nil chunk) (first_track chunk (track list) [] (from_first list) is_chunk (track_is_spelled list bounds order near));
    }

-- ---- what was written

err_ok : (fault : SmfFault) (octets : List ℕ) → Err fault ≡ Ok octets → ⊥
err_ok fault octets e = cc

same_octets : (a b : List ℕ) → ◌≡◌ {A = Result (List ℕ) SmfFault} (Ok a) (Ok b) → a ≡ b
same_octets a b e = cc

file_length : (list : List Timed) → length (file list) ≡ 22 + length (track list)
unfolding header_text header_octets
file_length list =
    let len : length (file list) ≡ length (header_text ++ (track_name ++ (be32 (length (track list)) ++ track list))) = ap length (file_is list) in
    omega (arith, len)

record IsFileOf (list : List Timed) (octets : List ℕ) : Type 0 where
  few : length octets < 8589934592
  spelled : IsFile octets (from_first list)

unless_far : (list : List Timed) (octets : List ℕ) (far : Option ℕ) → AreCommands list → InOrder tick_of list → first_far 0 (first_tick list) list ≡ far → written_unless far list ≡ Ok octets → IsFileOf list octets
unless_far list octets (Some index) bounds order near e = absurd (err_ok (TooFar index) octets e)
unless_far list octets None bounds order near e =
    elim (cases_Bool (ltb 4294967295 (length (track list)))) [
      | inl t ↦ absurd (err_ok TooLong octets (rw t at e))
      | inr f ↦
          let most = ltb-false 4294967295 (length (track list)) f in
          let len = file_length list in
          subst (IsFileOf list) (same_octets (file list) octets (rw f at e))
          (record { few = omega (arith, len, most); spelled = file_is_spelled list bounds order near (omega (arith, most)) })
    ]

-- What was written is read.
pub files_read_back : FilesReadBack
files_read_back list octets bounds order e =
    let f = unless_far list octets (first_far 0 (first_tick list) list) bounds order refl e in
    record { few = f.few; spelled = f.spelled; again = file_is_read octets (from_first list) f.spelled }
