-- The segments of a long command: how many, of what size, and that they join to its data octets.
use Rattle.std.proofs.Common.{ℕ, zero, suc, ◌+◌, ◌<◌, ◌≤◌, ◌≡◌, refl, sym, ap, ◌∙◌, true, false, List, [], ◌∷◌, ◌++◌, length, take, drop, arith, inl, inr, append-nil, length-drop}
use Rattle.std.specs.Prelude.{◌/◌, ◌&&◌, nat_le, nat_lt}
use Rattle.std.specs.List.{AllByRecursion, flat_map, list_all}
use Rattle.std.proofs.lemmas.Bool.Decides.{nat_tests}
use Rattle.std.proofs.lemmas.List.Folds.{list_all-append}
use Rattle.std.proofs.lemmas.Bool.{cases_Bool, ltb-true, leb-true, leb-false, and_parts}
use Rattle.std.proofs.lemmas.List.{take-append-drop, length-take-le}
use Rattle.jm_cmds.specs.declared.commands.Command.{Command}
use Rattle.jm_cmds.specs.declared.commands.Command.TheVariants.{NoteOff, NoteOn, PolyPressure, Control, Program, Pressure, Wheel, QuarterFrame, SongPosition, SongSelect, TuneRequest, Clock, Start, Continue, Stop, ActiveSensing, SystemReset, Sysex}
use Rattle.jm_cmds.specs.Command.{IsCommand, is_long}
use Rattle.jm_cmds.specs.Data.{IsSysex, IsData, is_data, is_long_message}
use Rattle.jm_section.specs.Section.{is_written}
use Rattle.jm_section.specs.declared.item.PartKind.TheVariants.{First, Middle, Last}
use Rattle.jm_book.specs.Segments.{Segment, first_segment, middle_segment, last_segment, later_segments, segments_of, segments_in, message_of, part_of, DividesLong}

-- how many segments may stand behind the first is no part of them, where there is room for all
pub later_any : (most other : ℕ) (octets : List ℕ) → 1 ≤ length octets → length octets ≤ most → length octets ≤ other → later_segments most octets ≡ later_segments other octets
later_any zero other octets some fits also = absurd (omega arith)
later_any (suc most) zero octets some fits also = absurd (omega arith)
later_any (suc most) (suc other) octets some fits also = elim (cases_Bool (nat_le (length octets) 2046)) [
  | inl t ↦ rw t refl
  | inr f ↦
      let many : 2046 < length octets = leb-false (length octets) 2046 f in
      let rest = length-drop 2046 octets in
      rw f (ap (λ (segments : List Segment). middle_segment octets ∷ segments) (later_any most other (drop 2046 octets) (omega arith) (omega arith) (omega arith)))
]

-- one segment for each 2,046 octets or less
pub length_later : (most : ℕ) (octets : List ℕ) → 1 ≤ length octets → length octets ≤ most → length (later_segments most octets) ≡ (length octets + 2045) / 2046
length_later zero octets some fits = absurd (omega arith)
length_later (suc most) octets some fits = elim (cases_Bool (nat_le (length octets) 2046)) [
  | inl t ↦ let few : length octets ≤ 2046 = leb-true (length octets) 2046 t in rw t (omega arith)
  | inr f ↦
      let many : 2046 < length octets = leb-false (length octets) 2046 f in
      let rest = length-drop 2046 octets in
      let later = length_later most (drop 2046 octets) (omega arith) (omega arith) in
      rw f (omega arith)
]

pub length_segments : (octets : List ℕ) → is_long_message octets ≡ true → length (segments_of octets) ≡ (length octets + 2045) / 2046
length_segments octets long =
    let many : 2046 < length octets = ltb-true 2046 (length octets) long in
    let rest = length-drop 2046 octets in
    let later = length_later (length octets) (drop 2046 octets) (omega arith) (omega arith) in
    omega arith

-- at most 33
pub segments_few : (octets : List ℕ) → is_long_message octets ≡ true → length octets ≤ 65536 → length (segments_of octets) ≤ 33
segments_few octets long few = let many = length_segments octets long in omega arith

-- what stands behind the first segment: middle ones and a last one
record AreLater (whole : List ℕ) (segments : List Segment) : Type 0 where
  middle : List Segment
  last : Segment
  parts : segments ≡ middle ++ last ∷ []
  goes_on : AllByRecursion (λ (one : Segment). one.kind ≡ Middle) middle
  ends : last.kind ≡ Last
  full : AllByRecursion (λ (one : Segment). length one.octets ≡ 2046) middle
  least : 1 ≤ length last.octets
  most : length last.octets ≤ 2046
  joined : flat_map (λ (one : Segment). one.octets) segments ≡ whole

are_later : (most : ℕ) (octets : List ℕ) → 1 ≤ length octets → length octets ≤ most → AreLater octets (later_segments most octets)
are_later zero octets some fits = absurd (omega arith)
are_later (suc most) octets some fits = elim (cases_Bool (nat_le (length octets) 2046)) [
  | inl t ↦ rw t record {
    middle = [];
    last = last_segment octets;
    parts = refl;
    goes_on = tt;
    ends = refl;
    full = tt;
    least = some;
    most = leb-true (length octets) 2046 t;
    joined = append-nil octets;
  }
  | inr f ↦
      let many : 2046 < length octets = leb-false (length octets) 2046 f in
      let rest = length-drop 2046 octets in
      let later = are_later most (drop 2046 octets) (omega arith) (omega arith) in
      rw f record {
        middle = middle_segment octets ∷ later.middle;
        last = later.last;
        parts = ap (λ (segments : List Segment). middle_segment octets ∷ segments) later.parts;
        goes_on = (refl, later.goes_on);
        ends = later.ends;
        full = (length-take-le 2046 octets (omega arith), later.full);
        least = later.least;
        most = later.most;
        joined = ap (λ (whole : List ℕ). take 2046 octets ++ whole) later.joined ∙ take-append-drop 2046 octets;
      }
]

pub divides_long : DividesLong
divides_long octets long =
    let many : 2046 < length octets = ltb-true 2046 (length octets) long in
    let rest = length-drop 2046 octets in
    let later = are_later (length octets) (drop 2046 octets) (omega arith) (omega arith) in
    record {
      first = first_segment octets;
      middle = later.middle;
      last = later.last;
      parts = ap (λ (segments : List Segment). first_segment octets ∷ segments) later.parts;
      begins = refl;
      goes_on = later.goes_on;
      ends = later.ends;
      full = (length-take-le 2046 octets (omega arith), later.full);
      least = later.least;
      most = later.most;
      joined = ap (λ (whole : List ℕ). take 2046 octets ++ whole) later.joined ∙ take-append-drop 2046 octets;
    }

-- a long command is a long message
pub long_message_of : (command : Command) → is_long command ≡ true → is_long_message (message_of command) ≡ true
long_message_of (NoteOff channel note velocity) h = absurd cc
long_message_of (NoteOn channel note velocity) h = absurd cc
long_message_of (PolyPressure channel note value) h = absurd cc
long_message_of (Control channel number value) h = absurd cc
long_message_of (Program channel program) h = absurd cc
long_message_of (Pressure channel value) h = absurd cc
long_message_of (Wheel channel one other) h = absurd cc
long_message_of (QuarterFrame value) h = absurd cc
long_message_of (SongPosition value) h = absurd cc
long_message_of (SongSelect song) h = absurd cc
long_message_of TuneRequest h = absurd cc
long_message_of Clock h = absurd cc
long_message_of Start h = absurd cc
long_message_of Continue h = absurd cc
long_message_of Stop h = absurd cc
long_message_of ActiveSensing h = absurd cc
long_message_of SystemReset h = absurd cc
long_message_of (Sysex octets) h = h

long_data : (command : Command) → is_long command ≡ true → IsCommand command → IsData (message_of command)
long_data (NoteOff channel note velocity) h is = absurd cc
long_data (NoteOn channel note velocity) h is = absurd cc
long_data (PolyPressure channel note value) h is = absurd cc
long_data (Control channel number value) h is = absurd cc
long_data (Program channel program) h is = absurd cc
long_data (Pressure channel value) h is = absurd cc
long_data (Wheel channel one other) h is = absurd cc
long_data (QuarterFrame value) h is = absurd cc
long_data (SongPosition value) h is = absurd cc
long_data (SongSelect song) h is = absurd cc
long_data TuneRequest h is = absurd cc
long_data Clock h is = absurd cc
long_data Start h is = absurd cc
long_data Continue h is = absurd cc
long_data Stop h is = absurd cc
long_data ActiveSensing h is = absurd cc
long_data SystemReset h is = absurd cc
long_data (Sysex octets) h is = is.octets_are_data

-- ---- a segment in a section

-- a section has it, its data octets are those of a message, at least one; and a first one is full
pub record IsSectionPart (one : Segment) : Type 0 where
  pub written : is_written (part_of one) ≡ true
  pub message : IsSysex one.octets
  pub some : 1 ≤ length one.octets
  pub full : one.kind ≡ First → 2046 ≤ length one.octets

-- both parts of data octets are data octets
data_apart : (size : ℕ) (octets : List ℕ) → IsData octets → IsData (take size octets) × IsData (drop size octets)
data_apart size octets is =
    let parts : (list_all is_data (take size octets) && list_all is_data (drop size octets)) ≡ true =
    sym (list_all-append is_data (take size octets) (drop size octets)) ∙ ap (list_all is_data) (take-append-drop size octets) ∙ is in
    and_parts (list_all is_data (take size octets)) (list_all is_data (drop size octets)) parts

-- the first 2,046 of more data octets
record IsFullPart (octets : List ℕ) : Type 0 where
  size : length octets ≡ 2046
  short : nat_lt 2046 (length octets) ≡ false
  message : IsSysex octets

full_part : (octets : List ℕ) → 2046 < length octets → IsData octets → IsFullPart (take 2046 octets)
full_part octets many is =
    let size : length (take 2046 octets) ≡ 2046 = length-take-le 2046 octets (omega arith) in
    record { size = size; short = grind (arith, nat_tests, size); message = record { octets_are_data = (data_apart 2046 octets is).0; few = omega arith } }

later_parts : (most : ℕ) (octets : List ℕ) → 1 ≤ length octets → length octets ≤ most → IsData octets → AllByRecursion IsSectionPart (later_segments most octets)
later_parts zero octets some fits is = absurd (omega arith)
later_parts (suc most) octets some fits is = elim (cases_Bool (nat_le (length octets) 2046)) [
  | inl t ↦
      let few : length octets ≤ 2046 = leb-true (length octets) 2046 t in
      let short : nat_lt 2046 (length octets) ≡ false = grind (arith, nat_tests, few) in
      rw t (record { written = rw short refl; message = record { octets_are_data = is; few = omega arith }; some = some; full = λ e. absurd cc }, tt)
  | inr f ↦
      let many : 2046 < length octets = leb-false (length octets) 2046 f in
      let rest = length-drop 2046 octets in
      let full = full_part octets many is in
      rw f (record { written = rw full.short refl; message = full.message; some = omega (arith, full.size); full = λ e. absurd cc }, later_parts most (drop 2046 octets) (omega arith) (omega arith) (data_apart 2046 octets is).1)
]

pub segments_are_parts : (octets : List ℕ) → is_long_message octets ≡ true → IsData octets → AllByRecursion IsSectionPart (segments_of octets)
segments_are_parts octets long is =
    let many : 2046 < length octets = ltb-true 2046 (length octets) long in
    let rest = length-drop 2046 octets in
    let full = full_part octets many is in
    (record { written = rw full.short refl; message = full.message; some = omega (arith, full.size); full = λ e. omega (arith, full.size) }, later_parts (length octets) (drop 2046 octets) (omega arith) (omega arith) (data_apart 2046 octets is).1)

-- those of a command
pub command_parts : (command : Command) → is_long command ≡ true → IsCommand command → AllByRecursion IsSectionPart (segments_in command)
command_parts command long is = rw long (segments_are_parts (message_of command) (long_message_of command long) (long_data command long is))
