-- What is spelled by the grammar is read.
use Rattle.std.proofs.Common.{◌≡◌, ℕ, ◌+◌, ◌≤◌, ◌<◌, false, eqb, List, [], ◌∷◌, ◌++◌, drop, take, get_or, length, Option, Some, Result, Ok, refl, ap, ◌∙◌, append_assoc, length-append, add-one, add_comm, arith, inl, inr}
use Rattle.std.proofs.lemmas.Bool.{lt-ltb, le-ltb, eqb-true, ne_eqb, cases_Bool, and_parts}
use Rattle.std.specs.List.{list_all}
use Rattle.std.proofs.Math.Seq.{take-append_seam}
use Rattle.std.specs.Prelude.{IsTrue, ◌⊎◌}
use Rattle.jm_cmds.specs.declared.commands.Command.{Command}
use Rattle.jm_cmds.specs.declared.commands.Command.TheVariants.{NoteOff, NoteOn, PolyPressure, Control, Program, Pressure, Wheel, QuarterFrame, SongPosition, SongSelect, TuneRequest, Clock, Start, Continue, Stop, ActiveSensing, SystemReset, Sysex}
use Rattle.jm_cmds.specs.Command.{spelling, status_of, IsCommand}
use Rattle.jm_cmds.specs.Data.{is_data, IsData, data_len}
use Rattle.jm_cmds.specs.Reading.{command_read}
use Rattle.jm_cmds.specs.CommandLaws.{command_read-spelling}
use Rattle.jm_section.specs.declared.item.What.{What}
use Rattle.jm_section.specs.declared.item.What.TheVariants.{Whole, Part, Passed}
use Rattle.jm_section.specs.declared.item.PartKind.{PartKind}
use Rattle.jm_section.specs.declared.item.PartKind.TheVariants.{First, Middle, Last, Cancel}
use Rattle.jm_section.specs.declared.reading.SectionFault.{SectionFault}
use Rattle.jm_section.specs.Grammar.{is_passed, IsSegment, first_part, middle_part, last_part, cancel_first, cancel_other, SpellsWhat, with_status, without_status, passed, segment}
use Rattle.jm_section.specs.Reading.{whole, under_running, exclusive_ended, exclusive_read, what_read}

abbrev got : What × ℕ → Result (What × ℕ) SectionFault
got read = Ok read

-- ## Commands with their status octet

-- a status octet of a channel command
channel_read_at : (place : ℕ) (running : Option ℕ) (status : ℕ) (rest : List ℕ) → 128 ≤ status → status < 240
    → what_read place running (status ∷ rest) ≡ whole place (command_read (status ∷ rest))
unfolding what_read
channel_read_at place running status rest from below =
    rw (le-ltb status 128 from, ne_eqb status 240 (λ e. omega arith), ne_eqb status 247 (λ e. omega arith), ne_eqb status 244 (λ e. omega arith), ne_eqb status 245 (λ e. omega arith), ne_eqb status 249 (λ e. omega arith), ne_eqb status 253 (λ e. omega arith)) refl

-- a command that is read whole from its status octet
pub whole_read : (place : ℕ) (running : Option ℕ) (command : Command) (rest : List ℕ) → IsCommand command
    → what_read place running (spelling command ++ rest) ≡ whole place (command_read (spelling command ++ rest))
    → what_read place running (spelling command ++ rest) ≡ got (Whole command, length (spelling command))
whole_read place running command rest h e = e ∙ ap (whole place) (command_read-spelling command rest h)

-- ## System Exclusive

pub data_len-stops : (octets rest : List ℕ) (last : ℕ) → IsData octets → 128 ≤ last → data_len (octets ++ last ∷ rest) ≡ length octets
data_len-stops [] rest last h high = rw (le-ltb last 128 high) refl
data_len-stops (octet ∷ octets) rest last h high =
    let both = and_parts (is_data octet) (list_all is_data octets) h in
    rw both.0 (ap (λ n. 1 + n) (data_len-stops octets rest last both.1 high) ∙ add_comm 1 (length octets) ∙ add-one (length octets))

pub at_seam : (xs ys : List ℕ) (y : ℕ) → get_or (xs ++ y ∷ ys) (length xs) 0 ≡ y
at_seam [] ys y = refl
at_seam (x ∷ xs) ys y = at_seam xs ys y

pub exclusive_read-ended : (place first last : ℕ) (octets rest : List ℕ) → IsData octets → 128 ≤ last
    → exclusive_read place (first ∷ (octets ++ last ∷ rest)) ≡ exclusive_ended place (first ∷ (octets ++ last ∷ rest)) first (length octets) last
exclusive_read-ended place first last octets rest h high =
    let n = data_len-stops octets rest last h high in
    let l : length (octets ++ last ∷ rest) ≡ length octets + (length rest + 1) = grind (arith, length-append, add-one) in
    let some : eqb (length octets) (length (octets ++ last ∷ rest)) ≡ false = ne_eqb (length octets) (length (octets ++ last ∷ rest)) (λ e. omega arith) in
    rw (n, some, at_seam octets rest last) refl

pub exclusive_begins : (place : ℕ) (running : Option ℕ) (first : ℕ) (rest : List ℕ) → (first ≡ 0xf0) ⊎ (first ≡ 0xf7)
    → what_read place running (first ∷ rest) ≡ exclusive_read place (first ∷ rest)
unfolding what_read
exclusive_begins place running first rest h = elim h [ inl e ↦ rw e refl | inr e ↦ rw e refl ]

-- the octets of a System Exclusive text, whatever follows
tail_joins : (first last : ℕ) (octets rest : List ℕ) → (first ∷ (octets ++ last ∷ [])) ++ rest ≡ first ∷ (octets ++ last ∷ rest)
tail_joins first last octets rest = ap (λ (t : List ℕ). first ∷ t) (append_assoc octets (last ∷ []) rest)

size_is : (first last : ℕ) (octets : List ℕ) → length octets + 2 ≡ length (first ∷ (octets ++ last ∷ []))
size_is first last octets = grind (arith, length-append, add-one)

pub ended : (place : ℕ) (running : Option ℕ) (first last : ℕ) (octets rest : List ℕ) → ((first ≡ 0xf0) ⊎ (first ≡ 0xf7)) → IsData octets → 128 ≤ last
    → what_read place running (first ∷ (octets ++ last ∷ rest)) ≡ exclusive_ended place (first ∷ (octets ++ last ∷ rest)) first (length octets) last
ended place running first last octets rest f h high =
    exclusive_begins place running first (octets ++ last ∷ rest) f ∙ exclusive_read-ended place first last octets rest h high

-- the data octets of a segment
between : (kind : PartKind) (octets rest : List ℕ) → got (Part kind (take (length octets) (octets ++ rest)), length octets + 2) ≡ got (Part kind octets, length octets + 2)
between kind octets rest = ap (λ (t : List ℕ). got (Part kind t, length octets + 2)) (take-append_seam octets rest)

segment_read : (kind : PartKind) (place : ℕ) (running : Option ℕ) (first last : ℕ) (octets rest : List ℕ) → IsSegment kind first last → IsData octets
    → what_read place running (first ∷ (octets ++ last ∷ rest)) ≡ got (Part kind octets, length octets + 2)
segment_read First place running first last octets rest first_part h = ended place running 0xf0 0xf0 octets rest (inl refl) h (omega arith) ∙ between First octets (0xf0 ∷ rest)
segment_read Middle place running first last octets rest middle_part h = ended place running 0xf7 0xf0 octets rest (inr refl) h (omega arith) ∙ between Middle octets (0xf0 ∷ rest)
segment_read Last place running first last octets rest last_part h = ended place running 0xf7 0xf7 octets rest (inr refl) h (omega arith) ∙ between Last octets (0xf7 ∷ rest)
segment_read Cancel place running first last octets rest cancel_first h = ended place running 0xf0 0xf4 octets rest (inl refl) h (omega arith) ∙ between Cancel octets (0xf4 ∷ rest)
segment_read Cancel place running first last octets rest cancel_other h = ended place running 0xf7 0xf4 octets rest (inr refl) h (omega arith) ∙ between Cancel octets (0xf4 ∷ rest)

sysex_read : (place : ℕ) (running : Option ℕ) (octets rest : List ℕ) → IsCommand (Sysex octets)
    → what_read place running (spelling (Sysex octets) ++ rest) ≡ whole place (command_read (spelling (Sysex octets) ++ rest))
sysex_read place running octets rest h =
    let e = tail_joins 0xf0 0xf7 octets rest in
    rw e (ended place running 0xf0 0xf7 octets rest (inl refl) h.octets_are_data (omega arith))

-- ## Every command

command_begins : (place : ℕ) (running : Option ℕ) (command : Command) (rest : List ℕ) → IsCommand command
    → what_read place running (spelling command ++ rest) ≡ whole place (command_read (spelling command ++ rest))
unfolding what_read
command_begins place running (NoteOff channel note velocity) rest h = channel_read_at place running (0x80 + channel) (note ∷ velocity ∷ rest) (omega arith) (omega arith)
command_begins place running (NoteOn channel note velocity) rest h = channel_read_at place running (0x90 + channel) (note ∷ velocity ∷ rest) (omega arith) (omega arith)
command_begins place running (PolyPressure channel note value) rest h = channel_read_at place running (0xa0 + channel) (note ∷ value ∷ rest) (omega arith) (omega arith)
command_begins place running (Control channel number value) rest h = channel_read_at place running (0xb0 + channel) (number ∷ value ∷ rest) (omega arith) (omega arith)
command_begins place running (Program channel program) rest h = channel_read_at place running (0xc0 + channel) (program ∷ rest) (omega arith) (omega arith)
command_begins place running (Pressure channel value) rest h = channel_read_at place running (0xd0 + channel) (value ∷ rest) (omega arith) (omega arith)
command_begins place running (Wheel channel first second) rest h = channel_read_at place running (0xe0 + channel) (first ∷ second ∷ rest) (omega arith) (omega arith)
command_begins place running (QuarterFrame value) rest h = refl
command_begins place running (SongPosition value) rest h = refl
command_begins place running (SongSelect song) rest h = refl
command_begins place running TuneRequest rest h = refl
command_begins place running Clock rest h = refl
command_begins place running Start rest h = refl
command_begins place running Continue rest h = refl
command_begins place running Stop rest h = refl
command_begins place running ActiveSensing rest h = refl
command_begins place running SystemReset rest h = refl
command_begins place running (Sysex octets) rest h = sysex_read place running octets rest h

-- ## Running status

-- a text whose first octet is data is read under the running status
pub running_begins : (place : ℕ) (running : Option ℕ) (first : ℕ) (rest : List ℕ) → first < 128
    → what_read place running (first ∷ rest) ≡ under_running place running (first ∷ rest)
unfolding what_read
running_begins place running first rest low = rw (lt-ltb first 128 low) refl

-- one data octet, or two, behind a status octet that stands before the list
one_behind : (place status value : ℕ) (rest : List ℕ) (command : Command) → IsCommand command → spelling command ≡ status ∷ value ∷ [] → value < 128
    → what_read place (Some status) (value ∷ rest) ≡ got (Whole command, 1)
one_behind place status value rest command h e low =
    let read : command_read (status ∷ value ∷ take 1 rest) ≡ Ok (command, 2) = (rw e at (command_read-spelling command (take 1 rest) h)) in
    running_begins place (Some status) value rest low ∙ rw read refl

two_behind : (place status first second : ℕ) (rest : List ℕ) (command : Command) → IsCommand command → spelling command ≡ status ∷ first ∷ second ∷ [] → first < 128
    → what_read place (Some status) (first ∷ second ∷ rest) ≡ got (Whole command, 2)
two_behind place status first second rest command h e low =
    let read : command_read (status ∷ first ∷ second ∷ []) ≡ Ok (command, 3) = (rw e at (command_read-spelling command [] h)) in
    running_begins place (Some status) first (second ∷ rest) low ∙ rw read refl

behind_read : (place : ℕ) (command : Command) (rest : List ℕ) → IsCommand command → status_of command < 0xf0
    → what_read place (Some (status_of command)) (drop 1 (spelling command) ++ rest) ≡ got (Whole command, length (drop 1 (spelling command)))
behind_read place (NoteOff channel note velocity) rest h lt = two_behind place (0x80 + channel) note velocity rest (NoteOff channel note velocity) h refl h.1
behind_read place (NoteOn channel note velocity) rest h lt = two_behind place (0x90 + channel) note velocity rest (NoteOn channel note velocity) h refl h.1
behind_read place (PolyPressure channel note value) rest h lt = two_behind place (0xa0 + channel) note value rest (PolyPressure channel note value) h refl h.1
behind_read place (Control channel number value) rest h lt = two_behind place (0xb0 + channel) number value rest (Control channel number value) h refl h.1
behind_read place (Program channel program) rest h lt = one_behind place (0xc0 + channel) program rest (Program channel program) h refl h.1
behind_read place (Pressure channel value) rest h lt = one_behind place (0xd0 + channel) value rest (Pressure channel value) h refl h.1
behind_read place (Wheel channel first second) rest h lt = two_behind place (0xe0 + channel) first second rest (Wheel channel first second) h refl h.1
behind_read place (QuarterFrame value) rest h lt = absurd (omega arith)
behind_read place (SongPosition value) rest h lt = absurd (omega arith)
behind_read place (SongSelect song) rest h lt = absurd (omega arith)
behind_read place TuneRequest rest h lt = absurd (omega arith)
behind_read place Clock rest h lt = absurd (omega arith)
behind_read place Start rest h lt = absurd (omega arith)
behind_read place Continue rest h lt = absurd (omega arith)
behind_read place Stop rest h lt = absurd (omega arith)
behind_read place ActiveSensing rest h lt = absurd (omega arith)
behind_read place SystemReset rest h lt = absurd (omega arith)
behind_read place (Sysex octets) rest h lt = absurd (omega arith)

-- ## Octets that are passed over

passed_read : (place : ℕ) (running : Option ℕ) (octet : ℕ) (rest : List ℕ) → IsTrue (is_passed octet) → what_read place running (octet ∷ rest) ≡ got (Passed octet, 1)
unfolding what_read
passed_read place running octet rest h =
    elim (cases_Bool (eqb octet 0xf4)) [
      | inl t ↦ rw (eqb-true octet 0xf4 t) refl
      | inr f4 ↦ elim (cases_Bool (eqb octet 0xf5)) [
        | inl t ↦ rw (eqb-true octet 0xf5 t) refl
        | inr f5 ↦ elim (cases_Bool (eqb octet 0xf9)) [
          | inl t ↦ rw (eqb-true octet 0xf9 t) refl
          | inr f9 ↦ elim (cases_Bool (eqb octet 0xfd)) [
            | inl t ↦ rw (eqb-true octet 0xfd t) refl
            | inr fd ↦ let never = rw (f4, f5, f9, fd) at h in absurd cc
          ]
        ]
      ]
    ]

-- what is spelled is read, whatever follows
pub what_spelled : (place : ℕ) (running : Option ℕ) (text : List ℕ) (what : What) (rest : List ℕ) → SpellsWhat running text what
    → what_read place running (text ++ rest) ≡ got (what, length text)
what_spelled place running text what rest (with_status command h) = whole_read place running command rest h (command_begins place running command rest h)
what_spelled place running text what rest (without_status command h lt e) = rw e (behind_read place command rest h lt)
what_spelled place running text what rest (passed octet h) = passed_read place running octet rest h
what_spelled place running text what rest (segment kind first last octets s h) =
    rw (tail_joins first last octets rest) (segment_read kind place running first last octets rest s h ∙ ap (λ (n : ℕ). got (Part kind octets, n)) (size_is first last octets))
