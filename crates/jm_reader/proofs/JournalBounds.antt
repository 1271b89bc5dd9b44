-- What is read of a whole journal is within its widths.
use Rattle.std.specs.Prelude.{ℕ, zero, suc, ◌+◌, ◌-◌, ◌<◌, ◌&&◌, Bool, true, false, List, [], ◌∷◌, ◌++◌, length, take, drop, Option, Some, None, Result, Ok, Err, IfOk, nat_lt, if◌then◌else◌}
use Rattle.std.proofs.Common.{get_or, arith, inl, inr}
use Rattle.std.proofs.lemmas.Bool.{cases_lt}
use Rattle.std.proofs.lemmas.List.{get_or-drop, get_or-take, get_or_past, length-take}
use Rattle.jm_cmds.specs.declared.outcome.ReadError.{ReadError}
use Rattle.jm_cmds.specs.Gives.{Gives}
use Rattle.jm_wire.specs.declared.heads.JournalHead.{JournalHead}
use Rattle.jm_wire.specs.declared.heads.SystemHead.{SystemHead}
use Rattle.jm_wire.specs.declared.heads.SeqHead.{SeqHead}
use Rattle.jm_wire.specs.declared.heads.TimeHead.{TimeHead}
use Rattle.jm_wire.specs.Heads.{is_set, octet, journal_fields, system_fields, seq_fields, time_fields}
use Rattle.jm_reader.specs.declared.faults.JournalFault.{JournalFault}
use Rattle.jm_reader.specs.declared.logs.Log.{Log}
use Rattle.jm_reader.specs.declared.d.Part.{Part}
use Rattle.jm_reader.specs.declared.d.Part.TheVariants.{Resets, Tunes, Songs}
use Rattle.jm_reader.specs.declared.system.Letter.{Letter}
use Rattle.jm_reader.specs.declared.system.Letter.TheVariants.{D, V, Q, F, X}
use Rattle.jm_reader.specs.declared.journal.Report.{Report}
use Rattle.jm_reader.specs.Bounds.{AreLogs}
use Rattle.jm_reader.specs.Chapter.{Chapter, chapter, joined, and_then}
use Rattle.jm_reader.specs.ChapterD.{part_read, parts_read, d_read}
use Rattle.jm_reader.specs.ChapterV.{v_read}
use Rattle.jm_reader.specs.ChapterQ.{clocked, sequencer_log, q_read}
use Rattle.jm_reader.specs.ChapterF.{word_read, time_logs, partial_read, complete_read, f_read}
use Rattle.jm_reader.specs.ChapterX.{log_head, is_written, log_size, sysex_log, log_read, logs_read, x_read}
use Rattle.jm_reader.specs.ChannelJournal.{channel_read}
use Rattle.jm_reader.specs.SystemJournal.{in_order, is_there, ends_journal, chapter_read, behind_chapter, chapters_read, system_at, system_read}
use Rattle.jm_reader.specs.Journal.{behind_journal, channels_read, flagged_system, channel_count, reported, journal_read}
use Rattle.jm_reader.specs.Journal as whole
use Rattle.jm_reader.proofs.ChannelBounds.{both, ReadsLogs, either_read, either_inside, channel_within, with_size_within}

abbrev pub AreOctets : List ℕ → Type 0
AreOctets octets = (i : ℕ) → get_or octets i 0 < 256

dropped : (n : ℕ) (octets : List ℕ) → AreOctets octets → AreOctets (drop n octets)
dropped n octets h i = rw get_or-drop (h (n + i))

taken : (n : ℕ) (octets : List ℕ) → AreOctets octets → AreOctets (take n octets)
taken n octets h i =
    elim (cases_lt i n) [
      | inl lt ↦ rw (get_or-take n octets i 0 lt) (h i)
      | inr le ↦ rw (get_or_past (take n octets) i 0 (omega (arith, length-take n octets))) (omega arith)
    ]

behind_first : (first : ℕ) (rest : List ℕ) → AreOctets (first ∷ rest) → AreOctets rest
behind_first first rest h i = h (suc i)

-- ## Parts

front_within : (first : List Log × ℕ) (more : Chapter) → AreLogs first.0 → ReadsLogs more → ReadsLogs (joined first more)
front_within first None a b = tt
front_within first (Some more) a b = both first.0 more.0 a b

then_within : (part : Chapter) (behind : ℕ → Chapter) → ReadsLogs part → ((used : ℕ) → ReadsLogs (behind used)) → ReadsLogs (and_then part behind)
then_within None behind a b = tt
then_within (Some first) behind a b = front_within first (behind first.1) a (b first.1)

-- ## Chapters

part_within : (part : Part) (flag : Bool) (octets : List ℕ) → ReadsLogs (part_read part flag octets)
part_within part false octets = tt
part_within part true [] = tt
part_within Resets true (octet ∷ rest) = (omega arith, tt)
part_within Tunes true (octet ∷ rest) = (omega arith, tt)
part_within Songs true (octet ∷ rest) = (tt, tt)

d_within : (octets : List ℕ) → ReadsLogs (d_read octets)
d_within [] = tt
d_within (head ∷ rest) =
    front_within ([], 1) (parts_read head rest) tt
    (then_within (part_read Resets (is_set 64 head) rest) _ (part_within Resets (is_set 64 head) rest) (λ resets.
    then_within (part_read Tunes (is_set 32 head) (drop resets rest)) _ (part_within Tunes (is_set 32 head) (drop resets rest)) (λ tunes.
    part_within Songs (is_set 16 head) (drop tunes (drop resets rest)))))

v_within : (octets : List ℕ) → ReadsLogs (v_read octets)
v_within [] = tt
v_within (octet ∷ rest) = (omega arith, tt)

clocked_within : (head : SeqHead) (rest : List ℕ) → head.top < 8 → AreOctets rest → ReadsLogs (clocked head rest)
clocked_within head [] t o = tt
clocked_within head (high ∷ []) t o = tt
clocked_within head (high ∷ low ∷ rest) t o = (omega (arith, o 0, o 1), tt)

q_within : (octets : List ℕ) → AreOctets octets → ReadsLogs (q_read octets)
q_within [] o = tt
q_within (first ∷ rest) o =
    let head = seq_fields (first ∷ []) in
    let top : head.top < 8 = omega arith in
    let still : 0 < 524288 = omega arith in
    either_read head.t (Some ([], 1)) _ tt
    (either_read head.c (clocked head rest) (Some (sequencer_log head 0 ∷ [], 1)) (clocked_within head rest top (behind_first first rest o)) (still, tt))

either_logs : (test : Bool) (x y : List Log) → AreLogs x → AreLogs y → AreLogs (if test then x else y)
either_logs true x y a b = a
either_logs false x y a b = b

time_within : (head : TimeHead) (complete partial : Option ℕ) → head.point < 8 → AreLogs (time_logs head complete partial)
time_within head complete partial p = either_logs (head.c && (if head.q then false else true)) [] _ tt (p, tt)

partial_within : (head : TimeHead) (complete : Option ℕ) (used : ℕ) (partial : Option (Option ℕ × ℕ)) → head.point < 8 → ReadsLogs (partial_read head complete used partial)
partial_within head complete used None p = tt
partial_within head complete used (Some partial) p = time_within head complete partial.0 p

complete_within : (head : TimeHead) (rest : List ℕ) (complete : Option (Option ℕ × ℕ)) → head.point < 8 → ReadsLogs (complete_read head rest complete)
complete_within head rest None p = tt
complete_within head rest (Some complete) p = partial_within head complete.0 complete.1 (word_read head.p (drop complete.1 rest)) p

f_within : (octets : List ℕ) → ReadsLogs (f_read octets)
f_within [] = tt
f_within (first ∷ rest) =
    let head = time_fields (first ∷ []) in
    let point : head.point < 8 = omega arith in
    complete_within head rest (word_read head.c rest) point

log_within : (octets : List ℕ) → ReadsLogs (log_read octets)
unfolding log_read
log_within [] = tt
log_within (first ∷ rest) =
    let head = log_head first in
    let size = log_size head rest in
    either_read (nat_lt (length rest + 1) size) None _ tt
    (either_read (is_written head) (Some (sysex_log head (octet rest 0) (take (size - 2) (drop 1 rest)) ∷ [], size)) (Some ([], size)) (tt, tt) tt)

logs_within : (n : ℕ) (octets : List ℕ) → ReadsLogs (logs_read n octets)
unfolding logs_read
logs_within zero octets = tt
logs_within (suc n) [] = tt
logs_within (suc n) (first ∷ rest) =
    then_within (log_read (first ∷ rest)) _ (log_within (first ∷ rest)) (λ size. logs_within n (drop size (first ∷ rest)))

x_within : (octets : List ℕ) → ReadsLogs (x_read octets)
x_within [] = tt
x_within (first ∷ rest) = logs_within (length (first ∷ rest)) (first ∷ rest)

chapter_within : (letter : Letter) (octets : List ℕ) → AreOctets octets → ReadsLogs (chapter_read letter octets)
chapter_within D octets o = d_within octets
chapter_within V octets o = v_within octets
chapter_within Q octets o = q_within octets o
chapter_within F octets o = f_within octets
chapter_within X octets o = x_within octets

-- ## The journals

behind_within : (ends : Bool) (place : ℕ) (before : List Log) (read : Chapter) (others : List Log × ℕ → Result (List Log) JournalFault) → AreLogs before → ReadsLogs read
    → ((r : List Log × ℕ) → AreLogs r.0 → IfOk (others r) AreLogs) → IfOk (behind_chapter ends (chapter place before read) others) AreLogs
behind_within ends place before None others a b c = tt
behind_within true place before (Some read) others a b c = both before read.0 a b
behind_within false place before (Some read) others a b c = c (before ++ read.0, read.1) (both before read.0 a b)

chapters_within : (letters : List Letter) (head : SystemHead) (place : ℕ) (before : List Log) (octets : List ℕ) → AreLogs before → AreOctets octets
    → IfOk (chapters_read letters head place before octets) AreLogs
unfolding chapters_read
chapters_within [] head place before octets a o = a
chapters_within (letter ∷ letters) head place before octets a o =
    let later = λ (read : List Log × ℕ). chapters_read letters head (place + read.1) read.0 (drop read.1 octets) in
    either_inside (is_there head letter) (behind_chapter (ends_journal letter octets) (chapter place before (chapter_read letter octets)) later) (chapters_read letters head place before octets)
    (behind_within (ends_journal letter octets) place before (chapter_read letter octets) later a (chapter_within letter octets o)
    (λ read b. chapters_within letters head (place + read.1) read.0 (drop read.1 octets) b (dropped read.1 octets o)))
    (chapters_within letters head place before octets a o)

either_journal : (test : Bool) (x y : Result (List Log × ℕ) JournalFault) → IfOk x (λ r. AreLogs r.0) → IfOk y (λ r. AreLogs r.0) → IfOk (if test then x else y) (λ r. AreLogs r.0)
either_journal true x y a b = a
either_journal false x y a b = b

system_at_within : (head : SystemHead) (place : ℕ) (before : List Log) (octets : List ℕ) → AreLogs before → AreOctets octets → IfOk (system_at head place before octets) (λ r. AreLogs r.0)
system_at_within head place before octets a o =
    let inside = take (head.length - 2) (drop 2 octets) in
    either_journal (nat_lt (length octets) head.length) _ _ tt
    (either_journal (nat_lt head.length 2) _ _ tt
    (with_size_within head.length (chapters_read in_order head (place + 2) before inside)
    (chapters_within in_order head (place + 2) before inside a (taken (head.length - 2) (drop 2 octets) (dropped 2 octets o)))))

system_within : (place : ℕ) (before : List Log) (octets : List ℕ) → AreLogs before → AreOctets octets → IfOk (system_read place before octets) (λ r. AreLogs r.0)
unfolding system_read
system_within place before [] a o = tt
system_within place before (first ∷ []) a o = tt
system_within place before (first ∷ second ∷ rest) a o = system_at_within (system_fields (first ∷ second ∷ [])) place before (first ∷ second ∷ rest) a o

next_within : (read : Result (List Log × ℕ) JournalFault) (others : List Log × ℕ → Result (List Log) JournalFault) → IfOk read (λ r. AreLogs r.0)
    → ((r : List Log × ℕ) → AreLogs r.0 → IfOk (others r) AreLogs) → IfOk (behind_journal read others) AreLogs
next_within (Err fault) others a b = tt
next_within (Ok read) others a b = b read a

channels_within : (count place : ℕ) (before : List Log) (octets : List ℕ) → AreLogs before → IfOk (channels_read count place before octets) AreLogs
unfolding channels_read
channels_within zero place before octets a = a
channels_within (suc count) place before octets a =
    next_within (channel_read place before octets) (λ read. channels_read count (place + read.1) read.0 (drop read.1 octets)) (channel_within place before octets a)
    (λ read b. channels_within count (place + read.1) read.0 (drop read.1 octets) b)

logs_of_within : (head : JournalHead) (octets : List ℕ) → AreOctets octets → IfOk (whole.logs_read head octets) AreLogs
logs_of_within head octets o =
    next_within (flagged_system head octets) (λ read. channels_read (channel_count head) (3 + read.1) read.0 (drop read.1 octets))
    (either_journal head.y (system_read 3 [] octets) (Ok ([], 0)) (system_within 3 [] octets tt o) tt)
    (λ read b. channels_within (channel_count head) (3 + read.1) read.0 (drop read.1 octets) b)

reported_within : (head : JournalHead) (logs : Result (List Log) JournalFault) → IfOk logs AreLogs → IfOk (reported head logs) (λ report. AreLogs report.logs)
reported_within head (Err fault) a = tt
reported_within head (Ok logs) a = a

journal_within : (octets : List ℕ) → AreOctets octets → IfOk (journal_read octets) (λ report. AreLogs report.logs)
unfolding journal_read
journal_within [] o = tt
journal_within (first ∷ []) o = tt
journal_within (first ∷ high ∷ []) o = tt
journal_within (first ∷ high ∷ low ∷ rest) o =
    let head = journal_fields (first ∷ high ∷ low ∷ []) in
    reported_within head (whole.logs_read head rest) (logs_of_within head rest (dropped 3 (first ∷ high ∷ low ∷ rest) o))

pub given_within : (octets : List ℕ) (result : Result Report (ReadError JournalFault)) → Gives result (journal_read octets) → AreOctets octets → IfOk result (λ report. AreLogs report.logs)
given_within octets (Ok report) g o = rw g at (journal_within octets o)
given_within octets (Err e) g o = tt
