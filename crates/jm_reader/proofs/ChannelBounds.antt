-- What is read of a channel journal is within its widths.
use Rattle.std.specs.Prelude.{ℕ, ◌+◌, ◌-◌, ◌*◌, ◌%◌, ◌<◌, Bool, true, false, not, List, [], ◌∷◌, ◌++◌, length, take, drop, Option, Some, None, Result, Ok, Err, IfSome, IfOk, nat_lt, ◌==◌, if◌then◌else◌, option_map}
use Rattle.std.proofs.Common.{arith}
use Rattle.jm_cmds.specs.Control.{is_entry, is_counted}
use Rattle.jm_cmds.specs.HistoryLaws.{AllByRecursion-append}
use Rattle.jm_wire.specs.Heads.{is_set, note_fields, param_fields}
use Rattle.jm_wire.specs.declared.heads.ChannelHead.{ChannelHead}
use Rattle.jm_reader.specs.declared.faults.JournalFault.{JournalFault}
use Rattle.jm_reader.specs.declared.logs.Log.{Log}
use Rattle.jm_reader.specs.declared.logs.LogKind.{LogKind}
use Rattle.jm_reader.specs.declared.logs.LogKind.TheVariants as kinds
use Rattle.jm_reader.specs.declared.pairs.PairKind.{PairKind}
use Rattle.jm_reader.specs.declared.pairs.PairKind.TheVariants.{Controllers, Notes, Extras, Pressures}
use Rattle.jm_reader.specs.declared.channel.ChannelChapter.{ChannelChapter}
use Rattle.jm_reader.specs.declared.channel.ChannelChapter.TheVariants.{P, C, M, W, N, E, T, A}
use Rattle.jm_reader.specs.Bounds.{IsWithin, IsLog, AreLogs}
use Rattle.jm_reader.specs.Chapter.{Chapter, chapter, with_size}
use Rattle.jm_reader.specs.ChapterM.{half_read, low_read, halves_read, param_read, before_others, params_read, known, m_logs, is_written, m_read}
use Rattle.jm_reader.specs.ChapterN.{off_log, off_octet, off_logs, note_count, off_count, n_logs, n_size, n_read}
use Rattle.jm_reader.specs.ChapterP.{p_read}
use Rattle.jm_reader.specs.ChapterT.{t_read}
use Rattle.jm_reader.specs.ChapterW.{w_read}
use Rattle.jm_reader.specs.ChannelJournal.{is_flagged, chapter_read, flagged_read, order, behind_chapter, chapters_read, head_read, inside_read, behind_head, channel_read}
use Rattle.jm_reader.specs.Pairs.{toggles_said, count_said, control_said, said, logged, pair_logs, listed_size, listed_read}

pub both : (xs ys : List Log) → AreLogs xs → AreLogs ys → AreLogs (xs ++ ys)
both xs ys a b = AllByRecursion-append IsLog xs ys a b

-- ## Pairs

either_said : (test : Bool) (x y : Option LogKind) → IfSome x IsWithin → IfSome y IsWithin → IfSome (if test then x else y) IsWithin
either_said true x y a b = a
either_said false x y a b = b

control_within : (channel number form : ℕ) → IfSome (control_said channel number form) IsWithin
control_within channel number form =
    let few : form % 64 < 64 = omega arith in
    let toggles = either_said (number == 64) (Some (kinds.Toggle channel (form % 64))) None few tt in
    let counted = either_said (is_counted number) (Some (kinds.Count channel number (form % 64))) None few tt in
    let behind = either_said (nat_lt form 192) (toggles_said channel number form) (count_said channel number form) toggles counted in
    let valued = either_said (nat_lt form 128) (Some (kinds.Control channel number form)) _ tt behind in
    either_said (is_entry number) None _ tt valued

said_within : (kind : PairKind) (channel number second : ℕ) → IfSome (said kind channel number second) IsWithin
said_within Controllers channel number second = control_within channel number second
said_within Notes channel number second = tt
said_within Extras channel number second = tt
said_within Pressures channel number second = tt

logged_within : (fresh : Bool) (what : Option LogKind) → IfSome what IsWithin → AreLogs (logged fresh what)
logged_within fresh None h = tt
logged_within fresh (Some what) h = (h, tt)

pairs_within : (kind : PairKind) (channel : ℕ) (octets : List ℕ) → AreLogs (pair_logs kind channel octets)
pairs_within kind channel [] = tt
pairs_within kind channel (first ∷ []) = tt
pairs_within kind channel (first ∷ second ∷ rest) =
    both (logged (nat_lt first 128) (said kind channel (first % 128) second)) (pair_logs kind channel rest)
    (logged_within (nat_lt first 128) (said kind channel (first % 128) second) (said_within kind channel (first % 128) second))
    (pairs_within kind channel rest)

-- ## Chapters

abbrev pub ReadsLogs : Chapter → Type 0
ReadsLogs read = IfSome read (λ r. AreLogs r.0)

pub either_read : (test : Bool) (x y : Chapter) → ReadsLogs x → ReadsLogs y → ReadsLogs (if test then x else y)
either_read true x y a b = a
either_read false x y a b = b

listed_within : (kind : PairKind) (channel : ℕ) (octets : List ℕ) → ReadsLogs (listed_read kind channel octets)
listed_within kind channel [] = tt
listed_within kind channel (first ∷ rest) =
    either_read (nat_lt (length rest) (listed_size first)) None _ tt (pairs_within kind channel (take (listed_size first) rest))

off_log_within : (channel : ℕ) (fresh : Bool) (note : ℕ) (is_off : Bool) → AreLogs (off_log channel fresh note is_off)
off_log_within channel fresh note true = (tt, tt)
off_log_within channel fresh note false = tt

off_within : (channel : ℕ) (fresh : Bool) (note : ℕ) (octets : List ℕ) → AreLogs (off_logs channel fresh note octets)
off_within channel fresh note [] = tt
off_within channel fresh note (octet ∷ octets) =
    let one = λ (n : ℕ) (b : Bool). off_log_within channel fresh n b in
    both (off_octet channel fresh note octet) (off_logs channel fresh (note + 8) octets)
    (both _ _ (both _ _ (both _ _ (both _ _ (both _ _ (both _ _ (both _ _
    (one note (is_set 128 octet)) (one (note + 1) (is_set 64 octet))) (one (note + 2) (is_set 32 octet))) (one (note + 3) (is_set 16 octet)))
    (one (note + 4) (is_set 8 octet))) (one (note + 5) (is_set 4 octet))) (one (note + 6) (is_set 2 octet))) (one (note + 7) (is_set 1 octet)))
    (off_within channel fresh (note + 8) octets)

n_within : (channel : ℕ) (octets : List ℕ) → ReadsLogs (n_read channel octets)
n_within channel [] = tt
n_within channel (first ∷ []) = tt
n_within channel (first ∷ second ∷ rest) =
    let head = note_fields (first ∷ second ∷ []) in
    let struck = take (2 * note_count head) rest in
    let bits = take (off_count head) (drop (2 * note_count head) rest) in
    either_read (nat_lt (length rest) (n_size head)) None (Some (n_logs channel head rest, n_size head + 2)) tt
    (both (off_logs channel (not head.b) (8 * head.low) bits) (pair_logs Notes channel struck)
    (off_within channel (not head.b) (8 * head.low) bits) (pairs_within Notes channel struck))

low_within : (channel first second : ℕ) (high : Option ℕ) (low : Option (Option ℕ × List ℕ)) → IfSome (low_read channel first second high low) (λ r. IsLog r.0)
low_within channel first second high None = tt
low_within channel first second high (Some low) = tt

halves_within : (channel first second flags : ℕ) (high : Option (Option ℕ × List ℕ)) → IfSome (halves_read channel first second flags high) (λ r. IsLog r.0)
halves_within channel first second flags None = tt
halves_within channel first second flags (Some high) = low_within channel first second high.0 (half_read (is_set 64 flags) high.1)

either_param : (test : Bool) (x y : Option (Log × List ℕ)) → IfSome x (λ r. IsLog r.0) → IfSome y (λ r. IsLog r.0) → IfSome (if test then x else y) (λ r. IsLog r.0)
either_param true x y a b = a
either_param false x y a b = b

param_within : (channel : ℕ) (octets : List ℕ) → IfSome (param_read channel octets) (λ r. IsLog r.0)
param_within channel [] = tt
param_within channel (first ∷ []) = tt
param_within channel (first ∷ second ∷ []) = tt
param_within channel (first ∷ second ∷ flags ∷ octets) =
    either_param (flags % 64 == 2) (halves_read channel first second flags (half_read (is_set 128 flags) octets)) None
    (halves_within channel first second flags (half_read (is_set 128 flags) octets)) tt

added : (log : Log) (others : Option (List Log)) → IsLog log → IfSome others AreLogs → IfSome (option_map (λ logs. log ∷ logs) others) AreLogs
added log None a b = tt
added log (Some logs) a b = (a, b)

before_within : (read : Option (Log × List ℕ)) (others : List ℕ → Option (List Log)) → IfSome read (λ r. IsLog r.0) →
    ((octets : List ℕ) → IfSome (others octets) AreLogs) → IfSome (before_others read others) AreLogs
before_within None others a b = tt
before_within (Some read) others a b = added read.0 (others read.1) a (b read.1)

params_within : (channel : ℕ) (count octets : List ℕ) → IfSome (params_read channel count octets) AreLogs
params_within channel [] octets = tt
params_within channel (x ∷ count) [] = tt
params_within channel (x ∷ count) (octet ∷ octets) =
    before_within (param_read channel (octet ∷ octets)) (params_read channel count) (param_within channel (octet ∷ octets)) (λ rest. params_within channel count rest)

known_within : (logs : Option (List Log)) → IfSome logs AreLogs → AreLogs (known logs)
known_within None h = tt
known_within (Some logs) h = h

m_logs_within : (channel : ℕ) (written : Bool) (octets : List ℕ) → AreLogs (m_logs channel written octets)
m_logs_within channel true octets = known_within (params_read channel octets octets) (params_within channel octets octets)
m_logs_within channel false octets = tt

m_within : (channel : ℕ) (octets : List ℕ) → ReadsLogs (m_read channel octets)
m_within channel [] = tt
m_within channel (first ∷ []) = tt
m_within channel (first ∷ second ∷ octets) =
    let head = param_fields (first ∷ second ∷ []) in
    either_read (nat_lt head.length 2) None _ tt
    (either_read (nat_lt (length octets) (head.length - 2)) None _ tt (m_logs_within channel (is_written head) (take (head.length - 2) octets)))

p_within : (channel : ℕ) (octets : List ℕ) → ReadsLogs (p_read channel octets)
p_within channel [] = tt
p_within channel (first ∷ []) = tt
p_within channel (first ∷ second ∷ []) = tt
p_within channel (first ∷ second ∷ third ∷ rest) = (tt, tt)

w_within : (channel : ℕ) (octets : List ℕ) → ReadsLogs (w_read channel octets)
w_within channel [] = tt
w_within channel (first ∷ []) = tt
w_within channel (first ∷ second ∷ rest) = (tt, tt)

t_within : (channel : ℕ) (octets : List ℕ) → ReadsLogs (t_read channel octets)
t_within channel [] = tt
t_within channel (first ∷ rest) = (tt, tt)

chapter_within : (channel : ℕ) (which : ChannelChapter) (octets : List ℕ) → ReadsLogs (chapter_read channel which octets)
unfolding chapter_read
chapter_within channel P octets = p_within channel octets
chapter_within channel C octets = listed_within Controllers channel octets
chapter_within channel M octets = m_within channel octets
chapter_within channel W octets = w_within channel octets
chapter_within channel N octets = n_within channel octets
chapter_within channel E octets = listed_within Extras channel octets
chapter_within channel T octets = t_within channel octets
chapter_within channel A octets = listed_within Pressures channel octets

-- ## The journal

joined_within : (place : ℕ) (before : List Log) (read : Chapter) (later : List Log × ℕ → Result (List Log) JournalFault) → AreLogs before → ReadsLogs read →
    ((r : List Log × ℕ) → AreLogs r.0 → IfOk (later r) AreLogs) → IfOk (behind_chapter (chapter place before read) later) AreLogs
joined_within place before None later a b c = tt
joined_within place before (Some read) later a b c = c (before ++ read.0, read.1) (both before read.0 a b)

chapters_within : (head : ChannelHead) (chapters : List ChannelChapter) (place : ℕ) (before : List Log) (octets : List ℕ) → AreLogs before →
    IfOk (chapters_read head chapters place before octets) AreLogs
chapters_within head [] place before octets a = a
chapters_within head (which ∷ later) place before octets a =
    joined_within place before (flagged_read head which octets) (λ read. chapters_read head later (place + read.1) read.0 (drop read.1 octets)) a
    (either_read (is_flagged head which) (chapter_read head.chan which octets) (Some ([], 0)) (chapter_within head.chan which octets) tt)
    (λ read b. chapters_within head later (place + read.1) read.0 (drop read.1 octets) b)

pub either_inside : (test : Bool) (x y : Result (List Log) JournalFault) → IfOk x AreLogs → IfOk y AreLogs → IfOk (if test then x else y) AreLogs
either_inside true x y a b = a
either_inside false x y a b = b

pub with_size_within : (size : ℕ) (logs : Result (List Log) JournalFault) → IfOk logs AreLogs → IfOk (with_size size logs) (λ r. AreLogs r.0)
with_size_within size (Ok logs) h = h
with_size_within size (Err fault) h = tt

headed_within : (place : ℕ) (before : List Log) (octets : List ℕ) (head : Result ChannelHead JournalFault) → AreLogs before →
    IfOk (behind_head place before octets head) (λ r. AreLogs r.0)
headed_within place before octets (Err fault) a = tt
headed_within place before octets (Ok head) a =
    let inside = take (head.length - 3) (drop 3 octets) in
    with_size_within head.length (inside_read head (place + 3) before inside)
    (either_inside head.h (Ok before) _ a (chapters_within head order (place + 3) before inside a))

pub channel_within : (place : ℕ) (before : List Log) (octets : List ℕ) → AreLogs before → IfOk (channel_read place before octets) (λ r. AreLogs r.0)
unfolding channel_read
channel_within place before octets a = headed_within place before octets (head_read place octets) a
