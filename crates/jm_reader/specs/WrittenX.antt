-- What is written of System Exclusive messages is read: Chapter X (RFC 6295, B.5, Figure B.5.1).
use Rattle.std.proofs.Common.{◌≡◌, ℕ, zero, suc, ◌+◌, ◌-◌, ◌%◌, ◌≤◌, ◌<◌, Bool, true, false, ltb, leb, List, [], ◌∷◌, ◌++◌, Some, length, drop, refl, ap, ◌∙◌, arith, inl, inr, length-append}
use Rattle.std.proofs.Math.Seq.{take-append_seam, drop-append_seam}
use Rattle.std.specs.List.{flat_map, list_all, AllByRecursion}
use Rattle.std.proofs.lemmas.Bool.{cases_Bool, lt-ltb, le-ltb, ltb-true, and_parts}
use Rattle.jm_cmds.specs.declared.commands.Command.{Command}
use Rattle.jm_cmds.specs.declared.commands.Command.TheVariants.{Sysex}
use Rattle.jm_cmds.specs.declared.history.Sent.{Sent}
use Rattle.jm_cmds.specs.Command.{IsCommand}
use Rattle.jm_cmds.specs.Data.{is_data, IsData, data_len}
use Rattle.jm_cmds.specs.History.{standing, below, scanned}
use Rattle.jm_cmds.specs.HistoryLaws.{AllByRecursion-filter, AllByRecursion-standing}
use Rattle.jm_cmds.specs.Sent.{packet_of, is_fresh, s_of, s_bit}
use Rattle.jm_cmds.specs.SysexMade.{unmarked}
use Rattle.ch_sysex.specs.declared.events.SysexEvent.{SysexEvent}
use Rattle.ch_sysex.specs.declared.events.SysexEvent.TheVariants.{Kept, ResetMessage, Reset, Other}
use Rattle.ch_sysex.specs.SysexEvent.{event_at, data_of, count_step}
use Rattle.ch_sysex.specs.ChapterX.{last_marked, log_text, event_text, Counted, counted_packet, counted_ends, sysex_log, coded_counted, chapter_x}
use Rattle.jm_journal.specs.Channel.{is_there}
use Rattle.jm_reader.specs.declared.logs.Log.{Log}
use Rattle.jm_reader.specs.declared.logs.LogKind.TheVariants as logs
use Rattle.jm_reader.specs.Chapter.{Chapter, joined, and_then}
use Rattle.jm_reader.specs.ChapterX.{log_head, log_size, log_at, log_read, logs_read, x_read}

-- ## What is coded

abbrev pub message_log : Bool → ℕ → List ℕ → Log
message_log fresh count octets = record { fresh = fresh; what = logs.Sysex count octets }

-- The log of an event, before which there were so many kept messages. A Reset State command isn't counted.
abbrev pub event_said : Bool → ℕ → SysexEvent → List ℕ → List Log
event_said fresh count Kept octets = message_log fresh ((count + 1) % 256) octets ∷ []
event_said fresh count ResetMessage octets = message_log fresh 0 octets ∷ []
event_said fresh count Reset octets = []
event_said fresh count Other octets = []

abbrev pub sysex_said : ℕ → Counted → List Log
sysex_said packet counted = event_said (is_fresh packet counted.1) counted.0 (event_at counted.1) (data_of counted.1.command)

-- The coded messages, oldest first.
unfoldable pub x_said : (checkpoint packet : ℕ) → List Sent → List Log
x_said checkpoint packet sent = flat_map (sysex_said packet) (coded_counted checkpoint 0 (below packet_of packet sent))

-- ## Data octets

length_marked : (octets : List ℕ) → length (last_marked octets) ≡ length octets
length_marked [] = refl
length_marked (a ∷ []) = refl
length_marked (a ∷ b ∷ more) = ap (λ (n : ℕ). suc n) (length_marked (b ∷ more))

-- the last of them is the first with its high bit set
marked_len : (first : ℕ) (more rest : List ℕ) → IsData (first ∷ more) → data_len (last_marked (first ∷ more) ++ rest) ≡ length more
marked_len first [] rest h = rw (le-ltb (128 + first) 128 (omega arith)) refl
marked_len first (next ∷ more) rest h =
    let parts = and_parts (ltb first 128) (list_all is_data (next ∷ more)) h in
    rw (parts.0) (let later = marked_len next more rest parts.1 in omega (arith, later))

marked_back : (octets : List ℕ) → IsData octets → unmarked (last_marked octets) ≡ octets
marked_back [] h = refl
marked_back (first ∷ []) h =
    let small : first < 128 = ltb-true first 128 (and_parts (ltb first 128) true h).0 in
    let same : (128 + first) % 128 ≡ first = omega (arith, small) in
    rw same refl
marked_back (first ∷ next ∷ more) h =
    let parts = and_parts (ltb first 128) (list_all is_data (next ∷ more)) h in
    let small : first < 128 = ltb-true first 128 parts.0 in
    let same : first % 128 ≡ first = omega (arith, small) in
    rw same (ap (λ (later : List ℕ). first ∷ later) (marked_back (next ∷ more) parts.1))

-- ## One log

-- a message with no data octet
empty_again : (fresh : Bool) (count : ℕ) (rest : List ℕ) → log_read (log_text (s_of fresh) count [] ++ rest) ≡ Some (message_log fresh count [] ∷ [], 2)
unfolding log_read log_size
empty_again true count rest = rw (le-ltb (suc (length rest) + 1) 2 (omega arith)) refl
empty_again false count rest = rw (le-ltb (suc (length rest) + 1) 2 (omega arith)) refl

three : (n : ℕ) → 1 + (1 + (0 + (n + 1))) ≡ 3 + n
three n = omega arith

size_again : (fresh : Bool) (count first : ℕ) (more rest : List ℕ) → IsData (first ∷ more) →
    log_size (log_head (s_of fresh + 47)) (count ∷ (last_marked (first ∷ more) ++ rest)) ≡ 3 + length more
unfolding log_size
size_again true count first more rest h = ap (λ (n : ℕ). 1 + (1 + (0 + (n + 1)))) (marked_len first more rest h) ∙ three (length more)
size_again false count first more rest h = ap (λ (n : ℕ). 1 + (1 + (0 + (n + 1)))) (marked_len first more rest h) ∙ three (length more)

body_again : (fresh : Bool) (count first : ℕ) (more rest : List ℕ) → IsData (first ∷ more) →
    log_at (log_head (s_of fresh + 47)) (count ∷ (last_marked (first ∷ more) ++ rest)) (3 + length more) ≡ Some (message_log fresh count (first ∷ more) ∷ [], 3 + length more)
body_again fresh count first more rest h =
    let marked = last_marked (first ∷ more) in
    let long : length marked ≡ suc (length more) = length_marked (first ∷ more) in
    let enough : ltb (suc (length (marked ++ rest)) + 1) (3 + length more) ≡ false = le-ltb (suc (length (marked ++ rest)) + 1) (3 + length more) (omega (arith, length-append marked rest, long)) in
    let same : 3 + length more - 2 ≡ length marked = omega (arith, long) in
    elim (cases_Bool fresh) [
      | inl t ↦ rw (t, enough, same, take-append_seam marked rest, marked_back (first ∷ more) h) refl
      | inr f ↦ rw (f, enough, same, take-append_seam marked rest, marked_back (first ∷ more) h) refl
    ]

-- one with some: the size comes from the high bit of the last
some_again : (fresh : Bool) (count first : ℕ) (more rest : List ℕ) → IsData (first ∷ more) →
    log_read (log_text (s_of fresh) count (first ∷ more) ++ rest) ≡ Some (message_log fresh count (first ∷ more) ∷ [], 3 + length more)
unfolding log_read
some_again fresh count first more rest h =
    ap (log_at (log_head (s_of fresh + 47)) (count ∷ (last_marked (first ∷ more) ++ rest))) (size_again fresh count first more rest h)
    ∙ body_again fresh count first more rest h

log_again : (fresh : Bool) (count : ℕ) (octets rest : List ℕ) → IsData octets →
    log_read (log_text (s_of fresh) count octets ++ rest) ≡ Some (message_log fresh count octets ∷ [], 2 + length octets)
log_again fresh count [] rest h = empty_again fresh count rest
log_again fresh count (first ∷ more) rest h =
    some_again fresh count first more rest h ∙ ap (λ (n : ℕ). Some (message_log fresh count (first ∷ more) ∷ [], n)) (let e : 3 + length more ≡ 2 + length (first ∷ more) = omega arith in e)

length_text : (s count : ℕ) (octets : List ℕ) → length (log_text s count octets) ≡ 2 + length octets
length_text s count octets = omega (arith, length_marked octets)

-- ## The logs

-- one log, and those behind it
next_again : (fresh : Bool) (count : ℕ) (octets later : List ℕ) (said : List Log) (n : ℕ) → IsData octets → length (log_text (s_of fresh) count octets ++ later) ≤ n →
    ((m : ℕ) → length later ≤ m → logs_read m later ≡ Some (said, length later)) →
    logs_read n (log_text (s_of fresh) count octets ++ later) ≡ Some (message_log fresh count octets ∷ said, length (log_text (s_of fresh) count octets ++ later))
unfolding logs_read
next_again fresh count octets later said zero h l others = absurd (omega (arith, l))
next_again fresh count octets later said (suc n) h l others =
    let text = log_text (s_of fresh) count octets in
    let long = length_text (s_of fresh) count octets in
    let size : 2 + length octets + length later ≡ length (text ++ later) = omega (arith, length-append text later, long) in
    let behind : drop (2 + length octets) (text ++ later) ≡ later = rw (← long) (drop-append_seam text later) in
    let enough : length later ≤ n = omega (arith, l, length-append text later, long) in
    ap (λ (one : Chapter). and_then one (λ (k : ℕ). logs_read n (drop k (text ++ later)))) (log_again fresh count octets later h)
    ∙ ap (λ (rest : List ℕ). joined (message_log fresh count octets ∷ [], 2 + length octets) (logs_read n rest)) behind
    ∙ ap (joined (message_log fresh count octets ∷ [], 2 + length octets)) (others n enough)
    ∙ ap (λ (k : ℕ). Some (message_log fresh count octets ∷ said, k)) size

none_left : (n : ℕ) → logs_read n [] ≡ Some ([], 0)
unfolding logs_read
none_left zero = refl
none_left (suc n) = refl

event_again : (fresh : Bool) (count : ℕ) (event : SysexEvent) (octets later : List ℕ) (said : List Log) (n : ℕ) → IsData octets →
    length (event_text (s_of fresh) count event octets ++ later) ≤ n → ((m : ℕ) → length later ≤ m → logs_read m later ≡ Some (said, length later)) →
    logs_read n (event_text (s_of fresh) count event octets ++ later) ≡ Some (event_said fresh count event octets ++ said, length (event_text (s_of fresh) count event octets ++ later))
event_again fresh count Kept octets later said n h l others = next_again fresh ((count + 1) % 256) octets later said n h l others
event_again fresh count ResetMessage octets later said n h l others = next_again fresh 0 octets later said n h l others
event_again fresh count Reset octets later said n h l others = others n l
event_again fresh count Other octets later said n h l others = others n l

all_again : (packet : ℕ) (places : List Counted) (n : ℕ) → AllByRecursion (λ counted. IsData (data_of counted.1.command)) places → length (flat_map (sysex_log packet) places) ≤ n →
    logs_read n (flat_map (sysex_log packet) places) ≡ Some (flat_map (sysex_said packet) places, length (flat_map (sysex_log packet) places))
all_again packet [] n h l = none_left n
all_again packet (x ∷ xs) n h l =
    event_again (is_fresh packet x.1) x.0 (event_at x.1) (data_of x.1.command) (flat_map (sysex_log packet) xs) (flat_map (sysex_said packet) xs) n h.0 l
    (λ m k. all_again packet xs m h.1 k)

-- ## The chapter

data_command : (command : Command) → IsCommand command → IsData (data_of command)
data_command (Sysex octets) h = h.octets_are_data
data_command command h = refl

data_scanned : (count : ℕ) (places : List Sent) → AllByRecursion (λ place. IsCommand place.command) places →
    AllByRecursion (λ counted. IsData (data_of counted.1.command)) (scanned count_step count places)
data_scanned count [] h = tt
data_scanned count (x ∷ xs) h = (data_command x.command h.0, data_scanned (count_step count x) xs h.1)

data_coded : (checkpoint count : ℕ) (places : List Sent) → AllByRecursion (λ place. IsCommand place.command) places →
    AllByRecursion (λ counted. IsData (data_of counted.1.command)) (coded_counted checkpoint count places)
data_coded checkpoint count places h =
    AllByRecursion-filter (λ counted. IsData (data_of counted.1.command)) (λ counted. leb checkpoint (counted_packet counted)) (standing counted_ends (scanned count_step count places))
    (AllByRecursion-standing (λ counted. IsData (data_of counted.1.command)) counted_ends (scanned count_step count places) (data_scanned count places h))

read_all : (octets : List ℕ) → is_there octets ≡ true → x_read octets ≡ logs_read (length octets) octets
read_all [] t = absurd (let f : false ≡ true = t in cc)
read_all (first ∷ rest) t = refl

-- What is written of System Exclusive messages is read as what is coded of them, where nothing follows.
pub x_again : (checkpoint packet : ℕ) (sent : List Sent) → AllByRecursion (λ place. IsCommand place.command) sent → is_there (chapter_x checkpoint packet sent) ≡ true →
    x_read (chapter_x checkpoint packet sent) ≡ Some (x_said checkpoint packet sent, length (chapter_x checkpoint packet sent))
unfolding chapter_x x_said
x_again checkpoint packet sent h there =
    let seen = below packet_of packet sent in
    let places = coded_counted checkpoint 0 seen in
    let commands = AllByRecursion-filter (λ place. IsCommand place.command) (λ place. ltb (packet_of place) packet) sent h in
    read_all (flat_map (sysex_log packet) places) there
    ∙ all_again packet places (length (flat_map (sysex_log packet) places)) (data_coded checkpoint 0 seen commands) (omega arith)

none_event : (s count : ℕ) (fresh : Bool) (event : SysexEvent) (octets later : List ℕ) → length (event_text s count event octets ++ later) ≡ 0 →
    (event_said fresh count event octets ≡ []) × (length later ≡ 0)
none_event s count fresh Kept octets later e = absurd (omega (arith, e))
none_event s count fresh ResetMessage octets later e = absurd (omega (arith, e))
none_event s count fresh Reset octets later e = (refl, e)
none_event s count fresh Other octets later e = (refl, e)

none_said : (packet : ℕ) (places : List Counted) → length (flat_map (sysex_log packet) places) ≡ 0 → flat_map (sysex_said packet) places ≡ []
none_said packet [] e = refl
none_said packet (x ∷ xs) e =
    let here = none_event (s_bit packet x.1) x.0 (is_fresh packet x.1) (event_at x.1) (data_of x.1.command) (flat_map (sysex_log packet) xs) e in
    ap (λ (first : List Log). first ++ flat_map (sysex_said packet) xs) here.0 ∙ none_said packet xs here.1

isnt_there : (octets : List ℕ) → is_there octets ≡ false → length octets ≡ 0
isnt_there [] n = refl
isnt_there (first ∷ rest) n = absurd (let some : is_there (first ∷ rest) ≡ true = lt-ltb 0 (suc (length rest)) (omega arith) in cc)

-- Where the chapter isn't there, nothing of it is coded.
pub x_none : (checkpoint packet : ℕ) (sent : List Sent) → is_there (chapter_x checkpoint packet sent) ≡ false → x_said checkpoint packet sent ≡ []
unfolding chapter_x x_said
x_none checkpoint packet sent n =
    let places = coded_counted checkpoint 0 (below packet_of packet sent) in
    none_said packet places (isnt_there (flat_map (sysex_log packet) places) n)

pub record MessagesAreRead : Type 0 where
  pub there : (checkpoint packet : ℕ) (sent : List Sent) → AllByRecursion (λ place. IsCommand place.command) sent → is_there (chapter_x checkpoint packet sent) ≡ true →
      x_read (chapter_x checkpoint packet sent) ≡ Some (x_said checkpoint packet sent, length (chapter_x checkpoint packet sent))
  pub none : (checkpoint packet : ℕ) (sent : List Sent) → is_there (chapter_x checkpoint packet sent) ≡ false → x_said checkpoint packet sent ≡ []

pub messages_are_read : MessagesAreRead
messages_are_read = record { there = x_again; none = x_none }
