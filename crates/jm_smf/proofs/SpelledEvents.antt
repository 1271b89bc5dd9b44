-- An event that is spelled is read, whatever follows.
use Rattle.std.proofs.Common.{◌≡◌, ◌≢◌, ℕ, zero, suc, ◌+◌, ◌-◌, ◌≤◌, ◌<◌, true, false, eqb, List, [], ◌∷◌, ◌++◌, drop, take, length, Option, Some, None, Result, Ok, Err, refl, sym, ap, subst, ◌∙◌, append_assoc, length-append, add-one, arith, inl, inr}
use Rattle.std.specs.Prelude.{nat_lt}
use Rattle.std.specs.List.{flat_map, AllByRecursion}
use Rattle.std.proofs.lemmas.Bool.{lt-ltb, le-ltb, eqb-true, ne_eqb, cases_Bool}
use Rattle.std.proofs.Math.Seq.{take-append_seam, drop-append_seam, get_or-append_seam}
use Rattle.jm_wire.specs.Delta.{value}
use Rattle.jm_wire.specs.DeltaReading.{field_is_read}
use Rattle.jm_cmds.specs.declared.commands.Command.{Command}
use Rattle.jm_cmds.specs.declared.commands.Command.TheVariants.{NoteOff, NoteOn, PolyPressure, Control, Program, Pressure, Wheel, QuarterFrame, SongPosition, SongSelect, TuneRequest, Clock, Start, Continue, Stop, ActiveSensing, SystemReset, Sysex}
use Rattle.jm_cmds.specs.declared.reading.CmdFault.{CmdFault}
use Rattle.jm_cmds.specs.Command.{spelling, status_of, IsCommand}
use Rattle.jm_cmds.specs.Data.{is_data, IsData, data_len, IsSysex}
use Rattle.jm_cmds.specs.SysexMade.{sysex_made}
use Rattle.jm_cmds.specs.Reading.{command_read}
use Rattle.jm_cmds.specs.CommandLaws.{command_read-spelling, BeginsWith-command_read}
use Rattle.jm_smf.specs.declared.before.Before.{Before}
use Rattle.jm_smf.specs.declared.event.Heard.{Heard}
use Rattle.jm_smf.specs.declared.fault.FileFault.{FileFault}
use Rattle.jm_smf.specs.Reading.{block_read, block_at, is_ended, message_of, message_read, with_first, commands_behind, commands_read, or_none, escape_of, escape_read, channel_heard, running_read, what_read}
use Rattle.jm_smf.specs.Grammar.{IsBlock, IsUnended, Escapes, wholly, passed, behind_channel, no_running, message_begun, SpellsEvent, with_status, without_status, meta, message, message_begins, message_goes_on, message_ends, escape}

abbrev pub tells : List Command → ℕ → Before → Result (Option Heard) FileFault
tells commands used after = Ok (Some (record { commands = commands; used = used; after = after }))

-- ---- blocks

block_joined : (text octets rest : List ℕ) (b : IsBlock text octets) → text ++ rest ≡ b.field ++ (octets ++ rest)
block_joined text octets rest b = ap (λ (t : List ℕ). t ++ rest) b.text_is ∙ append_assoc b.field octets rest

pub block_is_read : (place : ℕ) (text octets rest : List ℕ) (b : IsBlock text octets) → block_read place (text ++ rest) ≡ Ok (length b.field, length octets)
unfolding block_read
block_is_read place text octets rest b =
    let same = block_joined text octets rest b in
    let read = field_is_read (text ++ rest) b.field (octets ++ rest) same b.field_is in
    let len : length (text ++ rest) ≡ length b.field + (length octets + length rest) = ap (λ (t : List ℕ). length t) same ∙ length-append b.field (octets ++ rest) ∙ ap (λ (n : ℕ). length b.field + n) (length-append octets rest) in
    let fits : nat_lt (length (text ++ rest)) (length b.field + length octets) ≡ false = le-ltb (length (text ++ rest)) (length b.field + length octets) (omega (arith, len)) in
    rw (read, b.size_is, fits) refl

pub block_stands : (text octets rest : List ℕ) (b : IsBlock text octets) → block_at (length b.field, length octets) (text ++ rest) ≡ octets
block_stands text octets rest b =
    ap (λ (t : List ℕ). take (length octets) (drop (length b.field) t)) (block_joined text octets rest b)
    ∙ ap (λ (t : List ℕ). take (length octets) t) (drop-append_seam b.field (octets ++ rest))
    ∙ take-append_seam octets rest

block_size : (text octets : List ℕ) (b : IsBlock text octets) → length b.field + length octets ≡ length text
block_size text octets b = sym (ap (λ (t : List ℕ). length t) b.text_is ∙ length-append b.field octets)

-- ---- the end of a message

last_less : (octets : List ℕ) → length (octets ++ 0xf7 ∷ []) - 1 ≡ length octets
last_less octets = let n : length (octets ++ 0xf7 ∷ []) ≡ length octets + 1 = grind (arith, length-append, add-one) in omega (arith, n)

pub ended_is : (octets : List ℕ) → is_ended (octets ++ 0xf7 ∷ []) ≡ true
ended_is octets = rw (last_less octets, get_or-append_seam octets 0xf7 [] 0) refl

pub before_end : (octets : List ℕ) → take (length (octets ++ 0xf7 ∷ []) - 1) (octets ++ 0xf7 ∷ []) ≡ octets
before_end octets = rw (last_less octets) (take-append_seam octets (0xf7 ∷ []))

-- octets that end in F7 are those before it and F7
pub ends_apart : (octets : List ℕ) → is_ended octets ≡ true → octets ≡ take (length octets - 1) octets ++ 0xf7 ∷ []
ends_apart [] h = absurd cc
ends_apart (x ∷ []) h = ap (λ (n : ℕ). n ∷ []) (eqb-true x 0xf7 h)
ends_apart (x ∷ y ∷ xs) h =
    let more : suc (suc (length xs)) - 1 ≡ suc (length xs) = omega arith in
    let less : suc (length xs) - 1 ≡ length xs = omega arith in
    let tail = ends_apart (y ∷ xs) (rw less (rw more at h)) in
    rw more (ap (λ (t : List ℕ). x ∷ t) (rw less at tail))

pub unended_is : (octets : List ℕ) → IsUnended octets → is_ended octets ≡ false
unended_is octets u =
    elim (cases_Bool (is_ended octets)) [
      | inl t ↦ absurd (u (take (length octets - 1) octets) (ends_apart octets t))
      | inr f ↦ f
    ]

one_plus : (n : ℕ) → 1 + n ≡ suc n
one_plus n = omega arith

data_whole : (octets : List ℕ) → IsData octets → data_len octets ≡ length octets
data_whole [] h = refl
data_whole (x ∷ octets) h =
    elim (cases_Bool (is_data x)) [
      | inl t ↦ rw t (ap (λ (n : ℕ). 1 + n) (data_whole octets (rw t at h)) ∙ one_plus (length octets))
      | inr f ↦ let never : false ≡ true = rw f at h in absurd cc
    ]

pub message_made : (octets : List ℕ) → IsSysex octets → sysex_made octets ≡ Ok octets
message_made octets h =
    let n = data_whole octets h.octets_are_data in
    let whole : nat_lt (data_len octets) (length octets) ≡ false = le-ltb (data_len octets) (length octets) (omega (arith, n)) in
    rw (whole, le-ltb 65536 (length octets) h.few) refl

-- ---- commands one after another

pub some_octets : (command : Command) → 1 ≤ length (spelling command)
some_octets (NoteOff channel note velocity) = omega arith
some_octets (NoteOn channel note velocity) = omega arith
some_octets (PolyPressure channel note value) = omega arith
some_octets (Control channel number value) = omega arith
some_octets (Program channel program) = omega arith
some_octets (Pressure channel value) = omega arith
some_octets (Wheel channel first second) = omega arith
some_octets (QuarterFrame value) = omega arith
some_octets (SongPosition value) = omega arith
some_octets (SongSelect song) = omega arith
some_octets TuneRequest = omega arith
some_octets Clock = omega arith
some_octets Start = omega arith
some_octets Continue = omega arith
some_octets Stop = omega arith
some_octets ActiveSensing = omega arith
some_octets SystemReset = omega arith
some_octets (Sysex octets) = omega arith

pub commands_are_read : (n : ℕ) (commands : List Command) → AllByRecursion IsCommand commands → length (flat_map spelling commands) ≤ n → commands_read n (flat_map spelling commands) ≡ Some commands
unfolding commands_read
commands_are_read zero [] h few = refl
commands_are_read (suc n) [] h few = refl
commands_are_read zero (command ∷ commands) h few =
    let len = length-append (spelling command) (flat_map spelling commands) in
    absurd (let some = some_octets command in omega (arith, len, some, few))
commands_are_read (suc n) (command ∷ commands) h few =
    let all = flat_map spelling commands in
    let len : length (spelling command ++ all) ≡ length (spelling command) + length all = length-append (spelling command) all in
    let some = some_octets command in
    let there : eqb (length (spelling command ++ all)) 0 ≡ false = ne_eqb (length (spelling command ++ all)) 0 (λ e. omega (arith, len, some, e)) in
    let later = commands_are_read n commands h.1 (omega (arith, len, some, few)) in
    rw (there, command_read-spelling command all h.0, drop-append_seam (spelling command) all, later) refl

pub record AreSpelled (octets : List ℕ) (commands : List Command) : Type 0 where
  pub bounds : AllByRecursion IsCommand commands
  pub octets_are : octets ≡ flat_map spelling commands

some_same : (a b : List Command) → Some a ≡ Some b → a ≡ b
some_same a b e = cc

none_some : (commands : List Command) → None ≡ Some commands → ⊥
none_some commands e = cc

nothing_spelled : (octets : List ℕ) (commands : List Command) → eqb (length octets) 0 ≡ true → Some [] ≡ Some commands → AreSpelled octets commands
nothing_spelled [] commands h e = subst (λ (list : List Command). AreSpelled [] list) (some_same [] commands e) (record { bounds = tt; octets_are = refl })
nothing_spelled (x ∷ xs) commands h e = let none : length (x ∷ xs) ≡ 0 = eqb-true (length (x ∷ xs)) 0 h in absurd (omega (arith, none))

record HasFirst (command : Command) (others : Option (List Command)) (commands : List Command) : Type 0 where
  rest : List Command
  others_are : others ≡ Some rest
  commands_are : command ∷ rest ≡ commands

has_first : (command : Command) (others : Option (List Command)) (commands : List Command) → with_first command others ≡ Some commands → HasFirst command others commands
has_first command None commands e = absurd (none_some commands e)
has_first command (Some rest) commands e = record { rest = rest; others_are = refl; commands_are = some_same (command ∷ rest) commands e }

one_spelled : (n : ℕ) (octets : List ℕ) (commands : List Command) (read : Result (Command × ℕ) CmdFault)
    → ((used : ℕ) (others : List Command) → commands_read n (drop used octets) ≡ Some others → AreSpelled (drop used octets) others)
    → command_read octets ≡ read → commands_behind read (λ used. commands_read n (drop used octets)) ≡ Some commands → AreSpelled octets commands
one_spelled n octets commands (Err fault) others e h = absurd (none_some commands h)
one_spelled n octets commands (Ok (command, used)) others e h =
    let b = BeginsWith-command_read octets command used e in
    let f = has_first command (commands_read n (drop used octets)) commands h in
    let later = others used f.rest f.others_are in
    subst (λ (list : List Command). AreSpelled octets list) f.commands_are
    (record { bounds = (b.bounds, later.bounds); octets_are = b.split ∙ ap (λ (t : List ℕ). spelling command ++ t) later.octets_are })

-- commands that are read are spelled so
pub read_are_spelled : (n : ℕ) (octets : List ℕ) (commands : List Command) → commands_read n octets ≡ Some commands → AreSpelled octets commands
unfolding commands_read
read_are_spelled zero octets commands e =
    elim (cases_Bool (eqb (length octets) 0)) [
      | inl t ↦ nothing_spelled octets commands t (rw t at e)
      | inr f ↦ absurd (none_some commands (rw f at e))
    ]
read_are_spelled (suc n) octets commands e =
    elim (cases_Bool (eqb (length octets) 0)) [
      | inl t ↦ nothing_spelled octets commands t (rw t at e)
      | inr f ↦ one_spelled n octets commands (command_read octets) (λ used others h. read_are_spelled n (drop used octets) others h) refl (rw f at e)
    ]

none_read : (octets : List ℕ) → ((commands : List Command) → AllByRecursion IsCommand commands → octets ≡ flat_map spelling commands → ⊥) → or_none (commands_read (length octets) octets) ≡ []
none_read octets unspelled = by_read (commands_read (length octets) octets) refl
  where
    by_read : (read : Option (List Command)) → commands_read (length octets) octets ≡ read → or_none read ≡ []
    by_read None e = refl
    by_read (Some commands) e = let s = read_are_spelled (length octets) octets commands e in absurd (unspelled commands s.bounds s.octets_are)

-- what an escape tells is read
pub escape_told : (octets : List ℕ) (commands : List Command) → Escapes octets commands → or_none (commands_read (length octets) octets) ≡ commands
escape_told octets commands (wholly spelled h) = ap or_none (commands_are_read (length (flat_map spelling spelled)) spelled h (omega arith))
escape_told octets commands (passed others unspelled) = none_read others unspelled

-- ---- channel commands

pub no_less : (n : ℕ) → n - 0 ≡ n
no_less n = omega arith

channel_at : (place : ℕ) (before : Before) (status : ℕ) (rest : List ℕ) → 128 ≤ status → status < 240 → what_read place before (status ∷ rest) ≡ channel_heard place before status 0 (command_read (status ∷ rest))
unfolding what_read
channel_at place before status rest from below =
    rw (ne_eqb status 0xff (λ e. omega arith), ne_eqb status 0xf0 (λ e. omega arith), ne_eqb status 0xf7 (λ e. omega arith), le-ltb 0xf0 status (omega arith), le-ltb status 0x80 from) refl

-- a channel command begins with its status octet
status_stands : (place : ℕ) (before : Before) (command : Command) (rest : List ℕ) → IsCommand command → status_of command < 0xf0
    → what_read place before (spelling command ++ rest) ≡ channel_heard place before (status_of command) 0 (command_read (spelling command ++ rest))
status_stands place before (NoteOff channel note velocity) rest h lt = channel_at place before (0x80 + channel) (note ∷ velocity ∷ rest) (omega arith) lt
status_stands place before (NoteOn channel note velocity) rest h lt = channel_at place before (0x90 + channel) (note ∷ velocity ∷ rest) (omega arith) lt
status_stands place before (PolyPressure channel note value) rest h lt = channel_at place before (0xa0 + channel) (note ∷ value ∷ rest) (omega arith) lt
status_stands place before (Control channel number value) rest h lt = channel_at place before (0xb0 + channel) (number ∷ value ∷ rest) (omega arith) lt
status_stands place before (Program channel program) rest h lt = channel_at place before (0xc0 + channel) (program ∷ rest) (omega arith) lt
status_stands place before (Pressure channel value) rest h lt = channel_at place before (0xd0 + channel) (value ∷ rest) (omega arith) lt
status_stands place before (Wheel channel first second) rest h lt = channel_at place before (0xe0 + channel) (first ∷ second ∷ rest) (omega arith) lt
status_stands place before (QuarterFrame value) rest h lt = absurd (omega arith)
status_stands place before (SongPosition value) rest h lt = absurd (omega arith)
status_stands place before (SongSelect song) rest h lt = absurd (omega arith)
status_stands place before TuneRequest rest h lt = absurd (omega arith)
status_stands place before Clock rest h lt = absurd (omega arith)
status_stands place before Start rest h lt = absurd (omega arith)
status_stands place before Continue rest h lt = absurd (omega arith)
status_stands place before Stop rest h lt = absurd (omega arith)
status_stands place before ActiveSensing rest h lt = absurd (omega arith)
status_stands place before SystemReset rest h lt = absurd (omega arith)
status_stands place before (Sysex octets) rest h lt = absurd (omega arith)

with_status_read : (place : ℕ) (before : Before) (command : Command) (rest : List ℕ) → IsCommand command → status_of command < 0xf0
    → what_read place before (spelling command ++ rest) ≡ tells (command ∷ []) (length (spelling command)) (behind_channel before command)
with_status_read place before command rest h lt =
    status_stands place before command rest h lt
    ∙ ap (channel_heard place before (status_of command) 0) (command_read-spelling command rest h)
    ∙ ap (λ (n : ℕ). tells (command ∷ []) n (behind_channel before command)) (no_less (length (spelling command)))

running_at : (place : ℕ) (before : Before) (status first : ℕ) (rest : List ℕ) → first < 128 → before.running ≡ Some status
    → what_read place before (first ∷ rest) ≡ channel_heard place before status 1 (command_read (status ∷ take 2 (first ∷ rest)))
unfolding what_read
running_at place before status first rest low e =
    rw (ne_eqb first 0xff (λ e. omega arith), ne_eqb first 0xf0 (λ e. omega arith), ne_eqb first 0xf7 (λ e. omega arith), le-ltb 0xf0 first (omega arith), lt-ltb first 0x80 low)
    (ap (λ (running : Option ℕ). running_read place before running (first ∷ rest)) e)

-- one data octet, or two, behind a status octet that stands in an earlier event
one_behind : (place : ℕ) (before : Before) (status value : ℕ) (rest : List ℕ) (command : Command) → IsCommand command → spelling command ≡ status ∷ value ∷ [] → value < 128 → before.running ≡ Some status
    → what_read place before (value ∷ rest) ≡ Ok (Some (record { commands = command ∷ []; used = 1; after = record { running = Some status; unfinished = before.unfinished } }))
one_behind place before status value rest command h e low running =
    let read : command_read (status ∷ value ∷ take 1 rest) ≡ Ok (command, 2) = (rw e at (command_read-spelling command (take 1 rest) h)) in
    running_at place before status value rest low running ∙ rw read refl

two_behind : (place : ℕ) (before : Before) (status first second : ℕ) (rest : List ℕ) (command : Command) → IsCommand command → spelling command ≡ status ∷ first ∷ second ∷ [] → first < 128 → before.running ≡ Some status
    → what_read place before (first ∷ second ∷ rest) ≡ Ok (Some (record { commands = command ∷ []; used = 2; after = record { running = Some status; unfinished = before.unfinished } }))
two_behind place before status first second rest command h e low running =
    let read : command_read (status ∷ first ∷ second ∷ []) ≡ Ok (command, 3) = (rw e at (command_read-spelling command [] h)) in
    running_at place before status first (second ∷ rest) low running ∙ rw read refl

without_status_read : (place : ℕ) (before : Before) (command : Command) (rest : List ℕ) → IsCommand command → status_of command < 0xf0 → before.running ≡ Some (status_of command)
    → what_read place before (drop 1 (spelling command) ++ rest) ≡ tells (command ∷ []) (length (drop 1 (spelling command))) (behind_channel before command)
without_status_read place before (NoteOff channel note velocity) rest h lt e = two_behind place before (0x80 + channel) note velocity rest (NoteOff channel note velocity) h refl h.1 e
without_status_read place before (NoteOn channel note velocity) rest h lt e = two_behind place before (0x90 + channel) note velocity rest (NoteOn channel note velocity) h refl h.1 e
without_status_read place before (PolyPressure channel note value) rest h lt e = two_behind place before (0xa0 + channel) note value rest (PolyPressure channel note value) h refl h.1 e
without_status_read place before (Control channel number value) rest h lt e = two_behind place before (0xb0 + channel) number value rest (Control channel number value) h refl h.1 e
without_status_read place before (Program channel program) rest h lt e = one_behind place before (0xc0 + channel) program rest (Program channel program) h refl h.1 e
without_status_read place before (Pressure channel value) rest h lt e = one_behind place before (0xd0 + channel) value rest (Pressure channel value) h refl h.1 e
without_status_read place before (Wheel channel first second) rest h lt e = two_behind place before (0xe0 + channel) first second rest (Wheel channel first second) h refl h.1 e
without_status_read place before (QuarterFrame value) rest h lt e = absurd (omega arith)
without_status_read place before (SongPosition value) rest h lt e = absurd (omega arith)
without_status_read place before (SongSelect song) rest h lt e = absurd (omega arith)
without_status_read place before TuneRequest rest h lt e = absurd (omega arith)
without_status_read place before Clock rest h lt e = absurd (omega arith)
without_status_read place before Start rest h lt e = absurd (omega arith)
without_status_read place before Continue rest h lt e = absurd (omega arith)
without_status_read place before Stop rest h lt e = absurd (omega arith)
without_status_read place before ActiveSensing rest h lt e = absurd (omega arith)
without_status_read place before SystemReset rest h lt e = absurd (omega arith)
without_status_read place before (Sysex octets) rest h lt e = absurd (omega arith)

-- ---- meta events, messages and escapes

one_more : (text octets : List ℕ) (b : IsBlock text octets) → 1 + (length b.field + length octets) ≡ suc (length text)
one_more text octets b = let size = block_size text octets b in omega (arith, size)

two_more : (text octets : List ℕ) (b : IsBlock text octets) → 2 + (length b.field + length octets) ≡ suc (suc (length text))
two_more text octets b = let size = block_size text octets b in omega (arith, size)

meta_is_read : (place : ℕ) (before : Before) (kind : ℕ) (text octets rest : List ℕ) → kind ≢ 0x2f → IsBlock text octets
    → what_read place before (0xff ∷ kind ∷ (text ++ rest)) ≡ tells [] (suc (suc (length text))) (no_running before)
unfolding what_read
meta_is_read place before kind text octets rest other b =
    rw (ne_eqb kind 0x2f other, block_is_read place text octets rest b) (ap (λ (n : ℕ). tells [] n (no_running before)) (two_more text octets b))

begins_message : (place : ℕ) (before : Before) (rest : List ℕ) → what_read place before (0xf0 ∷ rest) ≡ message_read place before rest
unfolding what_read
begins_message place before rest = refl

begins_escape : (place : ℕ) (before : Before) (rest : List ℕ) → what_read place before (0xf7 ∷ rest) ≡ escape_read place before rest
unfolding what_read
begins_escape place before rest = refl

message_block : (place : ℕ) (before : Before) (text octets rest : List ℕ) → IsBlock text octets → message_read place before (text ++ rest) ≡ message_of place before (suc (length text)) octets
unfolding message_read
message_block place before text octets rest b =
    rw (block_is_read place text octets rest b)
    (ap (λ (t : List ℕ). message_of place before (1 + (length b.field + length octets)) t) (block_stands text octets rest b)
    ∙ ap (λ (n : ℕ). message_of place before n octets) (one_more text octets b))

escape_block : (place : ℕ) (before : Before) (text octets rest : List ℕ) → IsBlock text octets → escape_read place before (text ++ rest) ≡ Ok (Some (escape_of before (suc (length text)) octets))
unfolding escape_read
escape_block place before text octets rest b =
    rw (block_is_read place text octets rest b)
    (ap (λ (t : List ℕ). told (escape_of before (1 + (length b.field + length octets)) t)) (block_stands text octets rest b)
    ∙ ap (λ (n : ℕ). told (escape_of before n octets)) (one_more text octets b))
  where
    told : Heard → Result (Option Heard) FileFault
    told heard = Ok (Some heard)

message_is_told : (place : ℕ) (before : Before) (used : ℕ) (octets : List ℕ) → IsSysex octets → message_of place before used (octets ++ 0xf7 ∷ []) ≡ tells (Sysex octets ∷ []) used (no_running before)
message_is_told place before used octets h = rw (ended_is octets, before_end octets, message_made octets h) refl

begun_is_told : (place : ℕ) (before : Before) (used : ℕ) (octets : List ℕ) → IsUnended octets → message_of place before used octets ≡ tells [] used message_begun
begun_is_told place before used octets u = rw (unended_is octets u) refl

-- What is spelled is read.
pub event_is_read : (place : ℕ) (before : Before) (text : List ℕ) (commands : List Command) (after : Before) (rest : List ℕ) → SpellsEvent before text commands after
    → what_read place before (text ++ rest) ≡ tells commands (length text) after
event_is_read place before text commands after rest (with_status command h lt) = with_status_read place before command rest h lt
event_is_read place before text commands after rest (without_status command h lt e) = without_status_read place before command rest h lt e
event_is_read place before text commands after rest (meta kind block octets other b) = meta_is_read place before kind block octets rest other b
event_is_read place before text commands after rest (message block octets h b) =
    begins_message place before (block ++ rest) ∙ message_block place before block (octets ++ 0xf7 ∷ []) rest b ∙ message_is_told place before (suc (length block)) octets h
event_is_read place before text commands after rest (message_begins block octets u b) =
    begins_message place before (block ++ rest) ∙ message_block place before block octets rest b ∙ begun_is_told place before (suc (length block)) octets u
event_is_read place before text commands after rest (message_goes_on block octets is u b) =
    begins_escape place before (block ++ rest) ∙ escape_block place before block octets rest b ∙ rw (is, unended_is octets u) refl
event_is_read place before text commands after rest (message_ends block octets is b) =
    begins_escape place before (block ++ rest) ∙ escape_block place before block (octets ++ 0xf7 ∷ []) rest b ∙ rw (is, ended_is octets) refl
event_is_read place before text commands after rest (escape block octets others is b told) =
    begins_escape place before (block ++ rest) ∙ escape_block place before block octets rest b ∙ rw (is, escape_told octets others told) refl
