-- Reading a file from left to right, with the first fault that is met. Places are counted from the file's
-- first octet; a fault in an event has the place of the event's first octet.
use Rattle.std.specs.Prelude.{ℕ, zero, suc, ◌+◌, ◌-◌, ◌*◌, Bool, true, false, not, ◌||◌, ◌&&◌, ◌==◌, List, [], ◌∷◌, ◌++◌, length, take, drop, slice_index, map, nat_lt, nat_le, Option, Some, None, Result, Ok, Err, if◌then◌else◌}
use Rattle.jm_wire.specs.Readers.{◌>>=◌}
use Rattle.jm_wire.specs.Delta.{delta_at}
use Rattle.jm_wire.specs.declared.delta.DeltaFault.{DeltaFault}
use Rattle.jm_wire.specs.declared.delta.DeltaFault.TheVariants as fields
use Rattle.jm_cmds.specs.declared.commands.Command.{Command}
use Rattle.jm_cmds.specs.declared.commands.Command.TheVariants.{Sysex}
use Rattle.jm_cmds.specs.declared.reading.CmdFault.{CmdFault}
use Rattle.jm_cmds.specs.declared.reading.CmdFault.TheVariants as commands
use Rattle.jm_cmds.specs.declared.system_exclusive.SysexFault.{SysexFault}
use Rattle.jm_cmds.specs.SysexMade.{sysex_made}
use Rattle.jm_cmds.specs.Reading.{command_read}
use Rattle.jm_smf.specs.declared.before.Before.{Before}
use Rattle.jm_smf.specs.declared.event.Heard.{Heard}
use Rattle.jm_smf.specs.declared.timed.Timed.{Timed}
use Rattle.jm_smf.specs.declared.fault.FileFault.{FileFault}
use Rattle.jm_smf.specs.declared.fault.FileFault.TheVariants.{NotSmf, Short, HeadLength, Format, Division, BadEvent, NoStatus}

-- ---- events

-- the field at the front of the octets of an event
abbrev pub field_read : (place : ℕ) → Result (ℕ × ℕ) DeltaFault → Result (ℕ × ℕ) FileFault
field_read place (Ok read) = Ok read
field_read place (Err fields.Short) = Err (Short place)
field_read place (Err fields.TooLong) = Err (BadEvent place)

-- a length and as many octets as it tells: where they begin, and how many there are
abbrev pub block_within : (place : ℕ) (octets : List ℕ) → ℕ × ℕ → Result (ℕ × ℕ) FileFault
block_within place octets size =
    if nat_lt (length octets) (size.1 + size.0) then Err (Short place) else Ok (size.1, size.0)

unfoldable pub block_read : (place : ℕ) → List ℕ → Result (ℕ × ℕ) FileFault
block_read place octets = field_read place (delta_at octets) >>= block_within place octets

abbrev pub block_at : ℕ × ℕ → List ℕ → List ℕ
block_at block octets = take block.1 (drop block.0 octets)

-- whether the octets of an F0 or F7 event end a message
abbrev pub is_ended : List ℕ → Bool
is_ended text = slice_index text (length text - 1) == 0xf7

-- an event behind which there is no running status
abbrev pub telling : List Command → (used : ℕ) (unfinished : Bool) → Heard
telling commands used unfinished = record { commands = commands; used = used; after = record { running = None; unfinished = unfinished } }

-- one of no command
abbrev pub silent : (used : ℕ) (unfinished : Bool) → Heard
silent used unfinished = telling [] used unfinished

-- behind FF: a meta event, or none where it ends the track
abbrev pub meta_read : (place : ℕ) → Before → List ℕ → Result (Option Heard) FileFault
meta_read place before [] = Err (Short place)
meta_read place before (kind ∷ rest) =
    if kind == 0x2f then Ok None
    else (block_read place rest >>= λ block. Ok (Some (silent (2 + (block.0 + block.1)) before.unfinished)))

-- behind F0: a message, or the beginning of one that isn't ended
abbrev pub message_heard : (place : ℕ) → Before → (used : ℕ) → Result (List ℕ) SysexFault → Result (Option Heard) FileFault
message_heard place before used (Err f) = Err (BadEvent place)
message_heard place before used (Ok octets) = Ok (Some (telling (Sysex octets ∷ []) used before.unfinished))

abbrev pub message_of : (place : ℕ) → Before → (used : ℕ) → List ℕ → Result (Option Heard) FileFault
message_of place before used text =
    if is_ended text then message_heard place before used (sysex_made (take (length text - 1) text))
    else Ok (Some (silent used true))

unfoldable pub message_read : (place : ℕ) → Before → List ℕ → Result (Option Heard) FileFault
message_read place before rest = block_read place rest >>= λ block. message_of place before (1 + (block.0 + block.1)) (block_at block rest)

-- behind F7: commands one after another, at most so many, or none where the octets aren't wholly commands
abbrev pub with_first : Command → Option (List Command) → Option (List Command)
with_first command None = None
with_first command (Some others) = Some (command ∷ others)

abbrev pub commands_behind : Result (Command × ℕ) CmdFault → (ℕ → Option (List Command)) → Option (List Command)
commands_behind (Err f) others = None
commands_behind (Ok read) others = with_first read.0 (others read.1)

unfoldable pub commands_read : (most : ℕ) → List ℕ → Option (List Command)
commands_read zero octets = if length octets == 0 then Some [] else None
commands_read (suc n) octets =
    if length octets == 0 then Some []
    else commands_behind (command_read octets) (λ used. commands_read n (drop used octets))

abbrev pub or_none : Option (List Command) → List Command
or_none None = []
or_none (Some commands) = commands

abbrev pub escape_of : Before → (used : ℕ) → List ℕ → Heard
escape_of before used text =
    if before.unfinished then silent used (not (is_ended text))
    else telling (or_none (commands_read (length text) text)) used false

unfoldable pub escape_read : (place : ℕ) → Before → List ℕ → Result (Option Heard) FileFault
escape_read place before rest = block_read place rest >>= λ block. Ok (Some (escape_of before (1 + (block.0 + block.1)) (block_at block rest)))

-- an event whose channel command is none
abbrev pub channel_fault : (place : ℕ) → CmdFault → FileFault
channel_fault place commands.Short = Short place
channel_fault place commands.Empty = BadEvent place
channel_fault place commands.DataOctet = BadEvent place
channel_fault place (commands.BadStatus s) = BadEvent place
channel_fault place (commands.BadData k) = BadEvent place
channel_fault place commands.TooLong = BadEvent place

-- A channel command of this status: so many octets of it stand elsewhere.
abbrev pub channel_heard : (place : ℕ) → Before → (status elsewhere : ℕ) → Result (Command × ℕ) CmdFault → Result (Option Heard) FileFault
channel_heard place before status elsewhere (Ok read) =
    Ok (Some (record { commands = read.0 ∷ []; used = read.1 - elsewhere; after = record { running = Some status; unfinished = before.unfinished } }))
channel_heard place before status elsewhere (Err f) = Err (channel_fault place f)

-- one without its status octet
abbrev pub running_read : (place : ℕ) → Before → Option ℕ → List ℕ → Result (Option Heard) FileFault
running_read place before None octets = Err (NoStatus place)
running_read place before (Some status) octets = channel_heard place before status 1 (command_read (status ∷ take 2 octets))

-- what stands behind the delta of an event, or none where it ends the track
unfoldable pub what_read : (place : ℕ) → Before → List ℕ → Result (Option Heard) FileFault
what_read place before [] = Err (Short place)
what_read place before (first ∷ rest) =
    if first == 0xff then meta_read place before rest
    else (if first == 0xf0 then message_read place before rest
    else (if first == 0xf7 then escape_read place before rest
    else (if nat_lt 0xf0 first then Err (BadEvent place)
    else (if nat_lt first 0x80 then running_read place before before.running (first ∷ rest)
    else channel_heard place before first 0 (command_read (first ∷ rest))))))

-- an event with its delta, and the number of all its octets
abbrev pub behind_field : ℕ × ℕ → Option Heard → Option (ℕ × Heard)
behind_field field None = None
behind_field field (Some heard) = Some (field.0, record heard { used = field.1 + heard.used })

unfoldable pub event_read : (place : ℕ) → Before → List ℕ → Result (Option (ℕ × Heard)) FileFault
event_read place before octets = do
  field ← field_read place (delta_at octets)
  what ← what_read place before (drop field.1 octets)
  Ok (behind_field field what)

-- ---- the track

-- commands at one tick
abbrev pub at_tick : (tick : ℕ) → Command → Timed
at_tick tick command = record { tick = tick; command = command }

abbrev pub timed_at : (tick : ℕ) → List Command → List Timed
timed_at tick commands = map (at_tick tick) commands

-- an event before those that are read behind it
abbrev pub before_events : (tick : ℕ) → Option (ℕ × Heard) → (ℕ × Heard → Result (List Timed) FileFault) → Result (List Timed) FileFault
before_events tick None others = Ok []
before_events tick (Some x) others = others x >>= λ list. Ok (timed_at (tick + x.0) x.1.commands ++ list)

-- the commands of a track that goes on at this place, of at most so many events
unfoldable pub track_read : (most place tick : ℕ) → Before → List ℕ → Result (List Timed) FileFault
track_read zero place tick before octets = Err (Short place)
track_read (suc n) place tick before octets = do
  next ← event_read place before octets
  before_events tick next (λ x. track_read n (place + x.1.used) (tick + x.0) x.1.after (drop x.1.used octets))

abbrev pub nothing_before : Before
nothing_before = record { running = None; unfinished = false }

-- ---- chunks

-- two octets and four octets as a number, the high one first
abbrev pub number2 : (a b : ℕ) → ℕ
number2 a b = a * 256 + b

abbrev pub number4 : (a b c d : ℕ) → ℕ
number4 a b c d = a * 16777216 + b * 65536 + c * 256 + d

-- the octets from this place of the list on begin with a chunk: the length that it tells
abbrev pub size_at : List ℕ → ℕ
size_at octets = number4 (slice_index octets 4) (slice_index octets 5) (slice_index octets 6) (slice_index octets 7)

-- the number of all octets of the chunk at the front
unfoldable pub chunk_read : (place : ℕ) → List ℕ → Result ℕ FileFault
chunk_read place octets =
    if nat_lt (length octets) 8 then Err (Short place)
    else if nat_lt (length octets) (8 + size_at octets) then Err (Short place) else Ok (8 + size_at octets)

-- whether a chunk is a track
unfoldable pub is_track : List ℕ → Bool
is_track octets = slice_index octets 0 == 0x4d && slice_index octets 1 == 0x54 && slice_index octets 2 == 0x72 && slice_index octets 3 == 0x6b

abbrev pub chunk_heard : (place size : ℕ) (octets : List ℕ) → Result (List Timed) FileFault → Result (List Timed) FileFault
chunk_heard place size octets others =
    if is_track octets then track_read (size - 8) (place + 8) 0 nothing_before (take (size - 8) (drop 8 octets)) else others

-- the first track among at most so many chunks
unfoldable pub chunks_read : (most place : ℕ) → List ℕ → Result (List Timed) FileFault
chunks_read zero place octets = Err (Short place)
chunks_read (suc n) place octets = do
  size ← chunk_read place octets
  chunk_heard place size octets (chunks_read n (place + size) (drop size octets))

-- the octets that are there are those of the name
abbrev pub agrees : List ℕ → (name : List ℕ) → Bool
agrees octets [] = true
agrees [] (n ∷ name) = true
agrees (o ∷ octets) (n ∷ name) = o == n && agrees octets name

abbrev pub header_name : List ℕ
header_name = 0x4d ∷ 0x54 ∷ 0x68 ∷ 0x64 ∷ []

abbrev pub format_at : List ℕ → ℕ
format_at octets = number2 (slice_index octets 8) (slice_index octets 9)

abbrev pub division_at : List ℕ → ℕ
division_at octets = number2 (slice_index octets 12) (slice_index octets 13)

-- the number of the header's octets, unless its fields are refused
abbrev pub fields_read : (octets : List ℕ) (size : ℕ) → Result ℕ FileFault
fields_read octets size =
    if nat_lt size 14 then Err (HeadLength 4)
    else (if nat_lt 0 (format_at octets) then Err (Format (format_at octets))
    else (if division_at octets == 0 || nat_le 0x8000 (division_at octets) then Err (Division (division_at octets)) else Ok size))

unfoldable pub header_read : List ℕ → Result ℕ FileFault
header_read octets = if agrees octets header_name then (chunk_read 0 octets >>= fields_read octets) else Err NotSmf

-- the list of a file
unfoldable pub file_read : List ℕ → Result (List Timed) FileFault
file_read octets = header_read octets >>= λ size. chunks_read (length octets) size (drop size octets)
