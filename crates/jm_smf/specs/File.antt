-- The file that a list of commands is written as (Standard MIDI Files 1.0).
use Rattle.std.specs.Prelude.{ℕ, ◌+◌, ◌-◌, ◌==◌, List, [], ◌∷◌, ◌++◌, length, drop, nat_lt, Option, Some, None, Result, Ok, Err, if◌then◌else◌}
use Rattle.jm_cmds.specs.declared.commands.Command.{Command}
use Rattle.jm_cmds.specs.Command.{spelling, status_of}
use Rattle.jm_wire.specs.Delta.{delta}
use Rattle.jm_wire.specs.Numbers.{be16, be32}
use Rattle.jm_smf.specs.declared.timed.Timed.{Timed}
use Rattle.jm_smf.specs.declared.fault.SmfFault.{SmfFault}
use Rattle.jm_smf.specs.declared.fault.SmfFault.TheVariants.{TooFar, TooLong}

-- What stands between the delta of an event and its command: nothing for a channel command, F0 and the
-- length of what follows for a System Exclusive message, F7 and that length for every other command.
unfoldable pub lead : Command → List ℕ
lead command =
    if nat_lt (status_of command) 0xf0 then []
    else if status_of command == 0xf0 then 0xf0 ∷ delta (length (spelling command) - 1)
    else 0xf7 ∷ delta (length (spelling command))

-- a command that many ticks behind the one before it; the F0 of a message stands before its length alone
unfoldable pub event : ℕ → Command → List ℕ
event ticks command =
    (delta ticks ++ lead command) ++ drop (if status_of command == 0xf0 then 1 else 0) (spelling command)

-- the events of commands behind one at this tick
abbrev pub events : (before : ℕ) → List Timed → List ℕ
events before [] = []
events before (t ∷ ts) = event (t.tick - before) t.command ++ events t.tick ts

abbrev pub first_tick : List Timed → ℕ
first_tick [] = 0
first_tick (t ∷ ts) = t.tick

-- a delta of 0, and the meta event that ends a track
abbrev pub end_of_track : List ℕ
end_of_track = 0 ∷ 0xff ∷ 0x2f ∷ 0 ∷ []

-- what stands in the track: the first command is at 0
abbrev pub track : List Timed → List ℕ
track list = events (first_tick list) list ++ end_of_track

-- The header chunk: its name, its length, format 0, one track, and 5,000 ticks for a quarter note; then
-- the name of the track chunk and its length.
unfoldable pub head : (len : ℕ) → List ℕ
head len =
    (0x4d ∷ 0x54 ∷ 0x68 ∷ 0x64 ∷ []) ++ be32 6 ++ be16 0 ++ be16 1 ++ be16 5000
    ++ (0x4d ∷ 0x54 ∷ 0x72 ∷ 0x6b ∷ []) ++ be32 len

abbrev pub file : List Timed → List ℕ
file list = head (length (track list)) ++ track list

-- the first command that is more than 0x0fffffff ticks behind the one before it, counted from this index
abbrev pub first_far : (index before : ℕ) → List Timed → Option ℕ
first_far index before [] = None
first_far index before (t ∷ ts) =
    if nat_lt 0x0fffffff (t.tick - before) then Some index else first_far (index + 1) t.tick ts

abbrev pub written_unless : Option ℕ → List Timed → Result (List ℕ) SmfFault
written_unless (Some index) list = Err (TooFar index)
written_unless None list = if nat_lt 4294967295 (length (track list)) then Err TooLong else Ok (file list)

-- the file of a list, or why it has none
abbrev pub written : List Timed → Result (List ℕ) SmfFault
written list = written_unless (first_far 0 (first_tick list) list) list
