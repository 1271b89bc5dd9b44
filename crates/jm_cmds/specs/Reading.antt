-- The command at the front of octets, or the first fault that they show.
use Rattle.std.specs.Prelude.{ℕ, ◌+◌, ◌*◌, ◌%◌, List, [], ◌∷◌, length, take, drop, slice_index, Result, Ok, Err, nat_lt, ◌==◌, if◌then◌else◌}
use Rattle.jm_wire.specs.Readers.{◌>>=◌}
use Rattle.jm_cmds.specs.declared.commands.Command.{Command}
use Rattle.jm_cmds.specs.declared.commands.Command.TheVariants.{NoteOff, NoteOn, PolyPressure, Control, Program, Pressure, Wheel, QuarterFrame, SongPosition, SongSelect, TuneRequest, Clock, Start, Continue, Stop, ActiveSensing, SystemReset, Sysex}
use Rattle.jm_cmds.specs.declared.reading.CmdFault.{CmdFault}
use Rattle.jm_cmds.specs.declared.reading.CmdFault.TheVariants.{Empty, DataOctet, BadStatus, BadData, TooLong, Short}
use Rattle.jm_cmds.specs.Data.{is_data, data_len}

-- the octet at this place of the command, which must be data
abbrev pub one_data : ℕ → List ℕ → Result ℕ CmdFault
one_data place [] = Err Short
one_data place (octet ∷ rest) = if is_data octet then Ok octet else Err (BadData place)

-- the two octets behind the status
abbrev pub two_data : List ℕ → Result (ℕ × ℕ) CmdFault
two_data rest = do
  first ← one_data 1 rest
  second ← one_data 2 (drop 1 rest)
  Ok (first, second)

-- A command and the number of its octets, with one data octet or with two.
abbrev pub with_one : (ℕ → Command) → List ℕ → Result (Command × ℕ) CmdFault
with_one made rest = do
  value ← one_data 1 rest
  Ok (made value, 2)

abbrev pub with_two : (ℕ → ℕ → Command) → List ℕ → Result (Command × ℕ) CmdFault
with_two made rest = do
  values ← two_data rest
  Ok (made values.0 values.1, 3)

-- a channel command: the high four bits of the status are its kind, the low four its channel
abbrev pub channel_read : ℕ → List ℕ → Result (Command × ℕ) CmdFault
channel_read status rest =
    if nat_lt status 0x90 then with_two (NoteOff (status % 16)) rest
    else (if nat_lt status 0xa0 then with_two (NoteOn (status % 16)) rest
    else (if nat_lt status 0xb0 then with_two (PolyPressure (status % 16)) rest
    else (if nat_lt status 0xc0 then with_two (Control (status % 16)) rest
    else (if nat_lt status 0xd0 then with_one (Program (status % 16)) rest
    else (if nat_lt status 0xe0 then with_one (Pressure (status % 16)) rest
    else with_two (Wheel (status % 16)) rest)))))

-- a system command other than System Exclusive
abbrev pub system_read : ℕ → List ℕ → Result (Command × ℕ) CmdFault
system_read status rest =
    if status == 0xf1 then with_one QuarterFrame rest
    else (if status == 0xf2 then with_two (λ low high. SongPosition (low + 128 * high)) rest
    else (if status == 0xf3 then with_one SongSelect rest
    else (if status == 0xf6 then Ok (TuneRequest, 1)
    else (if status == 0xf8 then Ok (Clock, 1)
    else (if status == 0xfa then Ok (Start, 1)
    else (if status == 0xfb then Ok (Continue, 1)
    else (if status == 0xfc then Ok (Stop, 1)
    else (if status == 0xfe then Ok (ActiveSensing, 1)
    else (if status == 0xff then Ok (SystemReset, 1) else Err (BadStatus status))))))))))

-- A System Exclusive message: its data octets are those up to the first octet that is none, and that
-- one must be F7.
abbrev pub message_read : List ℕ → Result (Command × ℕ) CmdFault
message_read rest =
    if nat_lt 65536 (data_len rest) then Err TooLong
    else (if data_len rest == length rest then Err Short
    else (if slice_index rest (data_len rest) == 0xf7 then Ok (Sysex (take (data_len rest) rest), data_len rest + 2)
    else Err (BadData (data_len rest + 1))))

-- the command that begins with this status octet
unfoldable pub after_status : ℕ → List ℕ → Result (Command × ℕ) CmdFault
after_status status rest =
    if nat_lt status 0x80 then Err DataOctet
    else (if nat_lt status 0xf0 then channel_read status rest
    else (if status == 0xf0 then message_read rest else system_read status rest))

-- the command at the front, with the number of its octets
unfoldable pub command_read : List ℕ → Result (Command × ℕ) CmdFault
command_read [] = Err Empty
command_read (status ∷ rest) = after_status status rest
