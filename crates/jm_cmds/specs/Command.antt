-- Commands and their octets (RFC 6295, Appendix E, Figures E.1 and E.2).
use Rattle.std.specs.Prelude.{ℕ, Bool, false, ◌+◌, ◌/◌, ◌%◌, ◌<◌, List, [], ◌∷◌, ◌++◌, slice_index}
use Rattle.jm_cmds.specs.declared.commands.Command.{Command}
use Rattle.jm_cmds.specs.declared.commands.Command.TheVariants.{NoteOff, NoteOn, PolyPressure, Control, Program, Pressure, Wheel, QuarterFrame, SongPosition, SongSelect, TuneRequest, Clock, Start, Continue, Stop, ActiveSensing, SystemReset, Sysex}
use Rattle.jm_cmds.specs.Data.{IsSysex, is_long_message}

-- the one spelling of a command
abbrev pub spelling : Command → List ℕ
spelling (NoteOff channel note velocity) = (0x80 + channel) ∷ note ∷ velocity ∷ []
spelling (NoteOn channel note velocity) = (0x90 + channel) ∷ note ∷ velocity ∷ []
spelling (PolyPressure channel note value) = (0xa0 + channel) ∷ note ∷ value ∷ []
spelling (Control channel number value) = (0xb0 + channel) ∷ number ∷ value ∷ []
spelling (Program channel program) = (0xc0 + channel) ∷ program ∷ []
spelling (Pressure channel value) = (0xd0 + channel) ∷ value ∷ []
spelling (Wheel channel first second) = (0xe0 + channel) ∷ first ∷ second ∷ []
spelling (QuarterFrame value) = 0xf1 ∷ value ∷ []
spelling (SongPosition value) = 0xf2 ∷ (value % 128) ∷ (value / 128) ∷ []
spelling (SongSelect song) = 0xf3 ∷ song ∷ []
spelling TuneRequest = 0xf6 ∷ []
spelling Clock = 0xf8 ∷ []
spelling Start = 0xfa ∷ []
spelling Continue = 0xfb ∷ []
spelling Stop = 0xfc ∷ []
spelling ActiveSensing = 0xfe ∷ []
spelling SystemReset = 0xff ∷ []
spelling (Sysex octets) = 0xf0 ∷ (octets ++ 0xf7 ∷ [])

-- the octet by which a command begins
abbrev pub status_of : Command → ℕ
status_of command = slice_index (spelling command) 0

-- A long command, which no packet holds whole, is a System Exclusive message that is long.
abbrev pub is_long : Command → Bool
is_long (Sysex octets) = is_long_message octets
is_long _ = false

-- the channel of a channel command is within its bound
abbrev pub HasChannel : Command → Type 0
HasChannel (NoteOff channel note velocity) = channel < 16
HasChannel (NoteOn channel note velocity) = channel < 16
HasChannel (PolyPressure channel note value) = channel < 16
HasChannel (Control channel number value) = channel < 16
HasChannel (Program channel program) = channel < 16
HasChannel (Pressure channel value) = channel < 16
HasChannel (Wheel channel first second) = channel < 16
HasChannel _ = Unit {0}

-- a channel command that speaks of one note
abbrev pub IsOfNote : Command → Type 0
IsOfNote (NoteOff channel note velocity) = Unit {0}
IsOfNote (NoteOn channel note velocity) = Unit {0}
IsOfNote (PolyPressure channel note value) = Unit {0}
IsOfNote _ = ⊥

-- a channel command that speaks of its whole channel
abbrev pub IsOfChannel : Command → Type 0
IsOfChannel (Control channel number value) = Unit {0}
IsOfChannel (Program channel program) = Unit {0}
IsOfChannel (Pressure channel value) = Unit {0}
IsOfChannel (Wheel channel first second) = Unit {0}
IsOfChannel _ = ⊥

-- The numbers of a command are within their bounds. This holds of each command of a program, and is
-- written where a law speaks of any command.
abbrev pub IsCommand : Command → Type 0
IsCommand (NoteOff channel note velocity) = (channel < 16) × (note < 128) × (velocity < 128)
IsCommand (NoteOn channel note velocity) = (channel < 16) × (note < 128) × (velocity < 128)
IsCommand (PolyPressure channel note value) = (channel < 16) × (note < 128) × (value < 128)
IsCommand (Control channel number value) = (channel < 16) × (number < 128) × (value < 128)
IsCommand (Program channel program) = (channel < 16) × (program < 128)
IsCommand (Pressure channel value) = (channel < 16) × (value < 128)
IsCommand (Wheel channel first second) = (channel < 16) × (first < 128) × (second < 128)
IsCommand (QuarterFrame value) = value < 128
IsCommand (SongPosition value) = value < 16384
IsCommand (SongSelect song) = song < 128
IsCommand TuneRequest = Unit {0}
IsCommand Clock = Unit {0}
IsCommand Start = Unit {0}
IsCommand Continue = Unit {0}
IsCommand Stop = Unit {0}
IsCommand ActiveSensing = Unit {0}
IsCommand SystemReset = Unit {0}
IsCommand (Sysex octets) = IsSysex octets
