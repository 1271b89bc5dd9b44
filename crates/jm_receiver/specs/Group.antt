-- The order in which repair takes the logs of a channel.
use Rattle.std.specs.Prelude.{ℕ, Bool, false, List, [], ◌∷◌, Option, Some, None, ◌==◌}
use Rattle.jm_cmds.specs.declared.commands.Command.{Command}
use Rattle.jm_cmds.specs.declared.commands.Command.TheVariants as commands
use Rattle.jm_reader.specs.declared.logs.LogKind.{LogKind}
use Rattle.jm_reader.specs.declared.logs.LogKind.TheVariants.{Program, Param, Control, Toggle, Count, Wheel, NoteOff, NoteOn, Pressure, Poly}
use Rattle.jm_receiver.specs.declared.group.Group.{Group}
use Rattle.jm_receiver.specs.declared.group.Group.TheVariants.{Programs, Params, Controls, Wheels, Released, Struck, Pressures, Polys}

-- the groups in their order: controllers, among them All Notes Off, before notes, and released notes before struck ones
unfoldable pub all_groups : List Group
all_groups = Programs ∷ Params ∷ Controls ∷ Wheels ∷ Released ∷ Struck ∷ Pressures ∷ Polys ∷ []

-- the channels, ascending
unfoldable pub all_channels : List ℕ
all_channels = 0 ∷ 1 ∷ 2 ∷ 3 ∷ 4 ∷ 5 ∷ 6 ∷ 7 ∷ 8 ∷ 9 ∷ 10 ∷ 11 ∷ 12 ∷ 13 ∷ 14 ∷ 15 ∷ []

-- ## The channel of a log of each group

abbrev pub program_channel : LogKind → Option ℕ
program_channel (Program channel program bank) = Some channel
program_channel _ = None

abbrev pub param_channel : LogKind → Option ℕ
param_channel (Param channel nrpn high low entry_high entry_low) = Some channel
param_channel _ = None

abbrev pub control_channel : LogKind → Option ℕ
control_channel (Control channel number value) = Some channel
control_channel (Toggle channel count) = Some channel
control_channel (Count channel number count) = Some channel
control_channel _ = None

abbrev pub wheel_channel : LogKind → Option ℕ
wheel_channel (Wheel channel first second) = Some channel
wheel_channel _ = None

abbrev pub released_channel : LogKind → Option ℕ
released_channel (NoteOff channel note) = Some channel
released_channel _ = None

abbrev pub struck_channel : LogKind → Option ℕ
struck_channel (NoteOn channel note velocity soon) = Some channel
struck_channel _ = None

abbrev pub pressure_channel : LogKind → Option ℕ
pressure_channel (Pressure channel value) = Some channel
pressure_channel _ = None

abbrev pub poly_channel : LogKind → Option ℕ
poly_channel (Poly channel note value) = Some channel
poly_channel _ = None

abbrev pub channel_in : Group → LogKind → Option ℕ
channel_in Programs log = program_channel log
channel_in Params log = param_channel log
channel_in Controls log = control_channel log
channel_in Wheels log = wheel_channel log
channel_in Released log = released_channel log
channel_in Struck log = struck_channel log
channel_in Pressures log = pressure_channel log
channel_in Polys log = poly_channel log

abbrev pub is_channel : ℕ → Option ℕ → Bool
is_channel channel None = false
is_channel channel (Some at) = at == channel

-- the log is of this group and channel
abbrev pub is_of : Group → ℕ → LogKind → Bool
is_of group channel log = is_channel channel (channel_in group log)

-- ## The command of a log

abbrev pub control : (channel number value : ℕ) → Command
control channel number value = commands.Control channel number value

-- a note or the pressure on its key
abbrev pub note_of : LogKind → Option Command
note_of (NoteOff channel note) = Some (commands.NoteOff channel note 64)
note_of (NoteOn channel note velocity soon) = Some (commands.NoteOn channel note velocity)
note_of (Poly channel note value) = Some (commands.PolyPressure channel note value)
note_of _ = None

-- The command that a log stands for, if it is one of these. A log that counts commands stands for its controller with value 0,
-- and a released note has velocity 64.
abbrev pub command_of : LogKind → Option Command
command_of (Control channel number value) = Some (control channel number value)
command_of (Count channel number count) = Some (control channel number 0)
command_of (Wheel channel first second) = Some (commands.Wheel channel first second)
command_of (Pressure channel value) = Some (commands.Pressure channel value)
command_of log = note_of log
