-- What a command says of each part: nothing, that it is absent, or its new value.
use Rattle.std.specs.Prelude.{ℕ, ◌+◌, ◌%◌, Bool, true, false, ◌||◌, List, [], Option, Some, None, ◌==◌, if◌then◌else◌}
use Rattle.jm_cmds.specs.declared.commands.Command.{Command}
use Rattle.jm_cmds.specs.declared.commands.Command.TheVariants.{NoteOff, NoteOn, PolyPressure, Control, Program, Pressure, Wheel, SongSelect, SystemReset, Sysex}
use Rattle.jm_cmds.specs.declared.controls.ControlKind.{ControlKind}
use Rattle.jm_cmds.specs.declared.controls.ControlKind.TheVariants as kinds
use Rattle.jm_cmds.specs.declared.param.Param.{Param}
use Rattle.jm_cmds.specs.declared.selection.ParamCommand.{ParamCommand}
use Rattle.jm_cmds.specs.declared.selection.ParamCommand.TheVariants.{Select, Enter, Unselect, Clear, Pass}
use Rattle.jm_cmds.specs.declared.selection.Selection.{Selection}
use Rattle.jm_cmds.specs.Control.{control_kind, is_reset, is_reset_message, ends_notes, ends_controllers}
use Rattle.jm_cmds.specs.Data.{is_kept_message}
use Rattle.jm_cmds.specs.Selection.{selection_with}
use Rattle.jm_state.specs.declared.channel.ProgramPart.{ProgramPart}
use Rattle.jm_state.specs.declared.entered.Entry.{Entry}
use Rattle.jm_state.specs.Entered.{entered_with}
use Rattle.jm_state.specs.Parts.{pair_of}
use Rattle.jm_state.specs.Apply.{sounding, bank_by, selection_from}

-- the part behind what was said of it: nothing leaves it, else it is what was said
abbrev pub said : {X : Type 0} → Option (Option X) → Option X → Option X
said None old = old
said (Some new) old = new

-- it becomes absent where this holds
abbrev pub ended : {X : Type 0} → Bool → Option (Option X)
ended b = if b then Some None else None

abbrev pub song_says : Command → Option (Option ℕ)
song_says (SongSelect song) = Some (Some song)
song_says command = ended (is_reset command)

-- the number of messages behind a command
abbrev pub count_after : ℕ → Command → ℕ
count_after count SystemReset = 0
count_after count (Sysex octets) =
    if is_reset_message octets then 0 else (if is_kept_message octets then (count + 1) % 256 else count)
count_after count command = count

-- the values of Controls 0 and 32 are given
abbrev pub program_says : ℕ → (high low : Option ℕ) → Command → Option (Option ProgramPart)
program_says channel high low (Program at program) =
    if at == channel then Some (Some (record { program = program; bank = bank_by high low })) else None
program_says channel high low command = ended (is_reset command)

-- Control 121 drops controls of this kind
abbrev pub is_dropped : ControlKind → Bool
is_dropped kinds.Pedal = true
is_dropped (kinds.Plain number) = true
is_dropped _ = false

-- what a controller of this kind and number says of the control of another kind and number
abbrev pub controller_says : (kind other : ControlKind) → (number control value : ℕ) → Option (Option ℕ)
controller_says (kinds.Mode m) other number control value =
    if number == control then Some (Some value) else ended (pair_of number == control)
controller_says (kinds.Kept k) other number control value = if number == control then Some (Some value) else None
controller_says kinds.Pedal other number control value = if number == control then Some (Some value) else None
controller_says (kinds.Plain k) other number control value = if number == control then Some (Some value) else None
controller_says kinds.ResetControllers other number control value = ended (is_dropped other)
controller_says _ other number control value = None

abbrev pub control_says : (channel control : ℕ) → Command → Option (Option ℕ)
control_says channel control (Control at number value) =
    if at == channel then controller_says (control_kind number) (control_kind control) number control value else None
control_says channel control command = ended (is_reset command)

-- the selection behind a command
abbrev pub selection_behind : Option Selection → ParamCommand → Option Selection
selection_behind s (Select nrpn high value) = Some (selection_with nrpn high value (selection_from s))
selection_behind s (Enter high value) = s
selection_behind s Unselect = None
selection_behind s Clear = None
selection_behind s Pass = s

abbrev pub wheel_says : ℕ → Command → Option (Option (ℕ × ℕ))
wheel_says channel (Wheel at first second) = if at == channel then Some (Some (first, second)) else None
wheel_says channel command = ended (ends_controllers channel command)

-- a NoteOn of velocity 0 ends its note
abbrev pub note_says : (channel note : ℕ) → Command → Option (Option ℕ)
note_says channel note (NoteOff at other velocity) = if at == channel then ended (other == note) else None
note_says channel note (NoteOn at other velocity) =
    if at == channel then (if other == note then Some (sounding velocity) else None) else None
note_says channel note command = ended (ends_notes channel command)

abbrev pub pressure_says : ℕ → Command → Option (Option ℕ)
pressure_says channel (Pressure at value) = if at == channel then Some (Some value) else None
pressure_says channel command = ended (ends_notes channel command || ends_controllers channel command)

abbrev pub poly_says : (channel note : ℕ) → Command → Option (Option ℕ)
poly_says channel note (PolyPressure at other value) =
    if at == channel then (if other == note then Some (Some value) else None) else None
poly_says channel note command = ended (ends_controllers channel command)

-- a half of this parameter is entered, where one is selected
abbrev pub entered_if : Option Param → Bool → ℕ → List Entry → List Entry
entered_if None high value es = es
entered_if (Some p) high value es = entered_with high p (Some value) es

-- the entered parameters behind a command: those that were selected count as entered last, and none are left behind a
-- Reset State command
abbrev pub entered_behind : Option Param → ParamCommand → List Entry → List Entry
entered_behind selected (Enter high value) es = entered_if selected high value es
entered_behind selected Clear es = []
entered_behind selected command es = es
