-- Controllers by what they do (RFC 6295, A.3.1 to A.3.4), and the commands that drop others.
use Rattle.std.specs.Prelude.{ℕ, Bool, true, false, ◌&&◌, ◌||◌, List, [], ◌∷◌, nat_le, ◌==◌, if◌then◌else◌}
use Rattle.jm_cmds.specs.declared.controls.ControlKind.{ControlKind}
use Rattle.jm_cmds.specs.declared.controls.ControlKind.TheVariants.{DataEntry, Selection, Increment, Silence, ResetControllers, Mode, Kept, Pedal, Plain}
use Rattle.jm_cmds.specs.declared.commands.Command.{Command}
use Rattle.jm_cmds.specs.declared.commands.Command.TheVariants.{Control, SystemReset, Sysex}

-- the kind of the controller with this number
unfoldable pub control_kind : ℕ → ControlKind
control_kind number =
    if number == 6 then DataEntry true
    else (if number == 38 then DataEntry false
    else (if number == 96 || number == 97 then Increment number
    else (if number == 98 then Selection true false
    else (if number == 99 then Selection true true
    else (if number == 100 then Selection false false
    else (if number == 101 then Selection false true
    else (if number == 120 || number == 123 then Silence number
    else (if number == 121 then ResetControllers
    else (if nat_le 124 number then Mode number
    else (if number == 0 || number == 32 || number == 122 then Kept number
    else (if number == 64 then Pedal
    else Plain number)))))))))))

-- Controllers 6 and 38, which set a half of the selected parameter's value: of them Chapter M speaks alone.
unfoldable pub is_entry : ℕ → Bool
is_entry number = number == 6 || number == 38

-- Controllers 96, 97, 120, 121 and 123, whose commands are counted: each of them acts by itself, whatever its value is.
unfoldable pub is_counted : ℕ → Bool
is_counted number = number == 96 || number == 97 || number == 120 || number == 121 || number == 123

-- the number of a controller of this kind
abbrev pub control_number : ControlKind → ℕ
control_number (DataEntry high) = if high then 6 else 38
control_number (Selection nrpn high) = if nrpn then (if high then 99 else 98) else (if high then 101 else 100)
control_number (Increment number) = number
control_number (Silence number) = number
control_number ResetControllers = 121
control_number (Mode number) = number
control_number (Kept number) = number
control_number Pedal = 64
control_number (Plain number) = number

-- whether it ends all notes of its channel
abbrev pub clears_notes : ControlKind → Bool
clears_notes (DataEntry high) = false
clears_notes (Selection nrpn high) = false
clears_notes (Increment number) = false
clears_notes (Silence number) = true
clears_notes ResetControllers = false
clears_notes (Mode number) = true
clears_notes (Kept number) = false
clears_notes Pedal = false
clears_notes (Plain number) = false

-- whether it sets back the controllers of its channel
abbrev pub clears_controllers : ControlKind → Bool
clears_controllers (DataEntry high) = false
clears_controllers (Selection nrpn high) = false
clears_controllers (Increment number) = false
clears_controllers (Silence number) = false
clears_controllers ResetControllers = true
clears_controllers (Mode number) = false
clears_controllers (Kept number) = false
clears_controllers Pedal = false
clears_controllers (Plain number) = false

-- the System Exclusive messages that turn General MIDI on: 7E, any device, 09, 01 or 03
abbrev pub is_reset_message : List ℕ → Bool
is_reset_message (a ∷ device ∷ b ∷ c ∷ []) = a == 0x7e && (b == 9 && (c == 1 || c == 3))
is_reset_message _ = false

-- A Reset State command: what came before it is no longer active.
abbrev pub is_reset : Command → Bool
is_reset SystemReset = true
is_reset (Sysex octets) = is_reset_message octets
is_reset _ = false

-- Behind this command an earlier one of the channel is no longer N-active.
abbrev pub ends_notes : ℕ → Command → Bool
ends_notes channel SystemReset = true
ends_notes channel (Sysex octets) = is_reset_message octets
ends_notes channel (Control at number value) = (at == channel) && clears_notes (control_kind number)
ends_notes channel _ = false

-- Behind this command an earlier one of the channel is no longer C-active.
abbrev pub ends_controllers : ℕ → Command → Bool
ends_controllers channel SystemReset = true
ends_controllers channel (Sysex octets) = is_reset_message octets
ends_controllers channel (Control at number value) = (at == channel) && clears_controllers (control_kind number)
ends_controllers channel _ = false
