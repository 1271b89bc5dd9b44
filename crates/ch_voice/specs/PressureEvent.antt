-- What a command means for the pressure of one channel (RFC 6295, A.1 and A.8).
use Rattle.std.specs.Prelude.{ℕ, Bool, true, false, ◌&&◌, ◌||◌, ◌==◌, if◌then◌else◌}
use Rattle.jm_cmds.specs.declared.commands.Command.{Command}
use Rattle.jm_cmds.specs.declared.commands.Command.TheVariants.{Pressure}
use Rattle.jm_cmds.specs.declared.history.Sent.{Sent}
use Rattle.jm_cmds.specs.Control.{ends_notes, ends_controllers}
use Rattle.ch_voice.specs.declared.events.PressureEvent.{PressureEvent}
use Rattle.ch_voice.specs.declared.events.PressureEvent.TheVariants.{Pressed, Cleared, Other}

abbrev pub pressure_event : (channel : ℕ) → Command → PressureEvent
pressure_event channel (Pressure at value) = if at == channel then Pressed value else Other
pressure_event channel command = if ends_notes channel command || ends_controllers channel command then Cleared else Other

-- the event of a place of the history
abbrev pub pressure_at : (channel : ℕ) → Sent → PressureEvent
pressure_at channel place = pressure_event channel place.command

-- whether it tells the pressure
abbrev pub is_pressed : PressureEvent → Bool
is_pressed (Pressed value) = true
is_pressed Cleared = false
is_pressed Other = false

-- whether an earlier pressure doesn't last behind it
abbrev pub ends_pressure : PressureEvent → Bool
ends_pressure (Pressed value) = true
ends_pressure Cleared = true
ends_pressure Other = false

-- what ends what: the last pressure that is N-active and C-active stands
abbrev pub pressure_ends : (channel : ℕ) → Sent → Sent → Bool
pressure_ends channel place later = is_pressed (pressure_at channel place) && ends_pressure (pressure_at channel later)
