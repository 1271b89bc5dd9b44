-- What a command means for the pitch wheel of one channel (RFC 6295, A.1 and A.5).
use Rattle.std.specs.Prelude.{ℕ, Bool, true, false, ◌&&◌, ◌==◌, if◌then◌else◌}
use Rattle.jm_cmds.specs.declared.commands.Command.{Command}
use Rattle.jm_cmds.specs.declared.commands.Command.TheVariants.{Wheel}
use Rattle.jm_cmds.specs.declared.history.Sent.{Sent}
use Rattle.jm_cmds.specs.Control.{ends_controllers}
use Rattle.ch_voice.specs.declared.events.WheelEvent.{WheelEvent}
use Rattle.ch_voice.specs.declared.events.WheelEvent.TheVariants.{Moved, Cleared, Other}

abbrev pub wheel_event : (channel : ℕ) → Command → WheelEvent
wheel_event channel (Wheel at first second) = if at == channel then Moved first second else Other
wheel_event channel command = if ends_controllers channel command then Cleared else Other

-- the event of a place of the history
abbrev pub wheel_at : (channel : ℕ) → Sent → WheelEvent
wheel_at channel place = wheel_event channel place.command

-- whether it moves the wheel
abbrev pub is_moved : WheelEvent → Bool
is_moved (Moved first second) = true
is_moved Cleared = false
is_moved Other = false

-- whether an earlier move of the wheel doesn't last behind it
abbrev pub ends_wheel : WheelEvent → Bool
ends_wheel (Moved first second) = true
ends_wheel Cleared = true
ends_wheel Other = false

-- what ends what: the last move of the wheel that is C-active stands
abbrev pub wheel_ends : (channel : ℕ) → Sent → Sent → Bool
wheel_ends channel place later = is_moved (wheel_at channel place) && ends_wheel (wheel_at channel later)
