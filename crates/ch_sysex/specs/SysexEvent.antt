-- What a command means for Chapter X (RFC 6295, B.5).
use Rattle.std.specs.Prelude.{ℕ, ◌+◌, Bool, true, false, ◌&&◌, List, [], if◌then◌else◌}
use Rattle.jm_cmds.specs.declared.commands.Command.{Command}
use Rattle.jm_cmds.specs.declared.commands.Command.TheVariants.{Sysex, SystemReset}
use Rattle.jm_cmds.specs.declared.history.Sent.{Sent}
use Rattle.jm_cmds.specs.Control.{is_reset, is_reset_message}
use Rattle.jm_cmds.specs.Data.{is_kept_message}
use Rattle.ch_sysex.specs.declared.events.SysexEvent.{SysexEvent}
use Rattle.ch_sysex.specs.declared.events.SysexEvent.TheVariants.{Kept, ResetMessage, Reset, Other}

abbrev pub sysex_event : Command → SysexEvent
sysex_event (Sysex octets) = if is_reset_message octets then ResetMessage else (if is_kept_message octets then Kept else Other)
sysex_event SystemReset = Reset
sysex_event command = Other

-- the data octets of a System Exclusive message
abbrev pub data_of : Command → List ℕ
data_of (Sysex octets) = octets
data_of command = []

-- the event of a place of the history
abbrev pub event_at : Sent → SysexEvent
event_at place = sysex_event place.command

-- whether it has a log
abbrev pub is_logged : SysexEvent → Bool
is_logged Kept = true
is_logged ResetMessage = true
is_logged Reset = false
is_logged Other = false

abbrev pub resets : Sent → Bool
resets place = is_reset place.command

-- What ends what: each message is an item of its own, and stands while it is active.
abbrev pub sysex_ends : Sent → Sent → Bool
sysex_ends place later = is_logged (event_at place) && resets later

-- How many kept messages came since the last Reset State command, with this event.
abbrev pub count_after : (count : ℕ) → SysexEvent → ℕ
count_after count Kept = count + 1
count_after count ResetMessage = 0
count_after count Reset = 0
count_after count Other = count

abbrev pub count_step : (count : ℕ) → Sent → ℕ
count_step count place = count_after count (event_at place)
