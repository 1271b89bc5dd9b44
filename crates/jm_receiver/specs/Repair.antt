-- What the logs of a journal do to a state that missed packets.
use Rattle.std.specs.Prelude.{ℕ, ◌+◌, ◌-◌, ◌%◌, Bool, true, false, not, ◌&&◌, ◌||◌, List, Option, Some, None, fold, nat_le, if◌then◌else◌}
use Rattle.std.specs.List.{list_any}
use Rattle.jm_cmds.specs.declared.commands.Command.{Command}
use Rattle.jm_cmds.specs.Control.{is_reset_message}
use Rattle.jm_reader.specs.declared.logs.Log.{Log}
use Rattle.jm_reader.specs.declared.logs.LogKind.{LogKind}
use Rattle.jm_reader.specs.declared.logs.LogKind.TheVariants.{Reset, Song, Sequencer, TimeCode, Sysex, Program, Param, Toggle}
use Rattle.jm_state.specs.declared.state.State.{State}
use Rattle.jm_state.specs.Parts.{no_state, with_song, with_sequencer, with_time_code, with_sysex_count, with_program, with_toggles, with_param_high, with_param_low}
use Rattle.jm_state.specs.Apply.{applied}
use Rattle.jm_receiver.specs.declared.group.Group.{Group}
use Rattle.jm_receiver.specs.Group.{is_of, command_of, all_groups, all_channels}

-- ## The whole session

-- A log of a System Reset, or of a message that is a Reset State command.
abbrev pub is_reset_log : LogKind → Bool
is_reset_log (Reset count) = true
is_reset_log (Sysex count octets) = is_reset_message octets
is_reset_log _ = false

abbrev pub has_reset : List Log → Bool
has_reset logs = list_any (λ log. is_reset_log log.what) logs

-- where a reset is in the list all parts are absent
abbrev pub cleared : List Log → State → State
cleared logs s = if has_reset logs then no_state else s

-- how many messages a log's number is ahead of the number that the state had before, modulo 256
abbrev pub messages_ahead : (before count : ℕ) → ℕ
messages_ahead before count = (count + 256 - before) % 256

abbrev pub is_ahead : (before count : ℕ) → Bool
is_ahead before count = nat_le 1 (messages_ahead before count) && nat_le (messages_ahead before count) 128

-- The log has a message that the state still has to count: where a reset is in the list each, else one whose number is 1 to
-- 128 ahead of the number that the state had before.
abbrev pub counts : (reset : Bool) → (before : ℕ) → LogKind → Bool
counts reset before (Sysex count octets) = not (is_reset_message octets) && (reset || is_ahead before count)
counts reset before _ = false

-- the state with the message of a log, where it counts
abbrev pub with_message : (reset : Bool) → (before : ℕ) → State → Log → State
with_message reset before s log =
    if counts reset before log.what then with_sysex_count s ((s.sysex_count + 1) % 256) else s

abbrev pub messages_repaired : List Log → State → State
messages_repaired logs s = fold (with_message (has_reset logs) s.sysex_count) s logs

-- The state with the part of the whole session that a log has. A song position has 19 bits, and the type of a quarter frame
-- three.
abbrev pub with_session_log : State → LogKind → State
with_session_log s (Song song) = with_song s (Some song)
with_session_log s (Sequencer running downbeat position) =
    with_sequencer s (Some (record { running = running; downbeat = downbeat; position = position % 524288 }))
with_session_log s (TimeCode complete partial backward point) =
    with_time_code s (Some (record { complete = complete; partial = partial; backward = backward; point = point % 8 }))
with_session_log s _ = s

abbrev pub session_repaired : List Log → State → State
session_repaired logs s = fold (λ s log. with_session_log s log.what) s logs

-- ## A channel

-- the state behind a command, if there is one
abbrev pub applied_if : State → Option Command → State
applied_if s None = s
applied_if s (Some command) = applied s command

-- The halves that a log has are entered. The selection stays.
abbrev pub high_entered : State → (channel : ℕ) → (nrpn : Bool) → (high low : ℕ) → Option ℕ → State
high_entered s channel nrpn high low None = s
high_entered s channel nrpn high low (Some value) = with_param_high s channel nrpn high low (Some value)

abbrev pub low_entered : State → (channel : ℕ) → (nrpn : Bool) → (high low : ℕ) → Option ℕ → State
low_entered s channel nrpn high low None = s
low_entered s channel nrpn high low (Some value) = with_param_low s channel nrpn high low (Some value)

-- the state with what the log of a channel has: toggles are set, whatever they were, and are below 64
abbrev pub with_channel_log : State → LogKind → State
with_channel_log s (Program channel program bank) = with_program s channel (Some (record { program = program; bank = bank }))
with_channel_log s (Param channel nrpn high low entry_high entry_low) =
    low_entered (high_entered s channel nrpn high low entry_high) channel nrpn high low entry_low
with_channel_log s (Toggle channel count) = with_toggles s channel (count % 64)
with_channel_log s log = applied_if s (command_of log)

-- the same, where it is of this group and channel
abbrev pub with_log_of : Group → ℕ → State → Log → State
with_log_of group channel s log = if is_of group channel log.what then with_channel_log s log.what else s

-- each group of a channel by itself, for laws
unfoldable pub group_repaired : List Log → ℕ → State → Group → State
group_repaired logs channel s group = fold (with_log_of group channel) s logs

unfoldable pub channel_repaired : List Log → State → ℕ → State
channel_repaired logs s channel = fold (group_repaired logs channel) s all_groups

-- ## All

-- the state after repair by these logs
unfoldable pub repaired : State → List Log → State
repaired s logs = fold (channel_repaired logs) (session_repaired logs (messages_repaired logs (cleared logs s))) all_channels
