-- What a command does to a state.
use Rattle.std.specs.Prelude.{ℕ, ◌+◌, ◌%◌, Bool, List, [], ◌∷◌, Option, Some, None, fold, ◌==◌, if◌then◌else◌}
use Rattle.jm_cmds.specs.declared.commands.Command.{Command}
use Rattle.jm_cmds.specs.declared.commands.Command.TheVariants.{NoteOff, NoteOn, PolyPressure, Control, Program, Pressure, Wheel, QuarterFrame, SongPosition, SongSelect, TuneRequest, Clock, Start, Continue, Stop, ActiveSensing, SystemReset, Sysex}
use Rattle.jm_cmds.specs.declared.controls.ControlKind.{ControlKind}
use Rattle.jm_cmds.specs.declared.controls.ControlKind.TheVariants as kinds
use Rattle.jm_cmds.specs.declared.param.Param.{Param}
use Rattle.jm_cmds.specs.declared.selection.Selection.{Selection}
use Rattle.jm_cmds.specs.declared.pedal.PedalEvent.TheVariants.{Moved}
use Rattle.jm_cmds.specs.Control.{control_kind, is_reset_message}
use Rattle.jm_cmds.specs.Data.{is_kept_message}
use Rattle.jm_cmds.specs.Pedal.{is_on, pedal_step}
use Rattle.jm_cmds.specs.Selection.{no_selection, selection_with, selected_param}
use Rattle.jm_cmds.specs.Sequencing.{sequencer_event, sequencer_step}
use Rattle.jm_cmds.specs.Frames.{frame_event, time_code_step}
use Rattle.jm_state.specs.declared.channel.ChannelState.{ChannelState}
use Rattle.jm_state.specs.declared.state.State.{State}
use Rattle.jm_state.specs.Table.{no_values, value_at, keep_value}
use Rattle.jm_state.specs.Parts.{no_state, channel_of, with_channel, control_put, pedal_at, half_put, with_song, with_sequencer, with_time_code, with_sysex_count, with_wheel, with_note, with_pressure, with_poly}

-- ## A channel

-- The bank that is set with a program (RFC 6295, A.2): Controls 0 and 32. There is none without Control 0, and an
-- absent Control 32 counts as 0.
abbrev pub bank_by : (high low : Option ℕ) → Option (ℕ × ℕ)
bank_by None low = None
bank_by (Some high) None = Some (high, 0)
bank_by (Some high) (Some low) = Some (high, low)

abbrev pub program_with : ℕ → ChannelState → ChannelState
program_with program c =
    record c { program = Some (record { program = program; bank = bank_by (value_at c.controls 0) (value_at c.controls 32) }) }

-- Control 121 leaves only controls 0, 32, 122 and 124 to 127.
unfoldable pub controls_left : List (Option ℕ) → List (Option ℕ)
controls_left controls = fold (keep_value controls) no_values (0 ∷ 32 ∷ 122 ∷ 124 ∷ 125 ∷ 126 ∷ 127 ∷ [])

-- all notes end, and with them the pressure
abbrev pub silenced : ChannelState → ChannelState
silenced c = record c { notes = no_values; pressure = None }

-- Control 121
abbrev pub controllers_reset : ChannelState → ChannelState
controllers_reset c =
    record c { controls = controls_left c.controls; toggles = 0; selection = None; wheel = None; pressure = None; polys = no_values }

-- Control 64 moves the pedal: the toggles count where it goes up or down.
abbrev pub pedal_moved : (value : ℕ) → ChannelState → ChannelState
pedal_moved value c = record c { toggles = (pedal_step (pedal_at c) (Moved (is_on value))).toggles }

-- what a half of a selection is added to
abbrev pub selection_from : Option Selection → Selection
selection_from None = no_selection
selection_from (Some s) = s

-- the parameter that is selected
abbrev pub selected_by : Option Selection → Option Param
selected_by None = None
selected_by (Some s) = selected_param s

abbrev pub entered_by : Option Param → Bool → ℕ → ChannelState → ChannelState
entered_by None high value c = c
entered_by (Some p) high value c = half_put high p (Some value) c

-- Controls 6 and 38 enter a half of the selected parameter.
abbrev pub half_entered : Bool → ℕ → ChannelState → ChannelState
half_entered high value c = entered_by (selected_by c.selection) high value c

-- Controls 98 to 101 set a half of the selection, and its kind.
abbrev pub half_selected : (nrpn high : Bool) → ℕ → ChannelState → ChannelState
half_selected nrpn high value c = record c { selection = Some (selection_with nrpn high value (selection_from c.selection)) }

-- a controller of this kind and number takes a value
abbrev pub controlled_by : ControlKind → (number value : ℕ) → ChannelState → ChannelState
controlled_by (kinds.DataEntry high) number value c = half_entered high value c
controlled_by (kinds.Selection nrpn high) number value c = half_selected nrpn high value c
controlled_by (kinds.Increment n) number value c = c
controlled_by (kinds.Silence n) number value c = silenced c
controlled_by kinds.ResetControllers number value c = controllers_reset c
controlled_by (kinds.Mode n) number value c = control_put number (Some value) (silenced c)
controlled_by (kinds.Kept n) number value c = control_put number (Some value) c
controlled_by kinds.Pedal number value c = control_put number (Some value) (pedal_moved value c)
controlled_by (kinds.Plain n) number value c = control_put number (Some value) c

abbrev pub controlled : (number value : ℕ) → ChannelState → ChannelState
controlled number value c = controlled_by (control_kind number) number value c

-- ## The state

-- a NoteOn of velocity 0 counts as a NoteOff
abbrev pub sounding : ℕ → Option ℕ
sounding velocity = if velocity == 0 then None else Some velocity

-- A System Exclusive message is counted modulo 256 where it is kept for repair.
abbrev pub message_counted : State → List ℕ → State
message_counted s octets = if is_kept_message octets then with_sysex_count s ((s.sysex_count + 1) % 256) else s

-- But where it is a Reset State command, all parts are absent.
abbrev pub message_applied : State → List ℕ → State
message_applied s octets = if is_reset_message octets then no_state else message_counted s octets

abbrev pub sequenced : State → Command → State
sequenced s command = with_sequencer s (sequencer_step s.sequencer (sequencer_event command))

-- the song position and the time code behind this command
abbrev pub run_on : State → Command → State
run_on s command =
    record s { sequencer = sequencer_step s.sequencer (sequencer_event command); time_code = time_code_step s.time_code (frame_event command) }

-- the state behind this command
abbrev pub applied : State → Command → State
applied s (NoteOff channel note velocity) = with_note s channel note None
applied s (NoteOn channel note velocity) = with_note s channel note (sounding velocity)
applied s (PolyPressure channel note value) = with_poly s channel note (Some value)
applied s (Control channel number value) = with_channel s channel (controlled number value (channel_of s channel))
applied s (Program channel program) = with_channel s channel (program_with program (channel_of s channel))
applied s (Pressure channel value) = with_pressure s channel (Some value)
applied s (Wheel channel first second) = with_wheel s channel (Some (first, second))
applied s (QuarterFrame value) = with_time_code s (time_code_step s.time_code (frame_event (QuarterFrame value)))
applied s (SongPosition value) = sequenced s (SongPosition value)
applied s (SongSelect song) = with_song s (Some song)
applied s TuneRequest = s
applied s Clock = sequenced s Clock
applied s Start = sequenced s Start
applied s Continue = sequenced s Continue
applied s Stop = sequenced s Stop
applied s ActiveSensing = s
applied s SystemReset = no_state
applied s (Sysex octets) = message_applied s octets
