-- The parts of a state: what is read of each, and the state with another value for one.
use Rattle.std.specs.Prelude.{ℕ, Bool, true, false, List, [], Option, Some, None, ◌==◌, if◌then◌else◌, slice_index_or, slice_set, replicate}
use Rattle.jm_cmds.specs.declared.controls.ControlKind.{ControlKind}
use Rattle.jm_cmds.specs.declared.controls.ControlKind.TheVariants.{Mode, Kept, Pedal as PedalKind, Plain}
use Rattle.jm_cmds.specs.declared.param.Param.{Param}
use Rattle.jm_cmds.specs.declared.pedal.Pedal.{Pedal}
use Rattle.jm_cmds.specs.declared.selection.Selection.{Selection as Selected}
use Rattle.jm_cmds.specs.declared.sequencing.SequencerPart.{SequencerPart}
use Rattle.jm_cmds.specs.declared.frames.TimePart.{TimePart}
use Rattle.jm_cmds.specs.Control.{control_kind}
use Rattle.jm_cmds.specs.Pedal.{is_on}
use Rattle.jm_state.specs.declared.channel.ProgramPart.{ProgramPart}
use Rattle.jm_state.specs.declared.channel.ChannelState.{ChannelState}
use Rattle.jm_state.specs.declared.entered.Halves.{Halves}
use Rattle.jm_state.specs.declared.entered.Entry.{Entry}
use Rattle.jm_state.specs.declared.state.State.{State}
use Rattle.jm_state.specs.Table.{no_values, value_at}
use Rattle.jm_state.specs.Entered.{halves_in, entered_with}

-- ## Nothing

abbrev pub no_channel : ChannelState
no_channel = record { program = None; controls = no_values; toggles = 0; selection = None; entered = []; wheel = None; notes = no_values; pressure = None; polys = no_values }

unfoldable pub no_channels : List ChannelState
no_channels = replicate 16 no_channel

-- the state in which all parts are absent
abbrev pub no_state : State
no_state = record { song = None; sequencer = None; time_code = None; sysex_count = 0; channels = no_channels }

-- ## A channel

abbrev pub nth_channel : List ChannelState → ℕ → ChannelState
nth_channel channels channel = slice_index_or channels channel no_channel

abbrev pub channel_of : State → ℕ → ChannelState
channel_of s channel = nth_channel s.channels channel

abbrev pub with_channel : State → ℕ → ChannelState → State
with_channel s channel state = record s { channels = slice_set s.channels channel state }

-- ## Controls

-- the other of two modes that are one part (RFC 6295, A.3.1)
abbrev pub pair_of : ℕ → ℕ
pair_of mode = if mode == 124 then 125 else (if mode == 125 then 124 else (if mode == 126 then 127 else 126))

-- what a control of this kind has where the table has this at its number
abbrev pub control_by : ControlKind → Option ℕ → Option ℕ
control_by (Mode number) value = value
control_by (Kept number) value = value
control_by PedalKind value = value
control_by (Plain number) value = value
control_by _ value = None

abbrev pub control_at : ChannelState → ℕ → Option ℕ
control_at c number = control_by (control_kind number) (value_at c.controls number)

-- the table with this value of a control of this kind: one of two modes that are one part takes the place of the other
abbrev pub controls_by : ControlKind → ℕ → Option ℕ → List (Option ℕ) → List (Option ℕ)
controls_by (Mode mode) number value controls = slice_set (slice_set controls (pair_of number) None) number value
controls_by (Kept kept) number value controls = slice_set controls number value
controls_by PedalKind number value controls = slice_set controls number value
controls_by (Plain plain) number value controls = slice_set controls number value
controls_by _ number value controls = controls

abbrev pub control_put : ℕ → Option ℕ → ChannelState → ChannelState
control_put number value c = record c { controls = controls_by (control_kind number) number value c.controls }

-- ## The pedal

-- It is down where Control 64 is there with a value of 64 to 127.
abbrev pub is_down : (pedal : Option ℕ) → Bool
is_down None = false
is_down (Some value) = is_on value

abbrev pub pedal_by : (toggles : ℕ) → (pedal : Option ℕ) → Pedal
pedal_by toggles pedal = record { on = is_down pedal; toggles = toggles }

-- the sustain pedal of a channel, by its toggles and Control 64
abbrev pub pedal_at : ChannelState → Pedal
pedal_at c = pedal_by c.toggles (control_at c 64)

-- ## Reads

abbrev pub song_of : State → Option ℕ
song_of s = s.song

abbrev pub sequencer_of : State → Option SequencerPart
sequencer_of s = s.sequencer

abbrev pub time_code_of : State → Option TimePart
time_code_of s = s.time_code

abbrev pub sysex_count_of : State → ℕ
sysex_count_of s = s.sysex_count

abbrev pub program_of : State → ℕ → Option ProgramPart
program_of s channel = (channel_of s channel).program

-- the value of a control: none of a number that has no part
abbrev pub control_of : State → (channel number : ℕ) → Option ℕ
control_of s channel number = control_at (channel_of s channel) number

abbrev pub toggles_of : State → ℕ → ℕ
toggles_of s channel = (channel_of s channel).toggles

abbrev pub pedal_of : State → ℕ → Pedal
pedal_of s channel = pedal_at (channel_of s channel)

abbrev pub selection_of : State → ℕ → Option Selected
selection_of s channel = (channel_of s channel).selection

-- the parameters that were entered, the one entered longest ago first
abbrev pub entered_of : State → ℕ → List Entry
entered_of s channel = (channel_of s channel).entered

abbrev pub param_of : State → (channel : ℕ) → (nrpn : Bool) → (high low : ℕ) → Halves
param_of s channel nrpn high low = halves_in (entered_of s channel) (record { nrpn = nrpn; high = high; low = low })

abbrev pub wheel_of : State → ℕ → Option (ℕ × ℕ)
wheel_of s channel = (channel_of s channel).wheel

abbrev pub note_of : State → (channel note : ℕ) → Option ℕ
note_of s channel note = value_at (channel_of s channel).notes note

abbrev pub pressure_of : State → ℕ → Option ℕ
pressure_of s channel = (channel_of s channel).pressure

abbrev pub poly_of : State → (channel note : ℕ) → Option ℕ
poly_of s channel note = value_at (channel_of s channel).polys note

-- ## With another value

abbrev pub with_song : State → Option ℕ → State
with_song s value = record s { song = value }

abbrev pub with_sequencer : State → Option SequencerPart → State
with_sequencer s value = record s { sequencer = value }

abbrev pub with_time_code : State → Option TimePart → State
with_time_code s value = record s { time_code = value }

abbrev pub with_sysex_count : State → ℕ → State
with_sysex_count s count = record s { sysex_count = count }

abbrev pub with_program : State → ℕ → Option ProgramPart → State
with_program s channel value = with_channel s channel (record (channel_of s channel) { program = value })

abbrev pub with_control : State → (channel number : ℕ) → (value : Option ℕ) → State
with_control s channel number value = with_channel s channel (control_put number value (channel_of s channel))

abbrev pub with_toggles : State → (channel count : ℕ) → State
with_toggles s channel count = with_channel s channel (record (channel_of s channel) { toggles = count })

abbrev pub with_selection : State → ℕ → Option Selected → State
with_selection s channel value = with_channel s channel (record (channel_of s channel) { selection = value })

-- a half of a parameter's value, as it is entered or taken away
abbrev pub half_put : Bool → Param → Option ℕ → ChannelState → ChannelState
half_put high p value c = record c { entered = entered_with high p value c.entered }

abbrev pub with_param_high : State → (channel : ℕ) → (nrpn : Bool) → (high low : ℕ) → (value : Option ℕ) → State
with_param_high s channel nrpn high low value =
    with_channel s channel (half_put true (record { nrpn = nrpn; high = high; low = low }) value (channel_of s channel))

abbrev pub with_param_low : State → (channel : ℕ) → (nrpn : Bool) → (high low : ℕ) → (value : Option ℕ) → State
with_param_low s channel nrpn high low value =
    with_channel s channel (half_put false (record { nrpn = nrpn; high = high; low = low }) value (channel_of s channel))

abbrev pub with_wheel : State → ℕ → Option (ℕ × ℕ) → State
with_wheel s channel value = with_channel s channel (record (channel_of s channel) { wheel = value })

abbrev pub note_put : ℕ → Option ℕ → ChannelState → ChannelState
note_put note value c = record c { notes = slice_set c.notes note value }

abbrev pub with_note : State → (channel note : ℕ) → (value : Option ℕ) → State
with_note s channel note value = with_channel s channel (note_put note value (channel_of s channel))

abbrev pub with_pressure : State → ℕ → Option ℕ → State
with_pressure s channel value = with_channel s channel (record (channel_of s channel) { pressure = value })

abbrev pub poly_put : ℕ → Option ℕ → ChannelState → ChannelState
poly_put note value c = record c { polys = slice_set c.polys note value }

abbrev pub with_poly : State → (channel note : ℕ) → (value : Option ℕ) → State
with_poly s channel note value = with_channel s channel (poly_put note value (channel_of s channel))
