-- What the laws of repair say.
use Rattle.std.specs.Prelude.{◌≡◌, ℕ, ◌<◌, Bool, List, ◌++◌, None, Ok}
use Rattle.jm_state.specs.declared.state.State.{State}
use Rattle.jm_state.specs.Parts.{no_state, song_of, sequencer_of, time_code_of, program_of, control_of, toggles_of, selection_of, param_of, wheel_of, note_of, pressure_of, poly_of}
use Rattle.jm_state.specs.ReplayLaws.{state_behind}
use Rattle.jm_cmds.specs.declared.history.Sent.{Sent}
use Rattle.jm_reader.specs.declared.logs.Log.{Log}
use Rattle.jm_receiver.specs.declared.receiver.Took.{Took}
use Rattle.jm_receiver.specs.Receiver.{Received}
use Rattle.jm_receiver.specs.Accept.{accepted}
use Rattle.jm_receiver.specs.Repair.{repaired}
use Rattle.jm_receiver.specs.Repairs.{Repairs}
use Rattle.jm_receiver.specs.KnownLaw.{RepairsCommands}
use Rattle.jm_receiver.specs.FreshLogs.{FreshRepairs, FreshRepairsCommands, FreshRepairsMessages}
use Rattle.jm_receiver.specs.FreshParams.{FreshRepairsFew}
use Rattle.jm_receiver.specs.MessageLaw.{RepairsMessages}
use Rattle.jm_receiver.specs.ParamLaw.{RepairsFew}
use Rattle.jm_receiver.specs.Whole.{IsWhole, IsReceived}
use Rattle.jm_receiver.specs.Agreement.{Agrees}

-- the program of each channel, with the bank that it was chosen with
abbrev pub ProgramsAreRepaired : Type 0
ProgramsAreRepaired = (channel : ℕ) → channel < 16 → Repairs (λ s. program_of s channel)

-- the value of each control of a channel
abbrev pub ControlsAreRepaired : Type 0
ControlsAreRepaired = (channel control : ℕ) → channel < 16 → control < 128 → Repairs (λ s. control_of s channel control)

-- the wheel of each channel
abbrev pub WheelsAreRepaired : Type 0
WheelsAreRepaired = (channel : ℕ) → channel < 16 → Repairs (λ s. wheel_of s channel)

-- whether each note of a channel sounds, and with which velocity
abbrev pub NotesAreRepaired : Type 0
NotesAreRepaired = (channel note : ℕ) → channel < 16 → note < 128 → Repairs (λ s. note_of s channel note)

-- the pressure of each channel, and that of each of its keys
pub record PressuresAreRepaired : Type 0 where
  pub channel : (channel : ℕ) → channel < 16 → Repairs (λ s. pressure_of s channel)
  pub key : (channel note : ℕ) → channel < 16 → note < 128 → Repairs (λ s. poly_of s channel note)

abbrev pub SongIsRepaired : Type 0
SongIsRepaired = Repairs song_of

-- the commands being within their bounds
abbrev pub SequencerIsRepaired : Type 0
SequencerIsRepaired = RepairsCommands sequencer_of

abbrev pub TimeCodeIsRepaired : Type 0
TimeCodeIsRepaired = RepairsCommands time_code_of

-- how often each channel's sustain pedal was moved
abbrev pub TogglesAreRepaired : Type 0
TogglesAreRepaired = (channel : ℕ) → channel < 16 → Repairs (λ s. toggles_of s channel)

-- the selection of each channel: its four halves, and of which kind the last one was
abbrev pub SelectionsAreRepaired : Type 0
SelectionsAreRepaired = (channel : ℕ) → channel < 16 → Repairs (λ s. selection_of s channel)

-- Where just one packet was lost, the fresh logs alone repair each of these parts.
pub record FreshLogsRepair : Type 0 where
  pub program : (channel : ℕ) → channel < 16 → FreshRepairs (λ s. program_of s channel)
  pub control : (channel control : ℕ) → channel < 16 → control < 128 → FreshRepairs (λ s. control_of s channel control)
  pub toggles : (channel : ℕ) → channel < 16 → FreshRepairs (λ s. toggles_of s channel)
  pub selection : (channel : ℕ) → channel < 16 → FreshRepairs (λ s. selection_of s channel)
  pub wheel : (channel : ℕ) → channel < 16 → FreshRepairs (λ s. wheel_of s channel)
  pub note : (channel note : ℕ) → channel < 16 → note < 128 → FreshRepairs (λ s. note_of s channel note)
  pub pressure : (channel : ℕ) → channel < 16 → FreshRepairs (λ s. pressure_of s channel)
  pub poly : (channel note : ℕ) → channel < 16 → note < 128 → FreshRepairs (λ s. poly_of s channel note)
  pub song : FreshRepairs song_of
  pub sequencer : FreshRepairsCommands sequencer_of
  pub time_code : FreshRepairsCommands time_code_of
  -- where the journal has at most 128 logs of messages
  pub messages : FreshRepairsMessages
  -- where at most 16 different parameters were entered in the channel since the last Reset State command
  pub param : (channel : ℕ) (nrpn : Bool) (high low : ℕ) → channel < 16 → FreshRepairsFew channel (λ s. param_of s channel nrpn high low)

-- the number of System Exclusive messages since the last Reset State command, where a journal has at most 128 of their logs
abbrev pub MessagesAreRepaired : Type 0
MessagesAreRepaired = RepairsMessages

-- both halves of each parameter of a channel, where at most 16 different ones were entered in it since the last Reset State command
abbrev pub ParametersAreRepaired : Type 0
ParametersAreRepaired = (channel : ℕ) (nrpn : Bool) (high low : ℕ) → channel < 16 → RepairsFew channel (λ s. param_of s channel nrpn high low)

-- A receiver is whole as it begins, each packet that it takes leaves it so, and so does repair by any logs.
pub record ReceiversStayWhole : Type 0 where
  pub begins : (ssrc : ℕ) → IsReceived (record { ssrc = ssrc; last = None; state = no_state; unfinished = None })
  pub takes : (r : Received) (octets : List ℕ) (after : Received) (took : Took) → IsReceived r → accepted r octets ≡ Ok (after, took) → IsReceived after
  pub repairs : (s : State) (logs : List Log) → IsWhole s → IsWhole (repaired s logs)

-- The same commands leave a whole state that agrees with the session before them one that agrees with the session behind them.
abbrev pub CommandsKeepAgreement : Type 0
CommandsKeepAgreement = (before after : List Sent) (s : State) → IsWhole s → Agrees s before → Agrees (state_behind s after) (before ++ after)
