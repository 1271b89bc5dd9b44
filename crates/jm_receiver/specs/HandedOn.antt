-- What repair hands on. The state of a hearing is here the listener's: each command that is handed on is applied to it.
use Rattle.std.specs.Prelude.{ℕ, Bool, true, false, ◌&&◌, List, length, Option, Some, None, fold, eqb, if◌then◌else◌}
use Rattle.std.specs.Option.{option_eq}
use Rattle.jm_cmds.specs.declared.commands.Command.{Command}
use Rattle.jm_cmds.specs.declared.commands.Command.TheVariants as commands
use Rattle.jm_cmds.specs.declared.selection.Selection.{Selection}
use Rattle.jm_cmds.specs.Control.{is_reset_message}
use Rattle.jm_reader.specs.declared.logs.Log.{Log}
use Rattle.jm_reader.specs.declared.logs.LogKind.{LogKind}
use Rattle.jm_reader.specs.declared.logs.LogKind.TheVariants.{Reset, Song, Sysex, Program, Param, Toggle, NoteOn}
use Rattle.jm_state.specs.declared.state.State.{State}
use Rattle.jm_state.specs.declared.channel.ProgramPart.{ProgramPart}
use Rattle.jm_state.specs.declared.entered.Halves.{Halves}
use Rattle.jm_state.specs.Parts.{program_of, control_of, selection_of, param_of}
use Rattle.jm_state.specs.Apply.{applied}
use Rattle.jm_state.specs.Sameness.{same_states}
use Rattle.jm_receiver.specs.declared.heard.HeardKind.{HeardKind}
use Rattle.jm_receiver.specs.declared.heard.HeardKind.TheVariants.{Repaired, Late}
use Rattle.jm_receiver.specs.declared.heard.Hearing.{Hearing}
use Rattle.jm_receiver.specs.declared.group.Group.{Group}
use Rattle.jm_receiver.specs.declared.group.Group.TheVariants.{Programs, Params, Controls, Wheels, Released, Struck, Pressures, Polys}
use Rattle.jm_receiver.specs.Group.{is_of, command_of, all_channels}
use Rattle.jm_receiver.specs.Repair.{has_reset, counts}
use Rattle.jm_receiver.specs.Heard.{heard_also}

-- ## Handing on

-- The command is handed on, unless it leaves the listener's state as it is.
unfoldable pub handed_on_if_new : Hearing → Command → HeardKind → Hearing
handed_on_if_new h command kind = if same_states (applied h.state command) h.state then h else heard_also h command kind

-- The command is handed on, whether or not it changes the listener's state.
unfoldable pub handed_on : Hearing → Command → Hearing
handed_on h command = heard_also h command Repaired

abbrev pub control_handed_on : Hearing → (channel number value : ℕ) → Hearing
control_handed_on h channel number value = handed_on h (commands.Control channel number value)

abbrev pub half_handed_on : Hearing → (channel number : ℕ) → Option ℕ → Hearing
half_handed_on h channel number None = h
half_handed_on h channel number (Some value) = control_handed_on h channel number value

-- ## The whole session

-- the command of a log that makes all parts absent
abbrev pub reset_handed_on : Hearing → LogKind → Hearing
reset_handed_on h (Reset count) = handed_on_if_new h commands.SystemReset Repaired
reset_handed_on h (Sysex count octets) = if is_reset_message octets then handed_on_if_new h (commands.Sysex octets) Repaired else h
reset_handed_on h _ = h

unfoldable pub resets_handed_on : List Log → Hearing → Hearing
resets_handed_on logs h = fold (λ h log. reset_handed_on h log.what) h logs

-- the message of a log, whether or not it changes the listener's state
abbrev pub message_handed_on : Hearing → LogKind → Hearing
message_handed_on h (Sysex count octets) = handed_on h (commands.Sysex octets)
message_handed_on h _ = h

-- where it counts
abbrev pub message_handed_on_if_counting : (reset : Bool) → (before : ℕ) → Hearing → Log → Hearing
message_handed_on_if_counting reset before h log = if counts reset before log.what then message_handed_on h log.what else h

unfoldable pub messages_handed_on : List Log → Hearing → Hearing
messages_handed_on logs h = fold (message_handed_on_if_counting (has_reset logs) h.state.sysex_count) h logs

-- Song position and time code hand on nothing.
abbrev pub song_handed_on : Hearing → LogKind → Hearing
song_handed_on h (Song song) = handed_on_if_new h (commands.SongSelect song) Repaired
song_handed_on h _ = h

unfoldable pub songs_handed_on : List Log → Hearing → Hearing
songs_handed_on logs h = fold (λ h log. song_handed_on h log.what) h logs

-- ## A program

abbrev pub bank_is : (a b : Option (ℕ × ℕ)) → Bool
bank_is None None = true
bank_is (Some a) (Some b) = eqb a.0 b.0 && eqb a.1 b.1
bank_is _ _ = false

abbrev pub program_is : Option ProgramPart → (program : ℕ) → (bank : Option (ℕ × ℕ)) → Bool
program_is None program bank = false
program_is (Some part) program bank = eqb part.program program && bank_is part.bank bank

-- an absent Control 32 counts as 0
abbrev pub value_or_zero : Option ℕ → ℕ
value_or_zero None = 0
value_or_zero (Some value) = value

abbrev pub low_bank_handed_on_if_new : Hearing → (channel low : ℕ) → Hearing
low_bank_handed_on_if_new h channel low =
    if eqb (value_or_zero (control_of h.state channel 32)) low then h else control_handed_on h channel 32 low

-- Control 0, and Control 32 where it isn't there yet
abbrev pub bank_handed_on : Hearing → ℕ → Option (ℕ × ℕ) → Hearing
bank_handed_on h channel None = h
bank_handed_on h channel (Some bank) = low_bank_handed_on_if_new (control_handed_on h channel 0 bank.0) channel bank.1

unfoldable pub program_handed_on_if_new : Hearing → (channel program : ℕ) → Option (ℕ × ℕ) → Hearing
program_handed_on_if_new h channel program bank =
    if program_is (program_of h.state channel) program bank then h
    else handed_on (bank_handed_on h channel bank) (commands.Program channel program)

-- ## A parameter

abbrev pub half_is : (held coded : Option ℕ) → Bool
half_is held None = true
half_is held (Some value) = option_eq eqb held (Some value)

abbrev pub halves_are : Halves → (entry_high entry_low : Option ℕ) → Bool
halves_are h entry_high entry_low = half_is h.entry_high entry_high && half_is h.entry_low entry_low

-- the two controls that select it, high half first, and then the halves of its value
abbrev pub param_handed_on : Hearing → (channel : ℕ) → (nrpn : Bool) → (high low : ℕ) → (entry_high entry_low : Option ℕ) → Hearing
param_handed_on h channel nrpn high low entry_high entry_low =
    half_handed_on (half_handed_on (control_handed_on (control_handed_on h channel (if nrpn then 99 else 101) high) channel (if nrpn then 98 else 100) low) channel 6 entry_high) channel 38 entry_low

unfoldable pub param_handed_on_if_new : Hearing → (channel : ℕ) → (nrpn : Bool) → (high low : ℕ) → (entry_high entry_low : Option ℕ) → Hearing
param_handed_on_if_new h channel nrpn high low entry_high entry_low =
    if halves_are (param_of h.state channel nrpn high low) entry_high entry_low then h
    else param_handed_on h channel nrpn high low entry_high entry_low

-- ## A selection

abbrev pub rpn_handed_on : Hearing → ℕ → Selection → Hearing
rpn_handed_on h channel s = half_handed_on (half_handed_on h channel 101 s.rpn_high) channel 100 s.rpn_low

abbrev pub nrpn_handed_on : Hearing → ℕ → Selection → Hearing
nrpn_handed_on h channel s = half_handed_on (half_handed_on h channel 99 s.nrpn_high) channel 98 s.nrpn_low

-- The halves that are there: those of the kind that is selected come last.
unfoldable pub selection_handed_on : Hearing → ℕ → Option Selection → Hearing
selection_handed_on h channel None = h
selection_handed_on h channel (Some s) =
    if s.nrpn then nrpn_handed_on (rpn_handed_on h channel s) channel s else rpn_handed_on (nrpn_handed_on h channel s) channel s

-- Where parameters were handed on, and so more was heard after them than before, the selection of the repaired state follows.
abbrev pub selection_handed_on_after_params : (before after : ℕ) → Hearing → (channel : ℕ) → Option Selection → Hearing
selection_handed_on_after_params before after h channel selection = if eqb before after then h else selection_handed_on h channel selection

-- ## A channel

-- A struck note that is no longer worth playing is late.
abbrev pub kind_of : LogKind → HeardKind
kind_of (NoteOn channel note velocity soon) = if soon then Repaired else Late
kind_of _ = Repaired

abbrev pub command_handed_on_if_new : Hearing → Option Command → HeardKind → Hearing
command_handed_on_if_new h None kind = h
command_handed_on_if_new h (Some command) kind = handed_on_if_new h command kind

-- What a log of a channel hands on. Toggles, of which no command can tell, hand on nothing.
abbrev pub log_handed_on : Hearing → LogKind → Hearing
log_handed_on h (Program channel program bank) = program_handed_on_if_new h channel program bank
log_handed_on h (Param channel nrpn high low entry_high entry_low) = param_handed_on_if_new h channel nrpn high low entry_high entry_low
log_handed_on h (Toggle channel count) = h
log_handed_on h log = command_handed_on_if_new h (command_of log) (kind_of log)

abbrev pub log_handed_on_of : Group → ℕ → Hearing → Log → Hearing
log_handed_on_of group channel h log = if is_of group channel log.what then log_handed_on h log.what else h

unfoldable pub group_handed_on : List Log → ℕ → Hearing → Group → Hearing
group_handed_on logs channel h group = fold (log_handed_on_of group channel) h logs

-- parameters and controllers, and then the selection
unfoldable pub controls_handed_on : List Log → State → ℕ → Hearing → Hearing
controls_handed_on logs repaired channel h =
    let entered = group_handed_on logs channel h Params in
    selection_handed_on_after_params (length h.heard) (length entered.heard) (group_handed_on logs channel entered Controls) channel (selection_of repaired channel)

unfoldable pub channel_handed_on : List Log → State → Hearing → ℕ → Hearing
channel_handed_on logs repaired h channel =
    group_handed_on logs channel (group_handed_on logs channel (group_handed_on logs channel (group_handed_on logs channel (group_handed_on logs channel
    (controls_handed_on logs repaired channel (group_handed_on logs channel h Programs)) Wheels) Released) Struck) Pressures) Polys

-- ## All

-- what is handed on by repair with these logs, of which this is the repaired state
unfoldable pub repair_handed_on : List Log → State → Hearing → Hearing
repair_handed_on logs repaired h = fold (channel_handed_on logs repaired) (songs_handed_on logs (messages_handed_on logs (resets_handed_on logs h))) all_channels
