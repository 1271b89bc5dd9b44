-- What a command does to one channel, whichever it is of.
use Rattle.std.proofs.Common.{◌≡◌, ℕ, ◌<◌, Bool, true, false, cond, ◌&&◌, eqb, leb, ◌+◌, ◌%◌, List, Option, Some, None, length, refl, inl, inr, arith}
use Rattle.std.proofs.lemmas.Bool.{cases_Bool}
use Rattle.jm_cmds.specs.declared.commands.Command.{Command}
use Rattle.jm_cmds.specs.declared.commands.Command.TheVariants.{NoteOff, NoteOn, PolyPressure, Control, Program, Pressure, Wheel, SystemReset, Sysex}
use Rattle.jm_cmds.specs.declared.param.Param.{Param}
use Rattle.jm_cmds.specs.Control.{is_reset_message}
use Rattle.jm_state.specs.declared.channel.ChannelState.{ChannelState}
use Rattle.jm_state.specs.declared.state.State.{State}
use Rattle.jm_state.specs.Parts.{no_channel, channel_of, with_sysex_count, half_put, note_put, poly_put}
use Rattle.jm_state.specs.Apply.{applied, sounding, message_counted, controlled, program_with, entered_by}
use Rattle.jm_state.specs.Says.{said, ended}
use Rattle.jm_state.specs.Kept.{IsState, of_channel, channel_put, no_channel_at}

-- the channel behind a command
abbrev pub channel_applied : ℕ → Command → ChannelState → ChannelState
channel_applied channel (NoteOff at note velocity) c = of_channel at channel (note_put note None) c
channel_applied channel (NoteOn at note velocity) c = of_channel at channel (note_put note (sounding velocity)) c
channel_applied channel (PolyPressure at note value) c = of_channel at channel (poly_put note (Some value)) c
channel_applied channel (Control at number value) c = of_channel at channel (controlled number value) c
channel_applied channel (Program at program) c = of_channel at channel (program_with program) c
channel_applied channel (Pressure at value) c = of_channel at channel (λ x. record x { pressure = Some value }) c
channel_applied channel (Wheel at first second) c = of_channel at channel (λ x. record x { wheel = Some (first, second) }) c
channel_applied channel SystemReset c = no_channel
channel_applied channel (Sysex octets) c = cond (is_reset_message octets) no_channel c
channel_applied channel command c = c

-- counting a message leaves each other part
pub message_left : {X : Type 0} (read : State → X) (s : State) (octets : List ℕ) → ((count : ℕ) → read (with_sysex_count s count) ≡ read s) → read (message_counted s octets) ≡ read s
message_left read s octets h =
    elim (cases_Bool (leb (length octets) 254)) [
      | inl t ↦ rw t (h ((s.sysex_count + 1) % 256))
      | inr f ↦ rw f refl
    ]

pub channel_after : (s : State) (command : Command) (channel : ℕ) → IsState s → channel < 16 → channel_of (applied s command) channel ≡ channel_applied channel command (channel_of s channel)
channel_after s (NoteOff at note velocity) channel is l = channel_put s.channels at channel (note_put note None) (omega (arith, l, is.sixteen))
channel_after s (NoteOn at note velocity) channel is l = channel_put s.channels at channel (note_put note (sounding velocity)) (omega (arith, l, is.sixteen))
channel_after s (PolyPressure at note value) channel is l = channel_put s.channels at channel (poly_put note (Some value)) (omega (arith, l, is.sixteen))
channel_after s (Control at number value) channel is l = channel_put s.channels at channel (controlled number value) (omega (arith, l, is.sixteen))
channel_after s (Program at program) channel is l = channel_put s.channels at channel (program_with program) (omega (arith, l, is.sixteen))
channel_after s (Pressure at value) channel is l = channel_put s.channels at channel (λ x. record x { pressure = Some value }) (omega (arith, l, is.sixteen))
channel_after s (Wheel at first second) channel is l = channel_put s.channels at channel (λ x. record x { wheel = Some (first, second) }) (omega (arith, l, is.sixteen))
channel_after s SystemReset channel is l = no_channel_at channel l
channel_after s (Sysex octets) channel is l =
    elim (cases_Bool (is_reset_message octets)) [
      | inl t ↦ rw t (no_channel_at channel l)
      | inr f ↦ rw f (message_left (λ x. channel_of x channel) s octets (λ count. refl))
    ]
channel_after s command channel is l = refl

-- ## A part of a channel

-- where a change says this of a part, a change of a channel says it where it is this channel
pub part_said : {X : Type 0} (read : ChannelState → Option X) (at channel : ℕ) (change : ChannelState → ChannelState) (c : ChannelState) (says : Option (Option X)) → read (change c) ≡ said says (read c) → read (of_channel at channel change c) ≡ said (cond (eqb at channel) says None) (read c)
part_said read at channel change c says h =
    elim (cases_Bool (eqb at channel)) [
      | inl t ↦ rw t h
      | inr f ↦ rw f refl
    ]

pub part_ended : {X : Type 0} (read : ChannelState → Option X) (at channel : ℕ) (change : ChannelState → ChannelState) (c : ChannelState) (b : Bool) → read (change c) ≡ said (ended b) (read c) → read (of_channel at channel change c) ≡ said (ended (eqb at channel && b)) (read c)
part_ended read at channel change c b h =
    elim (cases_Bool (eqb at channel)) [
      | inl t ↦ rw t h
      | inr f ↦ rw f refl
    ]

-- a change of other parts
pub part_left : {X : Type 0} (read : ChannelState → X) (at channel : ℕ) (change : ChannelState → ChannelState) (c : ChannelState) → read (change c) ≡ read c → read (of_channel at channel change c) ≡ read c
part_left read at channel change c h =
    elim (cases_Bool (eqb at channel)) [
      | inl t ↦ rw t h
      | inr f ↦ rw f refl
    ]

-- where a message is a Reset State command, the part is absent
pub part_reset : {X : Type 0} (read : ChannelState → Option X) (c : ChannelState) (b : Bool) → read no_channel ≡ None → read (cond b no_channel c) ≡ said (ended b) (read c)
part_reset read c true h = h
part_reset read c false h = refl

-- entering a parameter leaves each part but the parameters
pub entry_left : {X : Type 0} (read : ChannelState → X) (o : Option Param) (high : Bool) (value : ℕ) (c : ChannelState) → ((p : Param) → read (half_put high p (Some value) c) ≡ read c) → read (entered_by o high value c) ≡ read c
entry_left read None high value c h = refl
entry_left read (Some p) high value c h = h p
