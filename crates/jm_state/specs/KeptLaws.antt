-- Each command keeps the 16 channels of a state, and the places of their tables.
use Rattle.std.proofs.Common.{◌≡◌, ℕ, eqb, List, Option, Some, None, length, set, refl, ◌∙◌, inl, inr, arith}
use Rattle.std.proofs.lemmas.Bool.{cases_Bool}
use Rattle.std.proofs.lemmas.List.{length-set}
use Rattle.jm_cmds.specs.declared.commands.Command.{Command}
use Rattle.jm_cmds.specs.declared.commands.Command.TheVariants.{NoteOff, NoteOn, PolyPressure, Control, Program, Pressure, Wheel, SystemReset, Sysex}
use Rattle.jm_cmds.specs.declared.controls.ControlKind.{ControlKind}
use Rattle.jm_cmds.specs.declared.controls.ControlKind.TheVariants as kinds
use Rattle.jm_cmds.specs.Control.{control_kind, is_reset_message}
use Rattle.jm_state.specs.declared.channel.ChannelState.{ChannelState}
use Rattle.jm_state.specs.declared.state.State.{State}
use Rattle.jm_state.specs.Table.{value_at, keep_value}
use Rattle.jm_state.specs.Parts.{no_state, no_channel, channel_of, with_channel, controls_by, control_put, pair_of, note_put, poly_put}
use Rattle.jm_state.specs.Apply.{applied, sounding, controls_left, controlled, controlled_by, pedal_moved, program_with, selected_by}
use Rattle.jm_state.specs.Kept.{IsState, IsChannel, length-no_values, length-no_channels, no_channel_at, of_channel, channel_put}
use Rattle.jm_state.specs.ChannelLaws.{channel_applied, channel_after, message_left, entry_left}

pub no_channel_is : IsChannel no_channel
no_channel_is = record { controls = length-no_values; notes = length-no_values; polys = length-no_values }

pub no_state_is : IsState no_state
no_state_is = record {
  sixteen = length-no_channels;
  channels = λ channel l. rw (no_channel_at channel l) no_channel_is;
}

length-controls_left : (controls : List (Option ℕ)) → length (controls_left controls) ≡ 128
unfolding controls_left
length-controls_left controls =
    let one : (left : List (Option ℕ)) (k : ℕ) → length left ≡ 128 → length (keep_value controls left k) ≡ 128 = λ left k h. length-set left k (value_at controls k) ∙ h in
    one _ 127 (one _ 126 (one _ 125 (one _ 124 (one _ 122 (one _ 32 (one _ 0 length-no_values))))))

length-controls_by : (kind : ControlKind) (number : ℕ) (value : Option ℕ) (controls : List (Option ℕ)) → length (controls_by kind number value controls) ≡ length controls
length-controls_by (kinds.Mode n) number value controls = length-set (set controls (pair_of number) None) number value ∙ length-set controls (pair_of number) None
length-controls_by (kinds.Kept n) number value controls = length-set controls number value
length-controls_by kinds.Pedal number value controls = length-set controls number value
length-controls_by (kinds.Plain n) number value controls = length-set controls number value
length-controls_by kind number value controls = refl

pub control_put_is : (number : ℕ) (value : Option ℕ) (c : ChannelState) → IsChannel c → IsChannel (control_put number value c)
control_put_is number value c is = record {
  controls = length-controls_by (control_kind number) number value c.controls ∙ is.controls;
  notes = is.notes;
  polys = is.polys;
}

pub note_put_is : (note : ℕ) (value : Option ℕ) (c : ChannelState) → IsChannel c → IsChannel (note_put note value c)
note_put_is note value c is = record { controls = is.controls; notes = length-set c.notes note value ∙ is.notes; polys = is.polys }

pub poly_put_is : (note : ℕ) (value : Option ℕ) (c : ChannelState) → IsChannel c → IsChannel (poly_put note value c)
poly_put_is note value c is = record { controls = is.controls; notes = is.notes; polys = length-set c.polys note value ∙ is.polys }

controlled_is : (kind : ControlKind) (number value : ℕ) (c : ChannelState) → IsChannel c → IsChannel (controlled_by kind number value c)
controlled_is (kinds.DataEntry high) number value c is = record {
  controls = entry_left (λ x. length x.controls) (selected_by c.selection) high value c (λ p. refl) ∙ is.controls;
  notes = entry_left (λ x. length x.notes) (selected_by c.selection) high value c (λ p. refl) ∙ is.notes;
  polys = entry_left (λ x. length x.polys) (selected_by c.selection) high value c (λ p. refl) ∙ is.polys;
}
controlled_is (kinds.Selection nrpn high) number value c is = record { controls = is.controls; notes = is.notes; polys = is.polys }
controlled_is (kinds.Increment n) number value c is = is
controlled_is (kinds.Silence n) number value c is = record { controls = is.controls; notes = length-no_values; polys = is.polys }
controlled_is kinds.ResetControllers number value c is = record { controls = length-controls_left c.controls; notes = is.notes; polys = length-no_values }
controlled_is (kinds.Mode n) number value c is = record {
  controls = length-controls_by (control_kind number) number (Some value) c.controls ∙ is.controls;
  notes = length-no_values;
  polys = is.polys;
}
controlled_is (kinds.Kept n) number value c is = control_put_is number (Some value) c is
controlled_is kinds.Pedal number value c is =
    control_put_is number (Some value) (pedal_moved value c) (record { controls = is.controls; notes = is.notes; polys = is.polys })
controlled_is (kinds.Plain n) number value c is = control_put_is number (Some value) c is

of_channel_is : (at channel : ℕ) (change : ChannelState → ChannelState) (c : ChannelState) → IsChannel c → IsChannel (change c) → IsChannel (of_channel at channel change c)
of_channel_is at channel change c old new =
    elim (cases_Bool (eqb at channel)) [
      | inl t ↦ rw t new
      | inr f ↦ rw f old
    ]

applied_is : (channel : ℕ) (command : Command) (c : ChannelState) → IsChannel c → IsChannel (channel_applied channel command c)
applied_is channel (NoteOff at note velocity) c is = of_channel_is at channel (note_put note None) c is (note_put_is note None c is)
applied_is channel (NoteOn at note velocity) c is = of_channel_is at channel (note_put note (sounding velocity)) c is (note_put_is note (sounding velocity) c is)
applied_is channel (PolyPressure at note value) c is = of_channel_is at channel (poly_put note (Some value)) c is (poly_put_is note (Some value) c is)
applied_is channel (Control at number value) c is = of_channel_is at channel (controlled number value) c is (controlled_is (control_kind number) number value c is)
applied_is channel (Program at program) c is = of_channel_is at channel (program_with program) c is (record { controls = is.controls; notes = is.notes; polys = is.polys })
applied_is channel (Pressure at value) c is = of_channel_is at channel (λ x. record x { pressure = Some value }) c is (record { controls = is.controls; notes = is.notes; polys = is.polys })
applied_is channel (Wheel at first second) c is = of_channel_is at channel (λ x. record x { wheel = Some (first, second) }) c is (record { controls = is.controls; notes = is.notes; polys = is.polys })
applied_is channel SystemReset c is = no_channel_is
applied_is channel (Sysex octets) c is =
    elim (cases_Bool (is_reset_message octets)) [
      | inl t ↦ rw t no_channel_is
      | inr f ↦ rw f is
    ]
applied_is channel command c is = is

-- how many channels there are behind a command
sixteen_after : (s : State) (command : Command) → length s.channels ≡ 16 → length (applied s command).channels ≡ 16
sixteen_after s (NoteOff at note velocity) h = length-set s.channels at (note_put note None (channel_of s at)) ∙ h
sixteen_after s (NoteOn at note velocity) h = length-set s.channels at (note_put note (sounding velocity) (channel_of s at)) ∙ h
sixteen_after s (PolyPressure at note value) h = length-set s.channels at (poly_put note (Some value) (channel_of s at)) ∙ h
sixteen_after s (Control at number value) h = length-set s.channels at (controlled number value (channel_of s at)) ∙ h
sixteen_after s (Program at program) h = length-set s.channels at (program_with program (channel_of s at)) ∙ h
sixteen_after s (Pressure at value) h = length-set s.channels at (record (channel_of s at) { pressure = Some value }) ∙ h
sixteen_after s (Wheel at first second) h = length-set s.channels at (record (channel_of s at) { wheel = Some (first, second) }) ∙ h
sixteen_after s SystemReset h = length-no_channels
sixteen_after s (Sysex octets) h =
    elim (cases_Bool (is_reset_message octets)) [
      | inl t ↦ rw t length-no_channels
      | inr f ↦ rw f (message_left (λ x. length x.channels) s octets (λ count. refl) ∙ h)
    ]
sixteen_after s command h = h

pub state_after_is : (s : State) (command : Command) → IsState s → IsState (applied s command)
state_after_is s command is = record {
  sixteen = sixteen_after s command is.sixteen;
  channels = λ channel l. rw (channel_after s command channel is l) (applied_is channel command (channel_of s channel) (is.channels channel l));
}

-- a channel that is set
pub with_channel_is : (s : State) (at : ℕ) (change : ChannelState → ChannelState) → IsState s → ((c : ChannelState) → IsChannel c → IsChannel (change c)) → IsState (with_channel s at (change (channel_of s at)))
with_channel_is s at change is keeps = record {
  sixteen = length-set s.channels at (change (channel_of s at)) ∙ is.sixteen;
  channels = λ channel l. rw (channel_put s.channels at channel change (omega (arith, l, is.sixteen)))
      (of_channel_is at channel change (channel_of s channel) (is.channels channel l) (keeps (channel_of s channel) (is.channels channel l)));
}
