-- A state that agrees with a session in which no channel is crowded has the lines of the session's state.
use Rattle.std.proofs.Common.{◌≡◌, ℕ, zero, suc, ◌+◌, ◌<◌, Bool, true, false, List, [], Option, None, refl, ap, ◌∙◌, arith}
use Rattle.std.specs.List.{flat_map}
use Rattle.std.specs.Prelude.{option_map}
use Rattle.jm_cmds.specs.declared.controls.ControlKind.{ControlKind}
use Rattle.jm_cmds.specs.declared.controls.ControlKind.TheVariants as kinds
use Rattle.jm_cmds.specs.declared.history.Sent.{Sent}
use Rattle.jm_cmds.specs.Control.{control_kind}
use Rattle.jm_state.specs.declared.channel.ChannelState.{ChannelState}
use Rattle.jm_state.specs.declared.state.State.{State}
use Rattle.jm_state.specs.Entered.{halves_in}
use Rattle.jm_state.specs.Kept.{no_channel_at, no_value}
use Rattle.jm_state.specs.Parts.{no_state, control_by, control_at, program_of, toggles_of, selection_of, wheel_of, pressure_of}
use Rattle.jm_state.specs.ReplayLaws.{state_behind}
use Rattle.jm_state.specs.Table.{value_at}
use Rattle.jm_receiver.specs.Agreement.{Agrees, is_crowded}
use Rattle.jm_script.specs.declared.answer.StatePart.TheVariants.{Control, Note, Poly}
use Rattle.midi_host.specs.declared.state_lines.Numbered.{Numbered}
use Rattle.midi_host.specs.declared.state_lines.Numbered.TheVariants.{Controls, Params, Notes, Polys}
use Rattle.midi_host.specs.StateLines.{part_line, halves_part, numbered_part, numbers_from, numbers_more, numbers_none, number_line, numbered_lines, high_lines, params_lines, channel_lines, session_lines, state_lines}

-- the lines of these numbers, where each has the same
same_lines : (f g : ℕ → List ℕ) (count first end : ℕ) → first + count ≡ end → ((number : ℕ) → number < end → f number ≡ g number) → flat_map f (numbers_from first end) ≡ flat_map g (numbers_from first end)
same_lines f g zero first end e h = rw (numbers_none first end (omega (arith, e))) refl
same_lines f g (suc count) first end e h =
    rw (numbers_more first end (omega (arith, e)), h first (omega (arith, e)), same_lines f g count (first + 1) end (omega (arith, e)) h) refl

module _ (sent : List Sent) (s : State) (agrees : Agrees s sent) (opens : (channel : ℕ) → channel < 16 → is_crowded channel sent ≡ false) where
  abbrev meant : State
  meant = state_behind no_state sent

  module _ (channel : ℕ) (l : channel < 16) where
    part_same : (kind : Numbered) (number : ℕ) → number < 128 → numbered_part s channel kind number ≡ numbered_part meant channel kind number
    part_same Controls number n = ap (λ value. option_map (Control channel number) value) (agrees.control channel number l n refl)
    part_same (Params nrpn high) number n = ap (halves_part channel nrpn high number) (agrees.param channel nrpn high number l (opens channel l))
    part_same Notes number n = ap (λ value. option_map (Note channel number) value) (agrees.note channel number l n refl)
    part_same Polys number n = ap (λ value. option_map (Poly channel number) value) (agrees.poly channel number l n refl)

    numbered_same : (kind : Numbered) → numbered_lines s channel kind ≡ numbered_lines meant channel kind
    unfolding numbered_lines
    numbered_same kind =
        same_lines (number_line s channel kind) (number_line meant channel kind) 128 0 128 refl (λ number n. ap part_line (part_same kind number n))

    params_same : (nrpn : Bool) → params_lines s channel nrpn ≡ params_lines meant channel nrpn
    unfolding params_lines
    params_same nrpn =
        same_lines (high_lines s channel nrpn) (high_lines meant channel nrpn) 128 0 128 refl (λ high n. numbered_same (Params nrpn high))

    channel_same : channel_lines s channel ≡ channel_lines meant channel
    unfolding channel_lines
    channel_same =
        rw (
          agrees.program channel l refl,
          numbered_same Controls,
          agrees.toggles channel l refl,
          agrees.selection channel l refl,
          params_same false,
          params_same true,
          agrees.wheel channel l refl,
          numbered_same Notes,
          agrees.pressure channel l refl,
          numbered_same Polys,
        )
        refl

  session_same : session_lines s ≡ session_lines meant
  unfolding session_lines
  session_same = rw (agrees.song refl, agrees.sequencer refl, agrees.time_code refl, agrees.sysex_count refl) refl

  pub state_same : state_lines s ≡ state_lines meant
  unfolding state_lines
  state_same = rw (session_same, same_lines (channel_lines s) (channel_lines meant) 16 0 16 refl channel_same) refl

-- ## Nothing

no_lines : (f : ℕ → List ℕ) (count first end : ℕ) → first + count ≡ end → ((number : ℕ) → number < end → f number ≡ []) → flat_map f (numbers_from first end) ≡ []
no_lines f zero first end e h = rw (numbers_none first end (omega (arith, e))) refl
no_lines f (suc count) first end e h =
    rw (numbers_more first end (omega (arith, e)), h first (omega (arith, e)), no_lines f count (first + 1) end (omega (arith, e)) h) refl

no_control : (kind : ControlKind) → control_by kind None ≡ None
no_control (kinds.DataEntry high) = refl
no_control (kinds.Selection nrpn high) = refl
no_control (kinds.Increment number) = refl
no_control (kinds.Silence number) = refl
no_control kinds.ResetControllers = refl
no_control (kinds.Mode number) = refl
no_control (kinds.Kept number) = refl
no_control kinds.Pedal = refl
no_control (kinds.Plain number) = refl

module _ (channel : ℕ) (l : channel < 16) where
  no_part : (kind : Numbered) (number : ℕ) → number < 128 → numbered_part no_state channel kind number ≡ None
  no_part Controls number n =
      ap (λ (c : ChannelState). option_map (Control channel number) (control_at c number)) (no_channel_at channel l)
      ∙ ap (λ (value : Option ℕ). option_map (Control channel number) (control_by (control_kind number) value)) (no_value number n)
      ∙ ap (option_map (Control channel number)) (no_control (control_kind number))
  no_part (Params nrpn high) number n =
      ap (λ (c : ChannelState). halves_part channel nrpn high number (halves_in c.entered (record { nrpn = nrpn; high = high; low = number }))) (no_channel_at channel l)
  no_part Notes number n =
      ap (λ (c : ChannelState). option_map (Note channel number) (value_at c.notes number)) (no_channel_at channel l)
      ∙ ap (option_map (Note channel number)) (no_value number n)
  no_part Polys number n =
      ap (λ (c : ChannelState). option_map (Poly channel number) (value_at c.polys number)) (no_channel_at channel l)
      ∙ ap (option_map (Poly channel number)) (no_value number n)

  no_numbered : (kind : Numbered) → numbered_lines no_state channel kind ≡ []
  unfolding numbered_lines
  no_numbered kind = no_lines (number_line no_state channel kind) 128 0 128 refl (λ number n. ap part_line (no_part kind number n))

  no_params : (nrpn : Bool) → params_lines no_state channel nrpn ≡ []
  unfolding params_lines
  no_params nrpn = no_lines (high_lines no_state channel nrpn) 128 0 128 refl (λ high n. no_numbered (Params nrpn high))

  no_channel_lines : channel_lines no_state channel ≡ []
  unfolding channel_lines
  no_channel_lines =
      let program : program_of no_state channel ≡ None = ap (λ (c : ChannelState). c.program) (no_channel_at channel l) in
      let toggles : toggles_of no_state channel ≡ 0 = ap (λ (c : ChannelState). c.toggles) (no_channel_at channel l) in
      let selection : selection_of no_state channel ≡ None = ap (λ (c : ChannelState). c.selection) (no_channel_at channel l) in
      let wheel : wheel_of no_state channel ≡ None = ap (λ (c : ChannelState). c.wheel) (no_channel_at channel l) in
      let pressure : pressure_of no_state channel ≡ None = ap (λ (c : ChannelState). c.pressure) (no_channel_at channel l) in
      rw (program, no_numbered Controls, toggles, selection, no_params false, no_params true, wheel, no_numbered Notes, pressure, no_numbered Polys) refl

-- The state in which all parts are absent has no lines.
pub no_state_lines : state_lines no_state ≡ []
unfolding state_lines session_lines
no_state_lines = no_lines (channel_lines no_state) 16 0 16 refl no_channel_lines
