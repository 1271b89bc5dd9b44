-- Two states are the same where all parts are equal. The order in which parameters were entered doesn't count.
use Rattle.std.specs.Prelude.{◌≡◌, ℕ, ◌<◌, Bool, Option}
use Rattle.jm_cmds.specs.declared.selection.Selection.{Selection}
use Rattle.jm_cmds.specs.declared.param.Param.{Param}
use Rattle.jm_state.specs.declared.channel.ChannelState.{ChannelState}
use Rattle.jm_state.specs.declared.state.State.{State}
use Rattle.jm_state.specs.Table.{value_at}
use Rattle.jm_state.specs.Entered.{halves_in}
use Rattle.jm_state.specs.Parts.{control_at, song_of, sequencer_of, time_code_of, sysex_count_of, program_of, control_of, selection_of, param_of, toggles_of, wheel_of, note_of, pressure_of, poly_of}

-- selections with equal fields are equal
selection : Bool → (rpn_high rpn_low nrpn_high nrpn_low : Option ℕ) → Selection
selection nrpn a b c d = record { nrpn = nrpn; rpn_high = a; rpn_low = b; nrpn_high = c; nrpn_low = d }

selection_of_equals : (m n : Bool) (a a' b b' c c' d d' : Option ℕ) → m ≡ n → a ≡ a' → b ≡ b' → c ≡ c' → d ≡ d' → selection m a b c d ≡ selection n a' b' c' d'
selection_of_equals m n a a' b b' c c' d d' k p q r s = cc

pub selection_equal : (s t : Selection) → s.nrpn ≡ t.nrpn → s.rpn_high ≡ t.rpn_high → s.rpn_low ≡ t.rpn_low → s.nrpn_high ≡ t.nrpn_high → s.nrpn_low ≡ t.nrpn_low → s ≡ t
unfolding selection
selection_equal s t k a b c d =
    selection_of_equals s.nrpn t.nrpn s.rpn_high t.rpn_high s.rpn_low t.rpn_low s.nrpn_high t.nrpn_high s.nrpn_low t.nrpn_low k a b c d

-- all parts of two channels are equal
pub record SameChannel (a b : ChannelState) : Type 0 where
  pub program : a.program ≡ b.program
  pub control : (number : ℕ) → number < 128 → control_at a number ≡ control_at b number
  pub toggles : a.toggles ≡ b.toggles
  pub selection : a.selection ≡ b.selection
  pub param : (p : Param) → halves_in a.entered p ≡ halves_in b.entered p
  pub wheel : a.wheel ≡ b.wheel
  pub note : (note : ℕ) → note < 128 → value_at a.notes note ≡ value_at b.notes note
  pub pressure : a.pressure ≡ b.pressure
  pub poly : (note : ℕ) → note < 128 → value_at a.polys note ≡ value_at b.polys note

-- all parts of two states are equal
pub record AreSame (s t : State) : Type 0 where
  pub song : song_of s ≡ song_of t
  pub sequencer : sequencer_of s ≡ sequencer_of t
  pub time_code : time_code_of s ≡ time_code_of t
  pub sysex_count : sysex_count_of s ≡ sysex_count_of t
  pub program : (channel : ℕ) → channel < 16 → program_of s channel ≡ program_of t channel
  pub control : (channel number : ℕ) → channel < 16 → number < 128 → control_of s channel number ≡ control_of t channel number
  pub toggles : (channel : ℕ) → channel < 16 → toggles_of s channel ≡ toggles_of t channel
  pub selection : (channel : ℕ) → channel < 16 → selection_of s channel ≡ selection_of t channel
  pub param : (channel : ℕ) (nrpn : Bool) (high low : ℕ) → channel < 16 → param_of s channel nrpn high low ≡ param_of t channel nrpn high low
  pub wheel : (channel : ℕ) → channel < 16 → wheel_of s channel ≡ wheel_of t channel
  pub note : (channel note : ℕ) → channel < 16 → note < 128 → note_of s channel note ≡ note_of t channel note
  pub pressure : (channel : ℕ) → channel < 16 → pressure_of s channel ≡ pressure_of t channel
  pub poly : (channel note : ℕ) → channel < 16 → note < 128 → poly_of s channel note ≡ poly_of t channel note
