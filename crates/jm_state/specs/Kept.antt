-- A state has 16 channels, each with three tables of 128 places, and each command and each setting keeps them.
use Rattle.std.proofs.Common.{◌≡◌, ℕ, ◌<◌, cond, eqb, List, Option, None, length, set, sym, inl, inr, ◌≢◌}
use Rattle.std.proofs.lemmas.Bool.{cases_Bool, eqb-true, eqb-false}
use Rattle.std.proofs.lemmas.List.{get_or-set_same, get_or-set_other, get_or-replicate, length-replicate}
use Rattle.jm_state.specs.declared.channel.ChannelState.{ChannelState}
use Rattle.jm_state.specs.declared.state.State.{State}
use Rattle.jm_state.specs.Table.{no_values, value_at}
use Rattle.jm_state.specs.Parts.{no_channel, no_channels, nth_channel, channel_of}

pub record IsChannel (c : ChannelState) : Type 0 where
  pub controls : length c.controls ≡ 128
  pub notes : length c.notes ≡ 128
  pub polys : length c.polys ≡ 128

pub record IsState (s : State) : Type 0 where
  pub sixteen : length s.channels ≡ 16
  pub channels : (channel : ℕ) → channel < 16 → IsChannel (channel_of s channel)

-- ## Reading what was set

pub value_set : (values : List (Option ℕ)) (k number : ℕ) (value : Option ℕ) → number < length values → value_at (set values k value) number ≡ cond (eqb k number) value (value_at values number)
value_set values k number value l =
    elim (cases_Bool (eqb k number)) [
      | inl t ↦ let same : k ≡ number = eqb-true k number t in rw (t, same) (get_or-set_same values number value None l)
      | inr f ↦ let other : number ≢ k = λ e. eqb-false k number f (sym e) in rw f (get_or-set_other values k number value None other)
    ]

pub no_value : (number : ℕ) → number < 128 → value_at no_values number ≡ None
unfolding no_values
no_value number l = get_or-replicate 128 number None None l

pub length-no_values : length no_values ≡ 128
unfolding no_values
length-no_values = length-replicate {A = Option ℕ} 128 None

pub no_channel_at : (channel : ℕ) → channel < 16 → nth_channel no_channels channel ≡ no_channel
unfolding no_channels
no_channel_at channel l = get_or-replicate 16 channel no_channel no_channel l

pub length-no_channels : length no_channels ≡ 16
unfolding no_channels
length-no_channels = length-replicate 16 no_channel

-- a change of the channel at a place, seen from any channel
abbrev pub of_channel : (at channel : ℕ) → (ChannelState → ChannelState) → ChannelState → ChannelState
of_channel at channel change c = cond (eqb at channel) (change c) c

pub channel_put : (channels : List ChannelState) (at channel : ℕ) (change : ChannelState → ChannelState) → channel < length channels → nth_channel (set channels at (change (nth_channel channels at))) channel ≡ of_channel at channel change (nth_channel channels channel)
channel_put channels at channel change l =
    elim (cases_Bool (eqb at channel)) [
      | inl t ↦ let same : at ≡ channel = eqb-true at channel t in rw (t, same) (get_or-set_same channels channel (change (nth_channel channels channel)) no_channel l)
      | inr f ↦ let other : channel ≢ at = λ e. eqb-false at channel f (sym e) in rw f (get_or-set_other channels at channel (change (nth_channel channels at)) no_channel other)
    ]
