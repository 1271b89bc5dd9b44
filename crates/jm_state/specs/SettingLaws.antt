-- Setting a part leaves each other part as it is, and the part reads as it was set.
use Rattle.std.proofs.Common.{◌≡◌, ℕ, ◌<◌, Bool, true, false, ◌&&◌, ◌||◌, eqb, List, Option, None, length, set, refl, ap, ◌∙◌, inl, inr, arith, eq-eqb}
use Rattle.std.proofs.lemmas.Bool.{cases_Bool, eqb-true}
use Rattle.std.proofs.lemmas.List.{length-set, get_or-set_same}
use Rattle.jm_cmds.specs.declared.controls.ControlKind.{ControlKind}
use Rattle.jm_cmds.specs.declared.controls.ControlKind.TheVariants as kinds
use Rattle.jm_cmds.specs.declared.selection.Selection.{Selection}
use Rattle.jm_cmds.specs.declared.sequencing.SequencerPart.{SequencerPart}
use Rattle.jm_cmds.specs.declared.frames.TimePart.{TimePart}
use Rattle.jm_cmds.specs.Control.{control_kind}
use Rattle.jm_state.specs.declared.channel.ProgramPart.{ProgramPart}
use Rattle.jm_state.specs.declared.channel.ChannelState.{ChannelState}
use Rattle.jm_state.specs.declared.state.State.{State}
use Rattle.jm_state.specs.Table.{value_at}
use Rattle.jm_state.specs.Entered.{halves_in}
use Rattle.jm_state.specs.Parts.{no_channel, channel_of, with_channel, control_by, control_at, controls_by, control_put, pair_of, half_put, note_put, poly_put, song_of, sequencer_of, time_code_of, sysex_count_of, program_of, control_of, toggles_of, selection_of, param_of, wheel_of, note_of, pressure_of, poly_of, with_song, with_sequencer, with_time_code, with_sysex_count, with_program, with_control, with_toggles, with_selection, with_param_high, with_param_low, with_wheel, with_note, with_pressure, with_poly}
use Rattle.jm_state.specs.Kept.{IsState, IsChannel, value_set, channel_put}

-- which parts a call may change: those for which this is true
pub record Touched : Type 0 where
  pub song : Bool
  pub sequencer : Bool
  pub time_code : Bool
  pub sysex_count : Bool
  pub program : ℕ → Bool
  pub control : (channel number : ℕ) → Bool
  pub toggles : ℕ → Bool
  pub selection : ℕ → Bool
  pub params : ℕ → Bool
  pub wheel : ℕ → Bool
  pub note : (channel note : ℕ) → Bool
  pub pressure : ℕ → Bool
  pub poly : (channel note : ℕ) → Bool

abbrev pub none_of : ℕ → Bool
none_of channel = false

abbrev pub none_at : (channel number : ℕ) → Bool
none_at channel number = false

abbrev pub nothing : Touched
nothing = record { song = false; sequencer = false; time_code = false; sysex_count = false; program = none_of; control = none_at; toggles = none_of; selection = none_of; params = none_of; wheel = none_of; note = none_at; pressure = none_of; poly = none_at }

-- the parts that a setting of a control changes: itself, and of two modes that are one part the other one
abbrev pub is_paired : ControlKind → (number other : ℕ) → Bool
is_paired (kinds.Mode m) number other = eqb (pair_of number) other
is_paired _ number other = false

-- all other parts are the same
pub record SameBut (own : Touched) (s t : State) : Type 0 where
  pub song : own.song ≡ false → song_of t ≡ song_of s
  pub sequencer : own.sequencer ≡ false → sequencer_of t ≡ sequencer_of s
  pub time_code : own.time_code ≡ false → time_code_of t ≡ time_code_of s
  pub sysex_count : own.sysex_count ≡ false → sysex_count_of t ≡ sysex_count_of s
  pub program : (channel : ℕ) → channel < 16 → own.program channel ≡ false → program_of t channel ≡ program_of s channel
  pub control : (channel number : ℕ) → channel < 16 → number < 128 → own.control channel number ≡ false → control_of t channel number ≡ control_of s channel number
  pub toggles : (channel : ℕ) → channel < 16 → own.toggles channel ≡ false → toggles_of t channel ≡ toggles_of s channel
  pub selection : (channel : ℕ) → channel < 16 → own.selection channel ≡ false → selection_of t channel ≡ selection_of s channel
  pub param : (channel : ℕ) (nrpn : Bool) (high low : ℕ) → channel < 16 → own.params channel ≡ false → param_of t channel nrpn high low ≡ param_of s channel nrpn high low
  pub wheel : (channel : ℕ) → channel < 16 → own.wheel channel ≡ false → wheel_of t channel ≡ wheel_of s channel
  pub note : (channel note : ℕ) → channel < 16 → note < 128 → own.note channel note ≡ false → note_of t channel note ≡ note_of s channel note
  pub pressure : (channel : ℕ) → channel < 16 → own.pressure channel ≡ false → pressure_of t channel ≡ pressure_of s channel
  pub poly : (channel note : ℕ) → channel < 16 → note < 128 → own.poly channel note ≡ false → poly_of t channel note ≡ poly_of s channel note

-- ## A change of one channel

-- a change of the channel at a place leaves all but these parts of it
record Changes (own : Touched) (at : ℕ) (change : ChannelState → ChannelState) : Type 0 where
  program : own.program at ≡ false → (c : ChannelState) → (change c).program ≡ c.program
  control : (number : ℕ) → number < 128 → own.control at number ≡ false → (c : ChannelState) → IsChannel c → control_at (change c) number ≡ control_at c number
  toggles : own.toggles at ≡ false → (c : ChannelState) → (change c).toggles ≡ c.toggles
  selection : own.selection at ≡ false → (c : ChannelState) → (change c).selection ≡ c.selection
  param : own.params at ≡ false → (c : ChannelState) → (change c).entered ≡ c.entered
  wheel : own.wheel at ≡ false → (c : ChannelState) → (change c).wheel ≡ c.wheel
  note : (note : ℕ) → note < 128 → own.note at note ≡ false → (c : ChannelState) → IsChannel c → value_at (change c).notes note ≡ value_at c.notes note
  pressure : own.pressure at ≡ false → (c : ChannelState) → (change c).pressure ≡ c.pressure
  poly : (note : ℕ) → note < 128 → own.poly at note ≡ false → (c : ChannelState) → IsChannel c → value_at (change c).polys note ≡ value_at c.polys note

left_of : {X : Type 0} (read : ChannelState → X) (own : ℕ → Bool) (s : State) (at channel : ℕ) (change : ChannelState → ChannelState) → IsState s → channel < 16 → own channel ≡ false → (own at ≡ false → read (change (channel_of s channel)) ≡ read (channel_of s channel)) → read (channel_of (with_channel s at (change (channel_of s at))) channel) ≡ read (channel_of s channel)
left_of read own s at channel change is l other h =
    ap read (channel_put s.channels at channel change (omega (arith, l, is.sixteen)))
    ∙ elim (cases_Bool (eqb at channel)) [
      | inl t ↦ rw t (h (ap own (eqb-true at channel t) ∙ other))
      | inr f ↦ rw f refl
    ]

same_but : (own : Touched) (s : State) (at : ℕ) (change : ChannelState → ChannelState) → IsState s → Changes own at change → SameBut own s (with_channel s at (change (channel_of s at)))
same_but own s at change is h = record {
  song = λ _. refl;
  sequencer = λ _. refl;
  time_code = λ _. refl;
  sysex_count = λ _. refl;
  program = λ channel l n. left_of (λ c. c.program) own.program s at channel change is l n (λ m. h.program m (channel_of s channel));
  control = λ channel number l k n. left_of (λ c. control_at c number) (λ x. own.control x number) s at channel change is l n (λ m. h.control number k m (channel_of s channel) (is.channels channel l));
  toggles = λ channel l n. left_of (λ c. c.toggles) own.toggles s at channel change is l n (λ m. h.toggles m (channel_of s channel));
  selection = λ channel l n. left_of (λ c. c.selection) own.selection s at channel change is l n (λ m. h.selection m (channel_of s channel));
  param = λ channel nrpn high low l n. ap (λ es. halves_in es (record { nrpn = nrpn; high = high; low = low })) (left_of (λ c. c.entered) own.params s at channel change is l n (λ m. h.param m (channel_of s channel)));
  wheel = λ channel l n. left_of (λ c. c.wheel) own.wheel s at channel change is l n (λ m. h.wheel m (channel_of s channel));
  note = λ channel note l k n. left_of (λ c. value_at c.notes note) (λ x. own.note x note) s at channel change is l n (λ m. h.note note k m (channel_of s channel) (is.channels channel l));
  pressure = λ channel l n. left_of (λ c. c.pressure) own.pressure s at channel change is l n (λ m. h.pressure m (channel_of s channel));
  poly = λ channel note l k n. left_of (λ c. value_at c.polys note) (λ x. own.poly x note) s at channel change is l n (λ m. h.poly note k m (channel_of s channel) (is.channels channel l));
}

-- the part that is set is touched
touched : (at : ℕ) {X : Type 0} → eqb at at ≡ false → X
touched at f = absurd (not_false (eqb at at) (eq-eqb at at refl) f)
  where
    not_false : (b : Bool) → b ≡ true → b ≡ false → ⊥
    not_false b t f = cc

other_place : (at k number : ℕ) → (eqb at at && eqb k number) ≡ false → eqb k number ≡ false
other_place at k number f = rw (eq-eqb at at refl) at f

table_left : (values : List (Option ℕ)) (k number : ℕ) (value : Option ℕ) → number < length values → eqb k number ≡ false → value_at (set values k value) number ≡ value_at values number
table_left values k number value l f = value_set values k number value l ∙ rw f refl

pub program_alone : (s : State) (at : ℕ) (value : Option ProgramPart) → IsState s → SameBut (record nothing { program = λ channel. eqb at channel }) s (with_program s at value)
program_alone s at value is = same_but (record nothing { program = λ channel. eqb at channel }) s at (λ c. record c { program = value }) is (record {
  program = λ n c. touched at n;
  control = λ number l n c is. refl;
  toggles = λ _ c. refl;
  selection = λ _ c. refl;
  param = λ _ c. refl;
  wheel = λ _ c. refl;
  note = λ number l n c is. refl;
  pressure = λ _ c. refl;
  poly = λ number l n c is. refl;
})

pub toggles_alone : (s : State) (at count : ℕ) → IsState s → SameBut (record nothing { toggles = λ channel. eqb at channel }) s (with_toggles s at count)
toggles_alone s at count is = same_but (record nothing { toggles = λ channel. eqb at channel }) s at (λ c. record c { toggles = count }) is (record {
  program = λ _ c. refl;
  control = λ number l n c is. refl;
  toggles = λ n c. touched at n;
  selection = λ _ c. refl;
  param = λ _ c. refl;
  wheel = λ _ c. refl;
  note = λ number l n c is. refl;
  pressure = λ _ c. refl;
  poly = λ number l n c is. refl;
})

pub selection_alone : (s : State) (at : ℕ) (value : Option Selection) → IsState s → SameBut (record nothing { selection = λ channel. eqb at channel }) s (with_selection s at value)
selection_alone s at value is = same_but (record nothing { selection = λ channel. eqb at channel }) s at (λ c. record c { selection = value }) is (record {
  program = λ _ c. refl;
  control = λ number l n c is. refl;
  toggles = λ _ c. refl;
  selection = λ n c. touched at n;
  param = λ _ c. refl;
  wheel = λ _ c. refl;
  note = λ number l n c is. refl;
  pressure = λ _ c. refl;
  poly = λ number l n c is. refl;
})

pub wheel_alone : (s : State) (at : ℕ) (value : Option (ℕ × ℕ)) → IsState s → SameBut (record nothing { wheel = λ channel. eqb at channel }) s (with_wheel s at value)
wheel_alone s at value is = same_but (record nothing { wheel = λ channel. eqb at channel }) s at (λ c. record c { wheel = value }) is (record {
  program = λ _ c. refl;
  control = λ number l n c is. refl;
  toggles = λ _ c. refl;
  selection = λ _ c. refl;
  param = λ _ c. refl;
  wheel = λ n c. touched at n;
  note = λ number l n c is. refl;
  pressure = λ _ c. refl;
  poly = λ number l n c is. refl;
})

pub pressure_alone : (s : State) (at : ℕ) (value : Option ℕ) → IsState s → SameBut (record nothing { pressure = λ channel. eqb at channel }) s (with_pressure s at value)
pressure_alone s at value is = same_but (record nothing { pressure = λ channel. eqb at channel }) s at (λ c. record c { pressure = value }) is (record {
  program = λ _ c. refl;
  control = λ number l n c is. refl;
  toggles = λ _ c. refl;
  selection = λ _ c. refl;
  param = λ _ c. refl;
  wheel = λ _ c. refl;
  note = λ number l n c is. refl;
  pressure = λ n c. touched at n;
  poly = λ number l n c is. refl;
})

pub param_high_alone : (s : State) (at : ℕ) (nrpn : Bool) (high low : ℕ) (value : Option ℕ) → IsState s → SameBut (record nothing { params = λ channel. eqb at channel }) s (with_param_high s at nrpn high low value)
param_high_alone s at nrpn high low value is = same_but (record nothing { params = λ channel. eqb at channel }) s at (half_put true (record { nrpn = nrpn; high = high; low = low }) value) is (record {
  program = λ _ c. refl;
  control = λ number l n c is. refl;
  toggles = λ _ c. refl;
  selection = λ _ c. refl;
  param = λ n c. touched at n;
  wheel = λ _ c. refl;
  note = λ number l n c is. refl;
  pressure = λ _ c. refl;
  poly = λ number l n c is. refl;
})

pub param_low_alone : (s : State) (at : ℕ) (nrpn : Bool) (high low : ℕ) (value : Option ℕ) → IsState s → SameBut (record nothing { params = λ channel. eqb at channel }) s (with_param_low s at nrpn high low value)
param_low_alone s at nrpn high low value is = same_but (record nothing { params = λ channel. eqb at channel }) s at (half_put false (record { nrpn = nrpn; high = high; low = low }) value) is (record {
  program = λ _ c. refl;
  control = λ number l n c is. refl;
  toggles = λ _ c. refl;
  selection = λ _ c. refl;
  param = λ n c. touched at n;
  wheel = λ _ c. refl;
  note = λ number l n c is. refl;
  pressure = λ _ c. refl;
  poly = λ number l n c is. refl;
})

pub note_alone : (s : State) (at k : ℕ) (value : Option ℕ) → IsState s → SameBut (record nothing { note = λ channel number. eqb at channel && eqb k number }) s (with_note s at k value)
note_alone s at k value is = same_but (record nothing { note = λ channel number. eqb at channel && eqb k number }) s at (note_put k value) is (record {
  program = λ _ c. refl;
  control = λ number l n c is. refl;
  toggles = λ _ c. refl;
  selection = λ _ c. refl;
  param = λ _ c. refl;
  wheel = λ _ c. refl;
  note = λ number l n c whole. table_left c.notes k number value (omega (arith, l, whole.notes)) (other_place at k number n);
  pressure = λ _ c. refl;
  poly = λ number l n c is. refl;
})

pub poly_alone : (s : State) (at k : ℕ) (value : Option ℕ) → IsState s → SameBut (record nothing { poly = λ channel number. eqb at channel && eqb k number }) s (with_poly s at k value)
poly_alone s at k value is = same_but (record nothing { poly = λ channel number. eqb at channel && eqb k number }) s at (poly_put k value) is (record {
  program = λ _ c. refl;
  control = λ number l n c is. refl;
  toggles = λ _ c. refl;
  selection = λ _ c. refl;
  param = λ _ c. refl;
  wheel = λ _ c. refl;
  note = λ number l n c is. refl;
  pressure = λ _ c. refl;
  poly = λ number l n c whole. table_left c.polys k number value (omega (arith, l, whole.polys)) (other_place at k number n);
})

neither : (a b : Bool) → (a || b) ≡ false → (a ≡ false) × (b ≡ false)
neither false b e = (refl, e)
neither true b e = absurd cc

not_touched : (at : ℕ) (b : Bool) → (eqb at at && b) ≡ false → b ≡ false
not_touched at b f = rw (eq-eqb at at refl) at f

controls_left_alone : (kind : ControlKind) (number other : ℕ) (value : Option ℕ) (controls : List (Option ℕ)) → other < length controls → (eqb number other || is_paired kind number other) ≡ false → value_at (controls_by kind number value controls) other ≡ value_at controls other
controls_left_alone (kinds.Mode m) number other value controls l f =
    let both = neither (eqb number other) (eqb (pair_of number) other) f in
    table_left (set controls (pair_of number) None) number other value (omega (arith, l, length-set controls (pair_of number) None)) both.0
    ∙ table_left controls (pair_of number) other None l both.1
controls_left_alone (kinds.Kept m) number other value controls l f = table_left controls number other value l (neither (eqb number other) false f).0
controls_left_alone kinds.Pedal number other value controls l f = table_left controls number other value l (neither (eqb number other) false f).0
controls_left_alone (kinds.Plain m) number other value controls l f = table_left controls number other value l (neither (eqb number other) false f).0
controls_left_alone kind number other value controls l f = refl

pub control_alone : (s : State) (at number : ℕ) (value : Option ℕ) → IsState s → SameBut (record nothing { control = λ channel other. eqb at channel && (eqb number other || is_paired (control_kind number) number other) }) s (with_control s at number value)
control_alone s at number value is = same_but (record nothing { control = λ channel other. eqb at channel && (eqb number other || is_paired (control_kind number) number other) }) s at (control_put number value) is (record {
  program = λ _ c. refl;
  control = λ other l n c whole. ap (control_by (control_kind other)) (controls_left_alone (control_kind number) number other value c.controls (omega (arith, l, whole.controls)) (not_touched at (eqb number other || is_paired (control_kind number) number other) n));
  toggles = λ _ c. refl;
  selection = λ _ c. refl;
  param = λ _ c. refl;
  wheel = λ _ c. refl;
  note = λ number l n c is. refl;
  pressure = λ _ c. refl;
  poly = λ number l n c is. refl;
})

-- ## The session's parts

pub song_alone : (s : State) (value : Option ℕ) → SameBut (record nothing { song = true }) s (with_song s value)
song_alone s value = record {
  song = λ n. absurd cc;
  sequencer = λ _. refl;
  time_code = λ _. refl;
  sysex_count = λ _. refl;
  program = λ channel l n. refl;
  control = λ channel number l k n. refl;
  toggles = λ channel l n. refl;
  selection = λ channel l n. refl;
  param = λ channel nrpn high low l n. refl;
  wheel = λ channel l n. refl;
  note = λ channel note l k n. refl;
  pressure = λ channel l n. refl;
  poly = λ channel note l k n. refl;
}

pub sequencer_alone : (s : State) (value : Option SequencerPart) → SameBut (record nothing { sequencer = true }) s (with_sequencer s value)
sequencer_alone s value = record {
  song = λ _. refl;
  sequencer = λ n. absurd cc;
  time_code = λ _. refl;
  sysex_count = λ _. refl;
  program = λ channel l n. refl;
  control = λ channel number l k n. refl;
  toggles = λ channel l n. refl;
  selection = λ channel l n. refl;
  param = λ channel nrpn high low l n. refl;
  wheel = λ channel l n. refl;
  note = λ channel note l k n. refl;
  pressure = λ channel l n. refl;
  poly = λ channel note l k n. refl;
}

pub time_code_alone : (s : State) (value : Option TimePart) → SameBut (record nothing { time_code = true }) s (with_time_code s value)
time_code_alone s value = record {
  song = λ _. refl;
  sequencer = λ _. refl;
  time_code = λ n. absurd cc;
  sysex_count = λ _. refl;
  program = λ channel l n. refl;
  control = λ channel number l k n. refl;
  toggles = λ channel l n. refl;
  selection = λ channel l n. refl;
  param = λ channel nrpn high low l n. refl;
  wheel = λ channel l n. refl;
  note = λ channel note l k n. refl;
  pressure = λ channel l n. refl;
  poly = λ channel note l k n. refl;
}

pub sysex_count_alone : (s : State) (value : ℕ) → SameBut (record nothing { sysex_count = true }) s (with_sysex_count s value)
sysex_count_alone s value = record {
  song = λ _. refl;
  sequencer = λ _. refl;
  time_code = λ _. refl;
  sysex_count = λ n. absurd cc;
  program = λ channel l n. refl;
  control = λ channel number l k n. refl;
  toggles = λ channel l n. refl;
  selection = λ channel l n. refl;
  param = λ channel nrpn high low l n. refl;
  wheel = λ channel l n. refl;
  note = λ channel note l k n. refl;
  pressure = λ channel l n. refl;
  poly = λ channel note l k n. refl;
}

-- ## What is read of a part that was set

-- the channel that was set
set_at : (s : State) (at : ℕ) (c : ChannelState) → IsState s → at < 16 → channel_of (with_channel s at c) at ≡ c
set_at s at c is l = get_or-set_same s.channels at c no_channel (omega (arith, l, is.sixteen))

place_set : (values : List (Option ℕ)) (k : ℕ) (value : Option ℕ) → k < length values → value_at (set values k value) k ≡ value
place_set values k value l = get_or-set_same values k value None l

-- a control of a kind that has a part has what it was set to
control_set : (kind : ControlKind) (number : ℕ) (value : Option ℕ) (controls : List (Option ℕ)) → number < length controls → control_by kind (value_at (controls_by kind number value controls) number) ≡ control_by kind value
control_set (kinds.Mode m) number value controls l = place_set (set controls (pair_of number) None) number value (omega (arith, l, length-set controls (pair_of number) None))
control_set (kinds.Kept m) number value controls l = place_set controls number value l
control_set kinds.Pedal number value controls l = place_set controls number value l
control_set (kinds.Plain m) number value controls l = place_set controls number value l
control_set (kinds.DataEntry high) number value controls l = refl
control_set (kinds.Selection nrpn high) number value controls l = refl
control_set (kinds.Increment n) number value controls l = refl
control_set (kinds.Silence n) number value controls l = refl
control_set kinds.ResetControllers number value controls l = refl

-- Each part reads as it was set. A control of a number without a part is none whatever it is set to.
pub record ReadsAsSet (s : State) : Type 0 where
  pub song : (value : Option ℕ) → song_of (with_song s value) ≡ value
  pub sequencer : (value : Option SequencerPart) → sequencer_of (with_sequencer s value) ≡ value
  pub time_code : (value : Option TimePart) → time_code_of (with_time_code s value) ≡ value
  pub sysex_count : (count : ℕ) → sysex_count_of (with_sysex_count s count) ≡ count
  pub program : (channel : ℕ) (value : Option ProgramPart) → channel < 16 → program_of (with_program s channel value) channel ≡ value
  pub control : (channel number : ℕ) (value : Option ℕ) → channel < 16 → number < 128 → control_of (with_control s channel number value) channel number ≡ control_by (control_kind number) value
  pub toggles : (channel count : ℕ) → channel < 16 → toggles_of (with_toggles s channel count) channel ≡ count
  pub selection : (channel : ℕ) (value : Option Selection) → channel < 16 → selection_of (with_selection s channel value) channel ≡ value
  pub wheel : (channel : ℕ) (value : Option (ℕ × ℕ)) → channel < 16 → wheel_of (with_wheel s channel value) channel ≡ value
  pub note : (channel note : ℕ) (value : Option ℕ) → channel < 16 → note < 128 → note_of (with_note s channel note value) channel note ≡ value
  pub pressure : (channel : ℕ) (value : Option ℕ) → channel < 16 → pressure_of (with_pressure s channel value) channel ≡ value
  pub poly : (channel note : ℕ) (value : Option ℕ) → channel < 16 → note < 128 → poly_of (with_poly s channel note value) channel note ≡ value

pub reads_as_set : (s : State) → IsState s → ReadsAsSet s
reads_as_set s is = record {
  song = λ value. refl;
  sequencer = λ value. refl;
  time_code = λ value. refl;
  sysex_count = λ count. refl;
  program = λ channel value l. ap (λ c. c.program) (set_at s channel (record (channel_of s channel) { program = value }) is l);
  control = λ channel number value l m.
      ap (λ c. control_at c number) (set_at s channel (control_put number value (channel_of s channel)) is l)
      ∙ control_set (control_kind number) number value (channel_of s channel).controls (omega (arith, m, (is.channels channel l).controls));
  toggles = λ channel count l. ap (λ c. c.toggles) (set_at s channel (record (channel_of s channel) { toggles = count }) is l);
  selection = λ channel value l. ap (λ c. c.selection) (set_at s channel (record (channel_of s channel) { selection = value }) is l);
  wheel = λ channel value l. ap (λ c. c.wheel) (set_at s channel (record (channel_of s channel) { wheel = value }) is l);
  note = λ channel note value l m.
      ap (λ c. value_at c.notes note) (set_at s channel (note_put note value (channel_of s channel)) is l)
      ∙ place_set (channel_of s channel).notes note value (omega (arith, m, (is.channels channel l).notes));
  pressure = λ channel value l. ap (λ c. c.pressure) (set_at s channel (record (channel_of s channel) { pressure = value }) is l);
  poly = λ channel note value l m.
      ap (λ c. value_at c.polys note) (set_at s channel (poly_put note value (channel_of s channel)) is l)
      ∙ place_set (channel_of s channel).polys note value (omega (arith, m, (is.channels channel l).polys));
}

-- ## Each setting

-- each call that sets a part leaves each other part as it is
pub record SetsAlone (s : State) : Type 0 where
  pub song : (value : Option ℕ) → SameBut (record nothing { song = true }) s (with_song s value)
  pub sequencer : (value : Option SequencerPart) → SameBut (record nothing { sequencer = true }) s (with_sequencer s value)
  pub time_code : (value : Option TimePart) → SameBut (record nothing { time_code = true }) s (with_time_code s value)
  pub sysex_count : (count : ℕ) → SameBut (record nothing { sysex_count = true }) s (with_sysex_count s count)
  pub program : (at : ℕ) (value : Option ProgramPart) → SameBut (record nothing { program = λ channel. eqb at channel }) s (with_program s at value)
  pub control : (at number : ℕ) (value : Option ℕ) → SameBut (record nothing { control = λ channel other. eqb at channel && (eqb number other || is_paired (control_kind number) number other) }) s (with_control s at number value)
  pub toggles : (at count : ℕ) → SameBut (record nothing { toggles = λ channel. eqb at channel }) s (with_toggles s at count)
  pub selection : (at : ℕ) (value : Option Selection) → SameBut (record nothing { selection = λ channel. eqb at channel }) s (with_selection s at value)
  pub param_high : (at : ℕ) (nrpn : Bool) (high low : ℕ) (value : Option ℕ) → SameBut (record nothing { params = λ channel. eqb at channel }) s (with_param_high s at nrpn high low value)
  pub param_low : (at : ℕ) (nrpn : Bool) (high low : ℕ) (value : Option ℕ) → SameBut (record nothing { params = λ channel. eqb at channel }) s (with_param_low s at nrpn high low value)
  pub wheel : (at : ℕ) (value : Option (ℕ × ℕ)) → SameBut (record nothing { wheel = λ channel. eqb at channel }) s (with_wheel s at value)
  pub note : (at k : ℕ) (value : Option ℕ) → SameBut (record nothing { note = λ channel number. eqb at channel && eqb k number }) s (with_note s at k value)
  pub pressure : (at : ℕ) (value : Option ℕ) → SameBut (record nothing { pressure = λ channel. eqb at channel }) s (with_pressure s at value)
  pub poly : (at k : ℕ) (value : Option ℕ) → SameBut (record nothing { poly = λ channel number. eqb at channel && eqb k number }) s (with_poly s at k value)

pub sets_alone : (s : State) → IsState s → SetsAlone s
sets_alone s is = record {
  song = song_alone s;
  sequencer = sequencer_alone s;
  time_code = time_code_alone s;
  sysex_count = sysex_count_alone s;
  program = λ at value. program_alone s at value is;
  control = λ at number value. control_alone s at number value is;
  toggles = λ at count. toggles_alone s at count is;
  selection = λ at value. selection_alone s at value is;
  param_high = λ at nrpn high low value. param_high_alone s at nrpn high low value is;
  param_low = λ at nrpn high low value. param_low_alone s at nrpn high low value is;
  wheel = λ at value. wheel_alone s at value is;
  note = λ at k value. note_alone s at k value is;
  pressure = λ at value. pressure_alone s at value is;
  poly = λ at k value. poly_alone s at k value is;
}
