-- What a command says of a part of the state is so.
use Rattle.std.proofs.Common.{◌≡◌, ℕ, ◌<◌, Bool, true, false, cond, ◌&&◌, ◌||◌, eqb, leb, List, Option, Some, None, length, set, refl, sym, ap, ◌∙◌, inl, inr, arith}
use Rattle.std.proofs.lemmas.Bool.{cases_Bool, eqb-true, eq-eqb, false≢true}
use Rattle.std.proofs.Math.Bool.{beq}
use Rattle.jm_cmds.specs.declared.commands.Command.{Command}
use Rattle.jm_cmds.specs.declared.commands.Command.TheVariants.{NoteOff, NoteOn, PolyPressure, Control, Program, Pressure, Wheel, SystemReset, Sysex}
use Rattle.jm_cmds.specs.declared.controls.ControlKind.{ControlKind}
use Rattle.jm_cmds.specs.declared.controls.ControlKind.TheVariants as kinds
use Rattle.jm_cmds.specs.declared.pedal.Pedal.{Pedal}
use Rattle.jm_cmds.specs.declared.pedal.PedalEvent.TheVariants.{Moved}
use Rattle.jm_cmds.specs.ControlLaws.{control_number-control_kind}
use Rattle.jm_cmds.specs.ParamLaws.{beq-true}
use Rattle.jm_cmds.specs.Pedal.{is_on, control_pedal, pedal_event, pedal_step, no_pedal}
use Rattle.jm_cmds.specs.Control.{control_kind, control_number, is_reset_message, clears_notes, clears_controllers}
use Rattle.jm_cmds.specs.Sequencing.{sequencer_event, sequencer_step}
use Rattle.jm_cmds.specs.Frames.{frame_event, time_code_step}
use Rattle.jm_cmds.specs.Selection.{control_command, param_command}
use Rattle.jm_cmds.specs.declared.param.Param.{Param}
use Rattle.jm_state.specs.declared.channel.ChannelState.{ChannelState}
use Rattle.jm_state.specs.declared.state.State.{State}
use Rattle.jm_state.specs.Table.{value_at}
use Rattle.jm_state.specs.Parts.{no_channel, channel_of, control_at, control_by, pair_of, pedal_by, pedal_at, pedal_of, note_put, poly_put, song_of, sequencer_of, time_code_of, sysex_count_of, program_of, control_of, selection_of, entered_of, wheel_of, note_of, pressure_of, poly_of}
use Rattle.jm_state.specs.Apply.{applied, sounding, controlled, controlled_by, pedal_moved, program_with, selected_by, entered_by}
use Rattle.jm_state.specs.Says.{said, ended, song_says, count_after, program_says, control_says, selection_behind, entered_if, entered_behind, wheel_says, note_says, pressure_says, poly_says}
use Rattle.jm_state.specs.Kept.{IsState, value_set, no_value}
use Rattle.jm_state.specs.ChannelLaws.{channel_applied, channel_after, message_left, part_said, part_ended, part_left, part_reset, entry_left}
use Rattle.jm_state.specs.ControlLaws.{control_kind_says, control_none}

-- ## The session

pub song_after : (s : State) (command : Command) → song_of (applied s command) ≡ said (song_says command) (song_of s)
song_after s (Sysex octets) =
    elim (cases_Bool (is_reset_message octets)) [
      | inl t ↦ rw t refl
      | inr f ↦ rw f (message_left song_of s octets (λ count. refl))
    ]
song_after s command = refl

pub sequencer_behind : (s : State) (command : Command) → sequencer_of (applied s command) ≡ sequencer_step (sequencer_of s) (sequencer_event command)
sequencer_behind s (Sysex octets) =
    elim (cases_Bool (is_reset_message octets)) [
      | inl t ↦ rw t refl
      | inr f ↦ rw f (message_left sequencer_of s octets (λ count. refl))
    ]
sequencer_behind s command = refl

pub time_code_behind : (s : State) (command : Command) → time_code_of (applied s command) ≡ time_code_step (time_code_of s) (frame_event command)
time_code_behind s (Sysex octets) =
    elim (cases_Bool (is_reset_message octets)) [
      | inl t ↦ rw t refl
      | inr f ↦ rw f (message_left time_code_of s octets (λ count. refl))
    ]
time_code_behind s command = refl

pub count_behind : (s : State) (command : Command) → sysex_count_of (applied s command) ≡ count_after (sysex_count_of s) command
count_behind s (Sysex octets) =
    elim (cases_Bool (is_reset_message octets)) [
      | inl t ↦ rw t refl
      | inr f ↦ elim (cases_Bool (leb (length octets) 254)) [
        | inl t ↦ rw (f, t) refl
        | inr g ↦ rw (f, g) refl
      ]
    ]
count_behind s command = refl

-- ## Wheel

wheel_kind : (kind : ControlKind) (number value : ℕ) (c : ChannelState) → (controlled_by kind number value c).wheel ≡ said (ended (clears_controllers kind)) c.wheel
wheel_kind (kinds.DataEntry high) number value c = entry_left (λ x. x.wheel) (selected_by c.selection) high value c (λ p. refl)
wheel_kind kind number value c = refl

wheel_part : (channel : ℕ) (command : Command) (c : ChannelState) → (channel_applied channel command c).wheel ≡ said (wheel_says channel command) c.wheel
wheel_part channel (Wheel at first second) c = part_said (λ x. x.wheel) at channel (λ x. record x { wheel = Some (first, second) }) c (Some (Some (first, second))) refl
wheel_part channel (Control at number value) c =
    part_ended (λ x. x.wheel) at channel (controlled number value) c (clears_controllers (control_kind number)) (wheel_kind (control_kind number) number value c)
wheel_part channel (Sysex octets) c = part_reset (λ x. x.wheel) c (is_reset_message octets) refl
wheel_part channel (NoteOff at note velocity) c = part_left (λ x. x.wheel) at channel (note_put note None) c refl
wheel_part channel (NoteOn at note velocity) c = part_left (λ x. x.wheel) at channel (note_put note (sounding velocity)) c refl
wheel_part channel (PolyPressure at note value) c = part_left (λ x. x.wheel) at channel (poly_put note (Some value)) c refl
wheel_part channel (Program at program) c = part_left (λ x. x.wheel) at channel (program_with program) c refl
wheel_part channel (Pressure at value) c = part_left (λ x. x.wheel) at channel (λ x. record x { pressure = Some value }) c refl
wheel_part channel command c = refl

-- ## Notes

note_kind : (kind : ControlKind) (number value note : ℕ) (c : ChannelState) → note < 128 → value_at (controlled_by kind number value c).notes note ≡ said (ended (clears_notes kind)) (value_at c.notes note)
note_kind (kinds.DataEntry high) number value note c l = entry_left (λ x. value_at x.notes note) (selected_by c.selection) high value c (λ p. refl)
note_kind (kinds.Silence n) number value note c l = no_value note l
note_kind (kinds.Mode n) number value note c l = no_value note l
note_kind kind number value note c l = refl

-- a table in which one place is set
place_says : (values : List (Option ℕ)) (k number : ℕ) (value : Option ℕ) → number < length values → value_at (set values k value) number ≡ said (cond (eqb k number) (Some value) None) (value_at values number)
place_says values k number value l =
    value_set values k number value l
    ∙ elim (cases_Bool (eqb k number)) [
      | inl t ↦ rw t refl
      | inr f ↦ rw f refl
    ]

note_part : (channel note : ℕ) (command : Command) (c : ChannelState) → note < 128 → length c.notes ≡ 128 → value_at (channel_applied channel command c).notes note ≡ said (note_says channel note command) (value_at c.notes note)
note_part channel note (NoteOff at k velocity) c l full =
    part_said (λ x. value_at x.notes note) at channel (note_put k None) c (ended (eqb k note)) (place_says c.notes k note None (omega (arith, l, full)))
note_part channel note (NoteOn at k velocity) c l full =
    part_said (λ x. value_at x.notes note) at channel (note_put k (sounding velocity)) c (cond (eqb k note) (Some (sounding velocity)) None) (place_says c.notes k note (sounding velocity) (omega (arith, l, full)))
note_part channel note (Control at number value) c l full =
    part_ended (λ x. value_at x.notes note) at channel (controlled number value) c (clears_notes (control_kind number)) (note_kind (control_kind number) number value note c l)
note_part channel note (Sysex octets) c l full = part_reset (λ x. value_at x.notes note) c (is_reset_message octets) (no_value note l)
note_part channel note SystemReset c l full = no_value note l
note_part channel note (PolyPressure at k value) c l full = part_left (λ x. value_at x.notes note) at channel (poly_put k (Some value)) c refl
note_part channel note (Program at program) c l full = part_left (λ x. value_at x.notes note) at channel (program_with program) c refl
note_part channel note (Pressure at value) c l full = part_left (λ x. value_at x.notes note) at channel (λ x. record x { pressure = Some value }) c refl
note_part channel note (Wheel at first second) c l full = part_left (λ x. value_at x.notes note) at channel (λ x. record x { wheel = Some (first, second) }) c refl
note_part channel note command c l full = refl

-- ## Pressures on keys

poly_kind : (kind : ControlKind) (number value note : ℕ) (c : ChannelState) → note < 128 → value_at (controlled_by kind number value c).polys note ≡ said (ended (clears_controllers kind)) (value_at c.polys note)
poly_kind (kinds.DataEntry high) number value note c l = entry_left (λ x. value_at x.polys note) (selected_by c.selection) high value c (λ p. refl)
poly_kind kinds.ResetControllers number value note c l = no_value note l
poly_kind kind number value note c l = refl

poly_part : (channel note : ℕ) (command : Command) (c : ChannelState) → note < 128 → length c.polys ≡ 128 → value_at (channel_applied channel command c).polys note ≡ said (poly_says channel note command) (value_at c.polys note)
poly_part channel note (PolyPressure at k value) c l full =
    part_said (λ x. value_at x.polys note) at channel (poly_put k (Some value)) c (cond (eqb k note) (Some (Some value)) None) (place_says c.polys k note (Some value) (omega (arith, l, full)))
poly_part channel note (Control at number value) c l full =
    part_ended (λ x. value_at x.polys note) at channel (controlled number value) c (clears_controllers (control_kind number)) (poly_kind (control_kind number) number value note c l)
poly_part channel note (Sysex octets) c l full = part_reset (λ x. value_at x.polys note) c (is_reset_message octets) (no_value note l)
poly_part channel note SystemReset c l full = no_value note l
poly_part channel note (NoteOff at k velocity) c l full = part_left (λ x. value_at x.polys note) at channel (note_put k None) c refl
poly_part channel note (NoteOn at k velocity) c l full = part_left (λ x. value_at x.polys note) at channel (note_put k (sounding velocity)) c refl
poly_part channel note (Program at program) c l full = part_left (λ x. value_at x.polys note) at channel (program_with program) c refl
poly_part channel note (Pressure at value) c l full = part_left (λ x. value_at x.polys note) at channel (λ x. record x { pressure = Some value }) c refl
poly_part channel note (Wheel at first second) c l full = part_left (λ x. value_at x.polys note) at channel (λ x. record x { wheel = Some (first, second) }) c refl
poly_part channel note command c l full = refl

-- ## Pressure

pressure_kind : (kind : ControlKind) (number value : ℕ) (c : ChannelState) → (controlled_by kind number value c).pressure ≡ said (ended (clears_notes kind || clears_controllers kind)) c.pressure
pressure_kind (kinds.DataEntry high) number value c = entry_left (λ x. x.pressure) (selected_by c.selection) high value c (λ p. refl)
pressure_kind kind number value c = refl

apart : (a b c : Bool) → (a && b || a && c) ≡ (a && (b || c))
apart true b c = refl
apart false b c = refl

or_self : (b : Bool) → (b || b) ≡ b
or_self true = refl
or_self false = refl

pressure_part : (channel : ℕ) (command : Command) (c : ChannelState) → (channel_applied channel command c).pressure ≡ said (pressure_says channel command) c.pressure
pressure_part channel (Pressure at value) c = part_said (λ x. x.pressure) at channel (λ x. record x { pressure = Some value }) c (Some (Some value)) refl
pressure_part channel (Control at number value) c =
    rw (apart (eqb at channel) (clears_notes (control_kind number)) (clears_controllers (control_kind number)))
    (part_ended (λ x. x.pressure) at channel (controlled number value) c (clears_notes (control_kind number) || clears_controllers (control_kind number)) (pressure_kind (control_kind number) number value c))
pressure_part channel (Sysex octets) c = rw (or_self (is_reset_message octets)) (part_reset (λ x. x.pressure) c (is_reset_message octets) refl)
pressure_part channel (NoteOff at note velocity) c = part_left (λ x. x.pressure) at channel (note_put note None) c refl
pressure_part channel (NoteOn at note velocity) c = part_left (λ x. x.pressure) at channel (note_put note (sounding velocity)) c refl
pressure_part channel (PolyPressure at note value) c = part_left (λ x. x.pressure) at channel (poly_put note (Some value)) c refl
pressure_part channel (Program at program) c = part_left (λ x. x.pressure) at channel (program_with program) c refl
pressure_part channel (Wheel at first second) c = part_left (λ x. x.pressure) at channel (λ x. record x { wheel = Some (first, second) }) c refl
pressure_part channel command c = refl

-- ## Program

program_kind : (kind : ControlKind) (number value : ℕ) (c : ChannelState) → (controlled_by kind number value c).program ≡ c.program
program_kind (kinds.DataEntry high) number value c = entry_left (λ x. x.program) (selected_by c.selection) high value c (λ p. refl)
program_kind kind number value c = refl

program_part : (channel : ℕ) (command : Command) (c : ChannelState) → (channel_applied channel command c).program ≡ said (program_says channel (control_at c 0) (control_at c 32) command) c.program
unfolding control_kind
program_part channel (Program at program) c = part_said (λ x. x.program) at channel (program_with program) c _ refl
program_part channel (Control at number value) c =
    part_left (λ x. x.program) at channel (controlled number value) c (program_kind (control_kind number) number value c)
program_part channel (Sysex octets) c = part_reset (λ x. x.program) c (is_reset_message octets) refl
program_part channel (NoteOff at note velocity) c = part_left (λ x. x.program) at channel (note_put note None) c refl
program_part channel (NoteOn at note velocity) c = part_left (λ x. x.program) at channel (note_put note (sounding velocity)) c refl
program_part channel (PolyPressure at note value) c = part_left (λ x. x.program) at channel (poly_put note (Some value)) c refl
program_part channel (Pressure at value) c = part_left (λ x. x.program) at channel (λ x. record x { pressure = Some value }) c refl
program_part channel (Wheel at first second) c = part_left (λ x. x.program) at channel (λ x. record x { wheel = Some (first, second) }) c refl
program_part channel command c = refl

-- ## Selection

selection_kind : (kind : ControlKind) (number value : ℕ) (c : ChannelState) → (controlled_by kind number value c).selection ≡ selection_behind c.selection (control_command kind value)
selection_kind (kinds.DataEntry high) number value c = entry_left (λ x. x.selection) (selected_by c.selection) high value c (λ p. refl)
selection_kind kind number value c = refl

selection_part : (channel : ℕ) (command : Command) (c : ChannelState) → (channel_applied channel command c).selection ≡ selection_behind c.selection (param_command channel command)
selection_part channel (Control at number value) c =
    elim (cases_Bool (eqb at channel)) [
      | inl t ↦ rw t (selection_kind (control_kind number) number value c)
      | inr f ↦ rw f refl
    ]
selection_part channel (Sysex octets) c =
    elim (cases_Bool (is_reset_message octets)) [
      | inl t ↦ rw t refl
      | inr f ↦ rw f refl
    ]
selection_part channel (NoteOff at note velocity) c = part_left (λ x. x.selection) at channel (note_put note None) c refl
selection_part channel (NoteOn at note velocity) c = part_left (λ x. x.selection) at channel (note_put note (sounding velocity)) c refl
selection_part channel (PolyPressure at note value) c = part_left (λ x. x.selection) at channel (poly_put note (Some value)) c refl
selection_part channel (Program at program) c = part_left (λ x. x.selection) at channel (program_with program) c refl
selection_part channel (Pressure at value) c = part_left (λ x. x.selection) at channel (λ x. record x { pressure = Some value }) c refl
selection_part channel (Wheel at first second) c = part_left (λ x. x.selection) at channel (λ x. record x { wheel = Some (first, second) }) c refl
selection_part channel command c = refl

-- ## Parameters

entered_by_selected : (o : Option Param) (high : Bool) (value : ℕ) (c : ChannelState) → (entered_by o high value c).entered ≡ entered_if o high value c.entered
entered_by_selected None high value c = refl
entered_by_selected (Some p) high value c = refl

entered_kind : (kind : ControlKind) (number value : ℕ) (c : ChannelState) → (controlled_by kind number value c).entered ≡ entered_behind (selected_by c.selection) (control_command kind value) c.entered
entered_kind (kinds.DataEntry high) number value c = entered_by_selected (selected_by c.selection) high value c
entered_kind kind number value c = refl

entered_part : (channel : ℕ) (command : Command) (c : ChannelState) → (channel_applied channel command c).entered ≡ entered_behind (selected_by c.selection) (param_command channel command) c.entered
entered_part channel (Control at number value) c =
    elim (cases_Bool (eqb at channel)) [
      | inl t ↦ rw t (entered_kind (control_kind number) number value c)
      | inr f ↦ rw f refl
    ]
entered_part channel (Sysex octets) c =
    elim (cases_Bool (is_reset_message octets)) [
      | inl t ↦ rw t refl
      | inr f ↦ rw f refl
    ]
entered_part channel (NoteOff at note velocity) c = part_left (λ x. x.entered) at channel (note_put note None) c refl
entered_part channel (NoteOn at note velocity) c = part_left (λ x. x.entered) at channel (note_put note (sounding velocity)) c refl
entered_part channel (PolyPressure at note value) c = part_left (λ x. x.entered) at channel (poly_put note (Some value)) c refl
entered_part channel (Program at program) c = part_left (λ x. x.entered) at channel (program_with program) c refl
entered_part channel (Pressure at value) c = part_left (λ x. x.entered) at channel (λ x. record x { pressure = Some value }) c refl
entered_part channel (Wheel at first second) c = part_left (λ x. x.entered) at channel (λ x. record x { wheel = Some (first, second) }) c refl
entered_part channel command c = refl

-- ## Controls

control_absent : (control : ℕ) → control < 128 → control_at no_channel control ≡ None
control_absent control l = ap (control_by (control_kind control)) (no_value control l) ∙ control_none (control_kind control)

control_part : (channel control : ℕ) (command : Command) (c : ChannelState) → control < 128 → length c.controls ≡ 128 → control_at (channel_applied channel command c) control ≡ said (control_says channel control command) (control_at c control)
control_part channel control (Control at number value) c l full =
    part_said (λ x. control_at x control) at channel (controlled number value) c _ (control_kind_says (control_kind number) number control value c refl l full)
control_part channel control (Sysex octets) c l full = part_reset (λ x. control_at x control) c (is_reset_message octets) (control_absent control l)
control_part channel control SystemReset c l full = control_absent control l
control_part channel control (NoteOff at k velocity) c l full = part_left (λ x. control_at x control) at channel (note_put k None) c refl
control_part channel control (NoteOn at k velocity) c l full = part_left (λ x. control_at x control) at channel (note_put k (sounding velocity)) c refl
control_part channel control (PolyPressure at k value) c l full = part_left (λ x. control_at x control) at channel (poly_put k (Some value)) c refl
control_part channel control (Program at program) c l full = part_left (λ x. control_at x control) at channel (program_with program) c refl
control_part channel control (Pressure at value) c l full = part_left (λ x. control_at x control) at channel (λ x. record x { pressure = Some value }) c refl
control_part channel control (Wheel at first second) c l full = part_left (λ x. control_at x control) at channel (λ x. record x { wheel = Some (first, second) }) c refl
control_part channel control command c l full = refl

-- ## The pedal

abbrev is_pedal : ControlKind → Bool
is_pedal kinds.Pedal = true
is_pedal _ = false

-- a controller of another kind isn't Control 64
other_number : (number : ℕ) (kind : ControlKind) → control_kind number ≡ kind → is_pedal kind ≡ false → eqb number 64 ≡ false
unfolding control_kind
other_number number kind e f =
    elim (cases_Bool (eqb number 64)) [
      | inl t ↦
          let same : number ≡ 64 = eqb-true number 64 t in
          let one : is_pedal (control_kind number) ≡ true = ap (λ n. is_pedal (control_kind n)) same in
          let other : is_pedal (control_kind number) ≡ false = ap is_pedal e ∙ f in
          absurd (false≢true (sym other ∙ one))
      | inr g ↦ g
    ]

other_pair : (number : ℕ) → eqb (pair_of number) 64 ≡ false
other_pair number =
    elim (cases_Bool (eqb number 124)) [
      | inl t ↦ rw t refl
      | inr f ↦ elim (cases_Bool (eqb number 125)) [
        | inl t ↦ rw (f, t) refl
        | inr g ↦ elim (cases_Bool (eqb number 126)) [
          | inl t ↦ rw (f, g, t) refl
          | inr h ↦ rw (f, g, h) refl
        ]
      ]
    ]

pedal : (toggles : ℕ) (on : Bool) → Pedal
pedal toggles on = record { on = on; toggles = toggles }

pedal_of_equals : (toggles : ℕ) (on other : Bool) → on ≡ other → pedal toggles on ≡ pedal toggles other
pedal_of_equals toggles on other e = cc

-- a pedal that was moved is where it was moved to
moved_to : (p : Pedal) (on : Bool) → pedal (pedal_step p (Moved on)).toggles on ≡ pedal_step p (Moved on)
unfolding pedal
moved_to p on =
    elim (cases_Bool (beq on p.on)) [
      | inl t ↦ rw t (pedal_of_equals p.toggles on p.on (beq-true on p.on t))
      | inr f ↦ rw f refl
    ]

pedal_kind : (kind : ControlKind) (number value : ℕ) (c : ChannelState) → control_kind number ≡ kind → length c.controls ≡ 128 → pedal_at (controlled_by kind number value c) ≡ pedal_step (pedal_at c) (control_pedal kind value)
unfolding control_kind pedal
pedal_kind (kinds.DataEntry high) number value c e full = entry_left pedal_at (selected_by c.selection) high value c (λ p. refl)
pedal_kind (kinds.Selection nrpn high) number value c e full = refl
pedal_kind (kinds.Increment n) number value c e full = refl
pedal_kind (kinds.Silence n) number value c e full = refl
pedal_kind kinds.ResetControllers number value c e full =
    ap (pedal_by 0) (control_kind_says kinds.ResetControllers number 64 value c e (omega arith) full)
pedal_kind (kinds.Mode n) number value c e full =
    let says = control_kind_says (kinds.Mode n) number 64 value c e (omega arith) full in
    let same : control_at (controlled_by (kinds.Mode n) number value c) 64 ≡ control_at c 64 = says ∙ rw (other_number number (kinds.Mode n) e refl, other_pair number) refl in
    ap (pedal_by c.toggles) same
pedal_kind (kinds.Kept n) number value c e full =
    let says = control_kind_says (kinds.Kept n) number 64 value c e (omega arith) full in
    let same : control_at (controlled_by (kinds.Kept n) number value c) 64 ≡ control_at c 64 = says ∙ rw (other_number number (kinds.Kept n) e refl) refl in
    ap (pedal_by c.toggles) same
pedal_kind kinds.Pedal number value c e full =
    let same : 64 ≡ number = sym (ap control_number e) ∙ control_number-control_kind number in
    let says = control_kind_says kinds.Pedal number 64 value (pedal_moved value c) e (omega arith) full in
    let set : control_at (controlled_by kinds.Pedal number value c) 64 ≡ Some value = says ∙ rw (eq-eqb number 64 (sym same)) refl in
    ap (pedal_by (pedal_step (pedal_at c) (Moved (is_on value))).toggles) set
    ∙ moved_to (pedal_at c) (is_on value)
pedal_kind (kinds.Plain n) number value c e full =
    let says = control_kind_says (kinds.Plain n) number 64 value c e (omega arith) full in
    let same : control_at (controlled_by (kinds.Plain n) number value c) 64 ≡ control_at c 64 = says ∙ rw (other_number number (kinds.Plain n) e refl) refl in
    ap (pedal_by c.toggles) same

pub no_pedal_at : pedal_at no_channel ≡ no_pedal
unfolding control_kind
no_pedal_at = ap (pedal_by 0) (no_value 64 (omega arith))

pedal_part : (channel : ℕ) (command : Command) (c : ChannelState) → length c.controls ≡ 128 → pedal_at (channel_applied channel command c) ≡ pedal_step (pedal_at c) (pedal_event channel command)
pedal_part channel (Control at number value) c full =
    elim (cases_Bool (eqb at channel)) [
      | inl t ↦ rw t (pedal_kind (control_kind number) number value c refl full)
      | inr f ↦ rw f refl
    ]
pedal_part channel (Sysex octets) c full =
    elim (cases_Bool (is_reset_message octets)) [
      | inl t ↦ rw t no_pedal_at
      | inr f ↦ rw f refl
    ]
pedal_part channel SystemReset c full = no_pedal_at
pedal_part channel (NoteOff at note velocity) c full = part_left pedal_at at channel (note_put note None) c refl
pedal_part channel (NoteOn at note velocity) c full = part_left pedal_at at channel (note_put note (sounding velocity)) c refl
pedal_part channel (PolyPressure at note value) c full = part_left pedal_at at channel (poly_put note (Some value)) c refl
pedal_part channel (Program at program) c full = part_left pedal_at at channel (program_with program) c refl
pedal_part channel (Pressure at value) c full = part_left pedal_at at channel (λ x. record x { pressure = Some value }) c refl
pedal_part channel (Wheel at first second) c full = part_left pedal_at at channel (λ x. record x { wheel = Some (first, second) }) c refl
pedal_part channel command c full = refl

-- ## All parts

-- what a command does to each part of a state
pub record AppliesByPart (s : State) (command : Command) : Type 0 where
  pub song : song_of (applied s command) ≡ said (song_says command) (song_of s)
  pub sequencer : sequencer_of (applied s command) ≡ sequencer_step (sequencer_of s) (sequencer_event command)
  pub time_code : time_code_of (applied s command) ≡ time_code_step (time_code_of s) (frame_event command)
  pub sysex_count : sysex_count_of (applied s command) ≡ count_after (sysex_count_of s) command
  pub program : (channel : ℕ) → channel < 16 → program_of (applied s command) channel ≡ said (program_says channel (control_of s channel 0) (control_of s channel 32) command) (program_of s channel)
  pub control : (channel number : ℕ) → channel < 16 → number < 128 → control_of (applied s command) channel number ≡ said (control_says channel number command) (control_of s channel number)
  pub pedal : (channel : ℕ) → channel < 16 → pedal_of (applied s command) channel ≡ pedal_step (pedal_of s channel) (pedal_event channel command)
  pub selection : (channel : ℕ) → channel < 16 → selection_of (applied s command) channel ≡ selection_behind (selection_of s channel) (param_command channel command)
  pub entered : (channel : ℕ) → channel < 16 → entered_of (applied s command) channel ≡ entered_behind (selected_by (selection_of s channel)) (param_command channel command) (entered_of s channel)
  pub wheel : (channel : ℕ) → channel < 16 → wheel_of (applied s command) channel ≡ said (wheel_says channel command) (wheel_of s channel)
  pub note : (channel note : ℕ) → channel < 16 → note < 128 → note_of (applied s command) channel note ≡ said (note_says channel note command) (note_of s channel note)
  pub pressure : (channel : ℕ) → channel < 16 → pressure_of (applied s command) channel ≡ said (pressure_says channel command) (pressure_of s channel)
  pub poly : (channel note : ℕ) → channel < 16 → note < 128 → poly_of (applied s command) channel note ≡ said (poly_says channel note command) (poly_of s channel note)

pub by_part : (s : State) (command : Command) → IsState s → AppliesByPart s command
by_part s command is = record {
  song = song_after s command;
  sequencer = sequencer_behind s command;
  time_code = time_code_behind s command;
  sysex_count = count_behind s command;
  program = λ channel l. ap (λ c. c.program) (channel_after s command channel is l) ∙ program_part channel command (channel_of s channel);
  control = λ channel number l m. ap (λ c. control_at c number) (channel_after s command channel is l) ∙ control_part channel number command (channel_of s channel) m (is.channels channel l).controls;
  pedal = λ channel l. ap pedal_at (channel_after s command channel is l) ∙ pedal_part channel command (channel_of s channel) (is.channels channel l).controls;
  selection = λ channel l. ap (λ c. c.selection) (channel_after s command channel is l) ∙ selection_part channel command (channel_of s channel);
  entered = λ channel l. ap (λ c. c.entered) (channel_after s command channel is l) ∙ entered_part channel command (channel_of s channel);
  wheel = λ channel l. ap (λ c. c.wheel) (channel_after s command channel is l) ∙ wheel_part channel command (channel_of s channel);
  note = λ channel note l m. ap (λ c. value_at c.notes note) (channel_after s command channel is l) ∙ note_part channel note command (channel_of s channel) m (is.channels channel l).notes;
  pressure = λ channel l. ap (λ c. c.pressure) (channel_after s command channel is l) ∙ pressure_part channel command (channel_of s channel);
  poly = λ channel note l m. ap (λ c. value_at c.polys note) (channel_after s command channel is l) ∙ poly_part channel note command (channel_of s channel) m (is.channels channel l).polys;
}
