-- A listener's state, to which each command that repair hands on is applied, follows the state under repair.
use Rattle.std.proofs.Common.{◌≡◌, ℕ, ◌+◌, ◌%◌, ◌<◌, Bool, true, false, cond, not, ◌&&◌, ◌||◌, eqb, List, [], ◌∷◌, length, Option, Some, None, fold, refl, sym, ap, subst, ◌∙◌, inl, inr}
use Rattle.std.specs.List.{AllByRecursion}
use Rattle.std.proofs.lemmas.Bool.{cases_Bool, eqb-true}
use Rattle.jm_cmds.specs.declared.commands.Command.{Command}
use Rattle.jm_cmds.specs.declared.commands.Command.TheVariants as commands
use Rattle.jm_cmds.specs.declared.controls.ControlKind.{ControlKind}
use Rattle.jm_cmds.specs.declared.controls.ControlKind.TheVariants as numbers
use Rattle.jm_cmds.specs.declared.selection.Selection.{Selection}
use Rattle.jm_cmds.specs.Control.{control_kind, clears_notes, clears_controllers, is_reset, is_reset_message}
use Rattle.jm_cmds.specs.Data.{is_kept_message}
use Rattle.jm_state.specs.declared.channel.ProgramPart.{ProgramPart}
use Rattle.jm_state.specs.declared.state.State.{State}
use Rattle.jm_state.specs.Apply.{applied}
use Rattle.jm_state.specs.Kept.{IsState}
use Rattle.jm_state.specs.KeptLaws.{no_state_is, state_after_is}
use Rattle.jm_state.specs.Parts.{no_state, with_sysex_count, song_of, sysex_count_of, program_of, control_of, param_of, selection_of, wheel_of, note_of, pressure_of, poly_of, with_program, with_toggles}
use Rattle.jm_state.specs.PartLaws.{by_part}
use Rattle.jm_state.specs.Same.{AreSame}
use Rattle.jm_state.specs.Sameness.{same_states, states_parts}
use Rattle.jm_state.specs.Says.{said, ended, count_after, song_says, program_says, controller_says, control_says, wheel_says, note_says, pressure_says, poly_says}
use Rattle.jm_state.specs.SettingLaws.{nothing, SameBut, program_alone, toggles_alone, param_high_alone, param_low_alone}
use Rattle.jm_reader.specs.declared.logs.Log.{Log}
use Rattle.jm_reader.specs.declared.logs.LogKind.{LogKind}
use Rattle.jm_reader.specs.declared.logs.LogKind.TheVariants as kinds
use Rattle.jm_receiver.specs.declared.group.Group.{Group}
use Rattle.jm_receiver.specs.declared.group.Group.TheVariants.{Programs, Params, Controls, Wheels, Released, Struck, Pressures, Polys}
use Rattle.jm_receiver.specs.declared.heard.HeardKind.{HeardKind}
use Rattle.jm_receiver.specs.declared.heard.HeardKind.TheVariants.{Repaired}
use Rattle.jm_receiver.specs.declared.heard.Hearing.{Hearing}
use Rattle.jm_receiver.specs.Group.{is_of, all_groups, all_channels}
use Rattle.jm_receiver.specs.HandedOn.{handed_on_if_new, handed_on, control_handed_on, half_handed_on, reset_handed_on, resets_handed_on, message_handed_on, message_handed_on_if_counting, messages_handed_on, song_handed_on, songs_handed_on, value_or_zero, low_bank_handed_on_if_new, bank_handed_on, program_is, program_handed_on_if_new, halves_are, param_handed_on_if_new, rpn_handed_on, nrpn_handed_on, selection_handed_on, selection_handed_on_after_params, kind_of, command_handed_on_if_new, log_handed_on, log_handed_on_of, group_handed_on, controls_handed_on, channel_handed_on, repair_handed_on}
use Rattle.jm_receiver.specs.MessageLaw.{and_false}
use Rattle.jm_receiver.specs.Order.{channel_log_is, session_log_is, high_is, session_done}
use Rattle.jm_receiver.specs.Repair.{is_reset_log, has_reset, cleared, counts, is_ahead, with_message, messages_repaired, with_session_log, session_repaired, applied_if, high_entered, low_entered, with_channel_log, with_log_of, group_repaired, channel_repaired, repaired}

-- Two whole states, the listener's and the one under repair, have the same song, number of messages, wheels, sounding notes and pressures,
-- the same programs but of these channels, and the same controls but these.
pub record Follows (programs : ℕ → Bool) (controls : (channel number : ℕ) → Bool) (t s : State) : Type 0 where
  pub left : IsState t
  pub right : IsState s
  pub song : song_of t ≡ song_of s
  pub sysex_count : sysex_count_of t ≡ sysex_count_of s
  pub program : (channel : ℕ) → channel < 16 → programs channel ≡ false → program_of t channel ≡ program_of s channel
  pub control : (channel number : ℕ) → channel < 16 → number < 128 → controls channel number ≡ false → control_of t channel number ≡ control_of s channel number
  pub wheel : (channel : ℕ) → channel < 16 → wheel_of t channel ≡ wheel_of s channel
  pub note : (channel note : ℕ) → channel < 16 → note < 128 → note_of t channel note ≡ note_of s channel note
  pub pressure : (channel : ℕ) → channel < 16 → pressure_of t channel ≡ pressure_of s channel
  pub poly : (channel note : ℕ) → channel < 16 → note < 128 → poly_of t channel note ≡ poly_of s channel note

-- every whole state follows itself
pub self_follows : (programs : ℕ → Bool) (controls : (channel number : ℕ) → Bool) (s : State) → IsState s → Follows programs controls s s
self_follows programs controls s is = record {
  left = is;
  right = is;
  song = refl;
  sysex_count = refl;
  program = λ channel l n. refl;
  control = λ channel number l k n. refl;
  wheel = λ channel l. refl;
  note = λ channel note l k. refl;
  pressure = λ channel l. refl;
  poly = λ channel note l k. refl;
}

-- ## Commands

abbrev is_program : Command → Bool
is_program (commands.Program channel program) = true
is_program command = false

other_program : (channel : ℕ) (high low : Option ℕ) (command : Command) → is_program command ≡ false → program_says channel high low command ≡ ended (is_reset command)
other_program channel high low (commands.Program at program) h = absurd (let f : true ≡ false = h in cc)
other_program channel high low command h = refl

-- controllers that enter or select a parameter
abbrev is_silent : ControlKind → Bool
is_silent (numbers.DataEntry high) = true
is_silent (numbers.Selection nrpn high) = true
is_silent kind = false

silent_control : (kind other : ControlKind) (number control value : ℕ) → is_silent kind ≡ true → controller_says kind other number control value ≡ None
silent_control (numbers.DataEntry high) other number control value h = refl
silent_control (numbers.Selection nrpn high) other number control value h = refl
silent_control kind other number control value h = absurd (let f : false ≡ true = h in cc)

silent_notes : (kind : ControlKind) → is_silent kind ≡ true → clears_notes kind ≡ false
silent_notes (numbers.DataEntry high) h = refl
silent_notes (numbers.Selection nrpn high) h = refl
silent_notes kind h = absurd (let f : false ≡ true = h in cc)

silent_controllers : (kind : ControlKind) → is_silent kind ≡ true → clears_controllers kind ≡ false
silent_controllers (numbers.DataEntry high) h = refl
silent_controllers (numbers.Selection nrpn high) h = refl
silent_controllers kind h = absurd (let f : false ≡ true = h in cc)

cond_none : {V : Type 0} (b : Bool) → cond {A = Option (Option V)} b None None ≡ None
cond_none true = refl
cond_none false = refl

-- Controls 0 and 32 say something of themselves alone
bank_says : (number control value : ℕ) → (eqb number 0 || eqb number 32) ≡ true → eqb number control ≡ false → controller_says (control_kind number) (control_kind control) number control value ≡ None
unfolding control_kind
bank_says number control value h f =
    elim (cases_Bool (eqb number 0)) [
      | inl t ↦ said_at 0 (eqb-true number 0 t) (λ g. rw g refl)
      | inr n ↦ said_at 32 (eqb-true number 32 (rw n at h)) (λ g. rw g refl)
    ]
  where
    said_at : (k : ℕ) → number ≡ k → (eqb k control ≡ false → controller_says (control_kind k) (control_kind control) k control value ≡ None) → controller_says (control_kind number) (control_kind control) number control value ≡ None
    said_at k same g =
        subst (λ n. controller_says (control_kind n) (control_kind control) n control value ≡ None) (sym same) (g (subst (λ n. eqb n control ≡ false) same f))

bank_notes : (number : ℕ) → (eqb number 0 || eqb number 32) ≡ true → clears_notes (control_kind number) ≡ false
unfolding control_kind
bank_notes number h =
    elim (cases_Bool (eqb number 0)) [
      | inl t ↦ let same : number ≡ 0 = eqb-true number 0 t in rw same refl
      | inr n ↦ let same : number ≡ 32 = eqb-true number 32 (rw n at h) in rw same refl
    ]

bank_controllers : (number : ℕ) → (eqb number 0 || eqb number 32) ≡ true → clears_controllers (control_kind number) ≡ false
unfolding control_kind
bank_controllers number h =
    elim (cases_Bool (eqb number 0)) [
      | inl t ↦ let same : number ≡ 0 = eqb-true number 0 t in rw same refl
      | inr n ↦ let same : number ≡ 32 = eqb-true number 32 (rw n at h) in rw same refl
    ]

module _ (programs : ℕ → Bool) (controls : (channel number : ℕ) → Bool) where
  -- the listener's state is as another
  same_follows : (t u s : State) → AreSame t u → IsState u → Follows programs controls t s → Follows programs controls u s
  same_follows t u s a is f = record {
    left = is;
    right = f.right;
    song = sym a.song ∙ f.song;
    sysex_count = sym a.sysex_count ∙ f.sysex_count;
    program = λ channel l n. sym (a.program channel l) ∙ f.program channel l n;
    control = λ channel number l k n. sym (a.control channel number l k) ∙ f.control channel number l k n;
    wheel = λ channel l. sym (a.wheel channel l) ∙ f.wheel channel l;
    note = λ channel note l k. sym (a.note channel note l k) ∙ f.note channel note l k;
    pressure = λ channel l. sym (a.pressure channel l) ∙ f.pressure channel l;
    poly = λ channel note l k. sym (a.poly channel note l k) ∙ f.poly channel note l k;
  }

  -- A command that isn't a program is applied to both.
  both_applied : (t s : State) (command : Command) → is_program command ≡ false → Follows programs controls t s → Follows programs controls (applied t command) (applied s command)
  both_applied t s command other f =
      let a = by_part t command f.left in
      let b = by_part s command f.right in
      record {
        left = state_after_is t command f.left;
        right = state_after_is s command f.right;
        song = a.song ∙ ap (said (song_says command)) f.song ∙ sym b.song;
        sysex_count = a.sysex_count ∙ ap (λ (n : ℕ). count_after n command) f.sysex_count ∙ sym b.sysex_count;
        program = λ channel l n.
            a.program channel l
            ∙ ap (λ (o : Option (Option ProgramPart)). said o (program_of t channel)) (other_program channel (control_of t channel 0) (control_of t channel 32) command other)
            ∙ ap (said (ended (is_reset command))) (f.program channel l n)
            ∙ sym (b.program channel l ∙ ap (λ (o : Option (Option ProgramPart)). said o (program_of s channel)) (other_program channel (control_of s channel 0) (control_of s channel 32) command other));
        control = λ channel number l k n. a.control channel number l k ∙ ap (said (control_says channel number command)) (f.control channel number l k n) ∙ sym (b.control channel number l k);
        wheel = λ channel l. a.wheel channel l ∙ ap (said (wheel_says channel command)) (f.wheel channel l) ∙ sym (b.wheel channel l);
        note = λ channel note l k. a.note channel note l k ∙ ap (said (note_says channel note command)) (f.note channel note l k) ∙ sym (b.note channel note l k);
        pressure = λ channel l. a.pressure channel l ∙ ap (said (pressure_says channel command)) (f.pressure channel l) ∙ sym (b.pressure channel l);
        poly = λ channel note l k. a.poly channel note l k ∙ ap (said (poly_says channel note command)) (f.poly channel note l k) ∙ sym (b.poly channel note l k);
      }

  -- A control of the listener alone that speaks of no controls but those that aren't compared.
  control_applied : (t s : State) (at number value : ℕ) → clears_notes (control_kind number) ≡ false → clears_controllers (control_kind number) ≡ false →
      ((channel control : ℕ) → control < 128 → controls channel control ≡ false → control_says channel control (commands.Control at number value) ≡ None) →
      Follows programs controls t s → Follows programs controls (applied t (commands.Control at number value)) s
  control_applied t s at number value notes controllers silent f =
      let command = commands.Control at number value in
      let a = by_part t command f.left in
      record {
        left = state_after_is t command f.left;
        right = f.right;
        song = a.song ∙ f.song;
        sysex_count = a.sysex_count ∙ f.sysex_count;
        program = λ channel l n. a.program channel l ∙ f.program channel l n;
        control = λ channel control l k n. a.control channel control l k ∙ ap (λ (o : Option (Option ℕ)). said o (control_of t channel control)) (silent channel control k n) ∙ f.control channel control l k n;
        wheel = λ channel l. a.wheel channel l ∙ rw (controllers, and_false (eqb at channel)) (f.wheel channel l);
        note = λ channel note l k. a.note channel note l k ∙ rw (notes, and_false (eqb at channel)) (f.note channel note l k);
        pressure = λ channel l. a.pressure channel l ∙ rw (notes, controllers, and_false (eqb at channel)) (f.pressure channel l);
        poly = λ channel note l k. a.poly channel note l k ∙ rw (controllers, and_false (eqb at channel)) (f.poly channel note l k);
      }

  silent_applied : (t s : State) (at number value : ℕ) → is_silent (control_kind number) ≡ true → Follows programs controls t s → Follows programs controls (applied t (commands.Control at number value)) s
  silent_applied t s at number value h f =
      control_applied t s at number value (silent_notes (control_kind number) h) (silent_controllers (control_kind number) h)
      (λ channel control k n. ap (λ (o : Option (Option ℕ)). cond (eqb at channel) o None) (silent_control (control_kind number) (control_kind control) number control value h) ∙ cond_none (eqb at channel)) f

  bank_applied : (t s : State) (at number value : ℕ) → (eqb number 0 || eqb number 32) ≡ true → controls at number ≡ true → Follows programs controls t s → Follows programs controls (applied t (commands.Control at number value)) s
  bank_applied t s at number value h aside f =
      control_applied t s at number value (bank_notes number h) (bank_controllers number h)
      (λ channel control k n. elim (cases_Bool (eqb at channel)) [
        | inl e ↦ elim (cases_Bool (eqb number control)) [
          | inl same ↦
              let here : controls at number ≡ controls channel control = ap (λ c. controls c number) (eqb-true at channel e) ∙ ap (controls channel) (eqb-true number control same) in
              absurd (let b : true ≡ false = sym aside ∙ here ∙ n in cc)
          | inr apart ↦ rw e (bank_says number control value h apart)
        ]
        | inr apart ↦ rw apart refl
      ]) f

  program_applied : (t s : State) (at program : ℕ) → programs at ≡ true → Follows programs controls t s → Follows programs controls (applied t (commands.Program at program)) s
  program_applied t s at program aside f =
      let command = commands.Program at program in
      let a = by_part t command f.left in
      record {
        left = state_after_is t command f.left;
        right = f.right;
        song = a.song ∙ f.song;
        sysex_count = a.sysex_count ∙ f.sysex_count;
        program = λ channel l n. elim (cases_Bool (eqb at channel)) [
          | inl e ↦ absurd (let b : true ≡ false = sym aside ∙ ap programs (eqb-true at channel e) ∙ n in cc)
          | inr apart ↦ a.program channel l ∙ rw apart (f.program channel l n)
        ];
        control = λ channel control l k n. a.control channel control l k ∙ f.control channel control l k n;
        wheel = λ channel l. a.wheel channel l ∙ f.wheel channel l;
        note = λ channel note l k. a.note channel note l k ∙ f.note channel note l k;
        pressure = λ channel l. a.pressure channel l ∙ f.pressure channel l;
        poly = λ channel note l k. a.poly channel note l k ∙ f.poly channel note l k;
      }

  -- ## What is handed on

  if_new : (h : Hearing) (command : Command) (kind : HeardKind) (s : State) → IsState h.state → Follows programs controls (applied h.state command) s → Follows programs controls (handed_on_if_new h command kind).state s
  unfolding handed_on_if_new
  if_new h command kind s is f =
      elim (cases_Bool (same_states (applied h.state command) h.state)) [
        | inl t ↦ rw t (same_follows (applied h.state command) h.state s (states_parts (applied h.state command) h.state t) is f)
        | inr n ↦ rw n f
      ]

  silent_handed : (h : Hearing) (s : State) (at number value : ℕ) → is_silent (control_kind number) ≡ true → Follows programs controls h.state s → Follows programs controls (control_handed_on h at number value).state s
  unfolding handed_on
  silent_handed h s at number value k f = silent_applied h.state s at number value k f

  half_handed : (h : Hearing) (s : State) (at number : ℕ) (value : Option ℕ) → is_silent (control_kind number) ≡ true → Follows programs controls h.state s → Follows programs controls (half_handed_on h at number value).state s
  half_handed h s at number None k f = f
  half_handed h s at number (Some value) k f = silent_handed h s at number value k f

  bank_handed : (h : Hearing) (s : State) (at number value : ℕ) → (eqb number 0 || eqb number 32) ≡ true → controls at number ≡ true → Follows programs controls h.state s → Follows programs controls (control_handed_on h at number value).state s
  unfolding handed_on
  bank_handed h s at number value k aside f = bank_applied h.state s at number value k aside f

  low_handed : (h : Hearing) (s : State) (at low : ℕ) → controls at 32 ≡ true → Follows programs controls h.state s → Follows programs controls (low_bank_handed_on_if_new h at low).state s
  low_handed h s at low aside f =
      elim (cases_Bool (eqb (value_or_zero (control_of h.state at 32)) low)) [
        | inl t ↦ rw t f
        | inr n ↦ rw n (bank_handed h s at 32 low refl aside f)
      ]

  banks_handed : (h : Hearing) (s : State) (at : ℕ) (bank : Option (ℕ × ℕ)) → controls at 0 ≡ true → controls at 32 ≡ true → Follows programs controls h.state s → Follows programs controls (bank_handed_on h at bank).state s
  banks_handed h s at None high low f = f
  banks_handed h s at (Some bank) high low f = low_handed (control_handed_on h at 0 bank.0) s at bank.1 low (bank_handed h s at 0 bank.0 refl high f)

  program_handed : (h : Hearing) (s : State) (at program : ℕ) (bank : Option (ℕ × ℕ)) → programs at ≡ true → controls at 0 ≡ true → controls at 32 ≡ true → Follows programs controls h.state s → Follows programs controls (program_handed_on_if_new h at program bank).state s
  unfolding program_handed_on_if_new handed_on
  program_handed h s at program bank aside high low f =
      elim (cases_Bool (program_is (program_of h.state at) program bank)) [
        | inl t ↦ rw t f
        | inr n ↦ rw n (program_applied (bank_handed_on h at bank).state s at program aside (banks_handed h s at bank high low f))
      ]

  selects_high : (nrpn : Bool) → is_silent (control_kind (cond nrpn 99 101)) ≡ true
  unfolding control_kind
  selects_high true = refl
  selects_high false = refl

  selects_low : (nrpn : Bool) → is_silent (control_kind (cond nrpn 98 100)) ≡ true
  unfolding control_kind
  selects_low true = refl
  selects_low false = refl

  enters : (high : Bool) → is_silent (control_kind (cond high 6 38)) ≡ true
  unfolding control_kind
  enters true = refl
  enters false = refl

  param_handed : (h : Hearing) (s : State) (at : ℕ) (nrpn : Bool) (high low : ℕ) (entry_high entry_low : Option ℕ) → Follows programs controls h.state s → Follows programs controls (param_handed_on_if_new h at nrpn high low entry_high entry_low).state s
  unfolding param_handed_on_if_new
  param_handed h s at nrpn high low entry_high entry_low f =
      let one = control_handed_on h at (cond nrpn 99 101) high in
      let two = control_handed_on one at (cond nrpn 98 100) low in
      elim (cases_Bool (halves_are (param_of h.state at nrpn high low) entry_high entry_low)) [
        | inl t ↦ rw t f
        | inr n ↦ rw n
            (half_handed (half_handed_on two at 6 entry_high) s at 38 entry_low (enters false)
            (half_handed two s at 6 entry_high (enters true)
            (silent_handed one s at (cond nrpn 98 100) low (selects_low nrpn) (silent_handed h s at (cond nrpn 99 101) high (selects_high nrpn) f))))
      ]

  rpn_handed : (h : Hearing) (s : State) (at : ℕ) (selection : Selection) → Follows programs controls h.state s → Follows programs controls (rpn_handed_on h at selection).state s
  rpn_handed h s at selection f =
      half_handed (half_handed_on h at 101 selection.rpn_high) s at 100 selection.rpn_low (selects_low false) (half_handed h s at 101 selection.rpn_high (selects_high false) f)

  nrpn_handed : (h : Hearing) (s : State) (at : ℕ) (selection : Selection) → Follows programs controls h.state s → Follows programs controls (nrpn_handed_on h at selection).state s
  nrpn_handed h s at selection f =
      half_handed (half_handed_on h at 99 selection.nrpn_high) s at 98 selection.nrpn_low (selects_low true) (half_handed h s at 99 selection.nrpn_high (selects_high true) f)

  selection_handed : (h : Hearing) (s : State) (at : ℕ) (selection : Option Selection) → Follows programs controls h.state s → Follows programs controls (selection_handed_on h at selection).state s
  unfolding selection_handed_on
  selection_handed h s at None f = f
  selection_handed h s at (Some selection) f =
      elim (cases_Bool selection.nrpn) [
        | inl t ↦ rw t (nrpn_handed (rpn_handed_on h at selection) s at selection (rpn_handed h s at selection f))
        | inr n ↦ rw n (rpn_handed (nrpn_handed_on h at selection) s at selection (nrpn_handed h s at selection f))
      ]

  pub after_params : (before after : ℕ) (h : Hearing) (s : State) (at : ℕ) (selection : Option Selection) → Follows programs controls h.state s → Follows programs controls (selection_handed_on_after_params before after h at selection).state s
  after_params before after h s at selection f = elim (cases_Bool (eqb before after)) [ inl t ↦ rw t f | inr n ↦ rw n (selection_handed h s at selection f) ]

  -- ## A log

  -- the parts that its log sets aren't compared, if it is one of a program
  abbrev pub Allows : LogKind → Type 0
  Allows (kinds.Program at program bank) = (programs at ≡ true) × (controls at 0 ≡ true) × (controls at 32 ≡ true)
  Allows log = Unit {0}

  program_set : (t s : State) (at : ℕ) (value : Option ProgramPart) → programs at ≡ true → IsState (with_program s at value) → Follows programs controls t s → Follows programs controls t (with_program s at value)
  program_set t s at value aside is f =
      let b = program_alone s at value f.right in
      record {
        left = f.left;
        right = is;
        song = f.song ∙ sym (b.song refl);
        sysex_count = f.sysex_count ∙ sym (b.sysex_count refl);
        program = λ channel l n. elim (cases_Bool (eqb at channel)) [
          | inl e ↦ absurd (let both : true ≡ false = sym aside ∙ ap programs (eqb-true at channel e) ∙ n in cc)
          | inr apart ↦ f.program channel l n ∙ sym (b.program channel l apart)
        ];
        control = λ channel control l k n. f.control channel control l k n ∙ sym (b.control channel control l k refl);
        wheel = λ channel l. f.wheel channel l ∙ sym (b.wheel channel l refl);
        note = λ channel note l k. f.note channel note l k ∙ sym (b.note channel note l k refl);
        pressure = λ channel l. f.pressure channel l ∙ sym (b.pressure channel l refl);
        poly = λ channel note l k. f.poly channel note l k ∙ sym (b.poly channel note l k refl);
      }

  -- what isn't compared of the state under repair is set
  aside_set : (own : ℕ → Bool) (t s u : State) → SameBut (record nothing { params = own }) s u → IsState u → Follows programs controls t s → Follows programs controls t u
  aside_set own t s u b is f = record {
    left = f.left;
    right = is;
    song = f.song ∙ sym (b.song refl);
    sysex_count = f.sysex_count ∙ sym (b.sysex_count refl);
    program = λ channel l n. f.program channel l n ∙ sym (b.program channel l refl);
    control = λ channel control l k n. f.control channel control l k n ∙ sym (b.control channel control l k refl);
    wheel = λ channel l. f.wheel channel l ∙ sym (b.wheel channel l refl);
    note = λ channel note l k. f.note channel note l k ∙ sym (b.note channel note l k refl);
    pressure = λ channel l. f.pressure channel l ∙ sym (b.pressure channel l refl);
    poly = λ channel note l k. f.poly channel note l k ∙ sym (b.poly channel note l k refl);
  }

  high_set : (t s : State) (at : ℕ) (nrpn : Bool) (high low : ℕ) (value : Option ℕ) → Follows programs controls t s → Follows programs controls t (high_entered s at nrpn high low value)
  high_set t s at nrpn high low None f = f
  high_set t s at nrpn high low (Some value) f =
      aside_set (λ channel. eqb at channel) t s (high_entered s at nrpn high low (Some value)) (param_high_alone s at nrpn high low (Some value) f.right) (high_is s at nrpn high low (Some value) f.right) f

  low_set : (t s : State) (at : ℕ) (nrpn : Bool) (high low : ℕ) (value : Option ℕ) → IsState (low_entered s at nrpn high low value) → Follows programs controls t s → Follows programs controls t (low_entered s at nrpn high low value)
  low_set t s at nrpn high low None is f = f
  low_set t s at nrpn high low (Some value) is f =
      aside_set (λ channel. eqb at channel) t s (low_entered s at nrpn high low (Some value)) (param_low_alone s at nrpn high low (Some value) f.right) is f

  toggles_set : (t s : State) (at count : ℕ) → IsState (with_toggles s at count) → Follows programs controls t s → Follows programs controls t (with_toggles s at count)
  toggles_set t s at count is f =
      let b = toggles_alone s at count f.right in
      record {
        left = f.left;
        right = is;
        song = f.song ∙ sym (b.song refl);
        sysex_count = f.sysex_count ∙ sym (b.sysex_count refl);
        program = λ channel l n. f.program channel l n ∙ sym (b.program channel l refl);
        control = λ channel control l k n. f.control channel control l k n ∙ sym (b.control channel control l k refl);
        wheel = λ channel l. f.wheel channel l ∙ sym (b.wheel channel l refl);
        note = λ channel note l k. f.note channel note l k ∙ sym (b.note channel note l k refl);
        pressure = λ channel l. f.pressure channel l ∙ sym (b.pressure channel l refl);
        poly = λ channel note l k. f.poly channel note l k ∙ sym (b.poly channel note l k refl);
      }

  abbrev is_plain : Option Command → Bool
  is_plain None = true
  is_plain (Some (commands.Program channel program)) = false
  is_plain (Some command) = true

  plain_other : (command : Command) → is_plain (Some command) ≡ true → is_program command ≡ false
  plain_other (commands.Program channel program) h = absurd (let b : false ≡ true = h in cc)
  plain_other command h = refl

  command_follows : (h : Hearing) (s : State) (command : Option Command) (kind : HeardKind) → is_plain command ≡ true → Follows programs controls h.state s → Follows programs controls (command_handed_on_if_new h command kind).state (applied_if s command)
  command_follows h s None kind p f = f
  command_follows h s (Some command) kind p f = if_new h command kind (applied s command) f.left (both_applied h.state s command (plain_other command p) f)

  pub log_follows : (h : Hearing) (s : State) (log : LogKind) → Allows log → Follows programs controls h.state s → Follows programs controls (log_handed_on h log).state (with_channel_log s log)
  log_follows h s (kinds.Program at program bank) allowed f =
      program_handed h (with_channel_log s (kinds.Program at program bank)) at program bank allowed.0 allowed.1 allowed.2
      (program_set h.state s at (Some (record { program = program; bank = bank })) allowed.0 (channel_log_is s (kinds.Program at program bank) f.right) f)
  log_follows h s (kinds.Param at nrpn high low entry_high entry_low) allowed f =
      let log = kinds.Param at nrpn high low entry_high entry_low in
      param_handed h (with_channel_log s log) at nrpn high low entry_high entry_low
      (low_set h.state (high_entered s at nrpn high low entry_high) at nrpn high low entry_low (channel_log_is s log f.right) (high_set h.state s at nrpn high low entry_high f))
  log_follows h s (kinds.Toggle at count) allowed f = toggles_set h.state s at (count % 64) (channel_log_is s (kinds.Toggle at count) f.right) f
  log_follows h s (kinds.Control at number value) allowed f = command_follows h s (Some (commands.Control at number value)) Repaired refl f
  log_follows h s (kinds.Count at number count) allowed f = command_follows h s (Some (commands.Control at number 0)) Repaired refl f
  log_follows h s (kinds.Wheel at first second) allowed f = command_follows h s (Some (commands.Wheel at first second)) Repaired refl f
  log_follows h s (kinds.NoteOff at note) allowed f = command_follows h s (Some (commands.NoteOff at note 64)) Repaired refl f
  log_follows h s (kinds.NoteOn at note velocity soon) allowed f = command_follows h s (Some (commands.NoteOn at note velocity)) (kind_of (kinds.NoteOn at note velocity soon)) refl f
  log_follows h s (kinds.Pressure at value) allowed f = command_follows h s (Some (commands.Pressure at value)) Repaired refl f
  log_follows h s (kinds.Poly at note value) allowed f = command_follows h s (Some (commands.PolyPressure at note value)) Repaired refl f
  log_follows h s log allowed f = f

  -- ## A group

  one_follows : (group : Group) (channel : ℕ) (h : Hearing) (s : State) (log : Log) → (is_of group channel log.what ≡ true → Allows log.what) → Follows programs controls h.state s →
      Follows programs controls (log_handed_on_of group channel h log).state (with_log_of group channel s log)
  one_follows group channel h s log allowed f =
      elim (cases_Bool (is_of group channel log.what)) [
        | inl t ↦ rw t (log_follows h s log.what (allowed t) f)
        | inr n ↦ rw n f
      ]

  logs_follow : (group : Group) (channel : ℕ) (h : Hearing) (s : State) (logs : List Log) → ((log : LogKind) → is_of group channel log ≡ true → Allows log) → Follows programs controls h.state s →
      Follows programs controls (fold (log_handed_on_of group channel) h logs).state (fold (with_log_of group channel) s logs)
  logs_follow group channel h s [] allowed f = f
  logs_follow group channel h s (log ∷ logs) allowed f =
      logs_follow group channel (log_handed_on_of group channel h log) (with_log_of group channel s log) logs allowed (one_follows group channel h s log (allowed log.what) f)

  pub group_follows : (logs : List Log) (group : Group) (channel : ℕ) (h : Hearing) (s : State) → ((log : LogKind) → is_of group channel log ≡ true → Allows log) → Follows programs controls h.state s →
      Follows programs controls (group_handed_on logs channel h group).state (group_repaired logs channel s group)
  unfolding group_handed_on group_repaired
  group_follows logs group channel h s allowed f = logs_follow group channel h s logs allowed f

  -- ## The session

  none_follows : Follows programs controls no_state no_state
  none_follows = self_follows programs controls no_state no_state_is

  reset_follows : (h : Hearing) (s : State) (log : LogKind) → Follows programs controls h.state s → Follows programs controls (reset_handed_on h log).state (cond (is_reset_log log) no_state s)
  reset_follows h s (kinds.Reset count) f = if_new h commands.SystemReset Repaired no_state f.left none_follows
  reset_follows h s (kinds.Sysex count octets) f =
      elim (cases_Bool (is_reset_message octets)) [
        | inl t ↦ rw t (if_new h (commands.Sysex octets) Repaired no_state f.left (rw t none_follows))
        | inr n ↦ rw n f
      ]
  reset_follows h s log f = f

  resets_follow : (h : Hearing) (s : State) (logs : List Log) → Follows programs controls h.state s → Follows programs controls (fold (λ g log. reset_handed_on g log.what) h logs).state (cond (has_reset logs) no_state s)
  resets_follow h s [] f = f
  resets_follow h s (log ∷ logs) f =
      elim (cases_Bool (is_reset_log log.what)) [
        | inl t ↦ rw t (stays (has_reset logs) (resets_follow (reset_handed_on h log.what) no_state logs (rw t at (reset_follows h s log.what f))))
        | inr n ↦ rw n (resets_follow (reset_handed_on h log.what) s logs (rw n at (reset_follows h s log.what f)))
      ]
    where
      stays : (b : Bool) {u : State} → Follows programs controls u (cond b no_state no_state) → Follows programs controls u no_state
      stays true g = g
      stays false g = g

  pub cleared_follow : (logs : List Log) (h : Hearing) (s : State) → Follows programs controls h.state s → Follows programs controls (resets_handed_on logs h).state (cleared logs s)
  unfolding resets_handed_on
  cleared_follow logs h s f = resets_follow h s logs f

-- Its message is a Reset State command or within the bound of those that are counted, if the log is of one.
abbrev pub is_kept_log : LogKind → Bool
is_kept_log (kinds.Sysex count octets) = is_reset_message octets || is_kept_message octets
is_kept_log log = true

abbrev pub AreKept : List Log → Type 0
AreKept logs = AllByRecursion (λ log. is_kept_log log.what ≡ true) logs

module _ (programs : ℕ → Bool) (controls : (channel number : ℕ) → Bool) where
  message_follows : (h : Hearing) (s : State) (octets : List ℕ) → is_reset_message octets ≡ false → is_kept_message octets ≡ true → Follows programs controls h.state s →
      Follows programs controls (handed_on h (commands.Sysex octets)).state (with_sysex_count s ((s.sysex_count + 1) % 256))
  unfolding handed_on
  message_follows h s octets none kept f = rw (none, kept) (record {
    left = record { sixteen = f.left.sixteen; channels = f.left.channels };
    right = record { sixteen = f.right.sixteen; channels = f.right.channels };
    song = f.song;
    sysex_count = ap (λ (n : ℕ). (n + 1) % 256) f.sysex_count;
    program = f.program;
    control = f.control;
    wheel = f.wheel;
    note = f.note;
    pressure = f.pressure;
    poly = f.poly;
  })

  -- what counts is a message that is no reset
  counting_follows : (reset : Bool) (before : ℕ) (h : Hearing) (s : State) (log : LogKind) → is_kept_log log ≡ true → counts reset before log ≡ true → Follows programs controls h.state s →
      Follows programs controls (message_handed_on h log).state (with_sysex_count s ((s.sysex_count + 1) % 256))
  counting_follows reset before h s (kinds.Sysex count octets) kept c f =
      let none : is_reset_message octets ≡ false = not_reset (is_reset_message octets) c in
      message_follows h s octets none (rw none at kept) f
    where
      not_reset : (b : Bool) → (not b && (reset || is_ahead before count)) ≡ true → b ≡ false
      not_reset true e = absurd (let x : false ≡ true = e in cc)
      not_reset false e = refl
  counting_follows reset before h s log kept c f = absurd (let x : false ≡ true = c in cc)

  message_if_follows : (reset : Bool) (before : ℕ) (h : Hearing) (s : State) (log : Log) → is_kept_log log.what ≡ true → Follows programs controls h.state s →
      Follows programs controls (message_handed_on_if_counting reset before h log).state (with_message reset before s log)
  message_if_follows reset before h s log kept f =
      elim (cases_Bool (counts reset before log.what)) [
        | inl t ↦ rw t (counting_follows reset before h s log.what kept t f)
        | inr n ↦ rw n f
      ]

  messages_fold : (reset : Bool) (before : ℕ) (h : Hearing) (s : State) (logs : List Log) → AreKept logs → Follows programs controls h.state s →
      Follows programs controls (fold (message_handed_on_if_counting reset before) h logs).state (fold (with_message reset before) s logs)
  messages_fold reset before h s [] kept f = f
  messages_fold reset before h s (log ∷ logs) kept f =
      messages_fold reset before (message_handed_on_if_counting reset before h log) (with_message reset before s log) logs kept.1 (message_if_follows reset before h s log kept.0 f)

  messages_follow : (logs : List Log) (h : Hearing) (s : State) → AreKept logs → Follows programs controls h.state s → Follows programs controls (messages_handed_on logs h).state (messages_repaired logs s)
  unfolding messages_handed_on
  messages_follow logs h s kept f =
      subst (λ n. Follows programs controls (fold (message_handed_on_if_counting (has_reset logs) n) h logs).state (messages_repaired logs s)) (sym f.sysex_count) (messages_fold (has_reset logs) s.sysex_count h s logs kept f)

  song_follows : (h : Hearing) (s : State) (log : LogKind) → Follows programs controls h.state s → Follows programs controls (song_handed_on h log).state (with_session_log s log)
  song_follows h s (kinds.Song song) f = if_new programs controls h (commands.SongSelect song) Repaired (applied s (commands.SongSelect song)) f.left (both_applied programs controls h.state s (commands.SongSelect song) refl f)
  song_follows h s (kinds.Sequencer running downbeat position) f = record { left = f.left; right = session_log_is s (kinds.Sequencer running downbeat position) f.right; song = f.song; sysex_count = f.sysex_count; program = f.program; control = f.control; wheel = f.wheel; note = f.note; pressure = f.pressure; poly = f.poly }
  song_follows h s (kinds.TimeCode complete partial backward point) f = record { left = f.left; right = session_log_is s (kinds.TimeCode complete partial backward point) f.right; song = f.song; sysex_count = f.sysex_count; program = f.program; control = f.control; wheel = f.wheel; note = f.note; pressure = f.pressure; poly = f.poly }
  song_follows h s log f = f

  songs_fold : (h : Hearing) (s : State) (logs : List Log) → Follows programs controls h.state s → Follows programs controls (fold (λ g log. song_handed_on g log.what) h logs).state (fold (λ t log. with_session_log t log.what) s logs)
  songs_fold h s [] f = f
  songs_fold h s (log ∷ logs) f = songs_fold (song_handed_on h log.what) (with_session_log s log.what) logs (song_follows h s log.what f)

  songs_follow : (logs : List Log) (h : Hearing) (s : State) → Follows programs controls h.state s → Follows programs controls (songs_handed_on logs h).state (session_repaired logs s)
  unfolding songs_handed_on
  songs_follow logs h s f = songs_fold h s logs f

  pub session_follows : (logs : List Log) (h : Hearing) (s : State) → AreKept logs → Follows programs controls h.state s →
      Follows programs controls (songs_handed_on logs (messages_handed_on logs (resets_handed_on logs h))).state (session_done s logs)
  session_follows logs h s kept f =
      songs_follow logs (messages_handed_on logs (resets_handed_on logs h)) (messages_repaired logs (cleared logs s))
      (messages_follow logs (resets_handed_on logs h) (cleared logs s) kept (cleared_follow programs controls logs h s f))

  -- ## A channel

  -- The groups behind a channel's programs. They have no programs among them.
  abbrev later_groups : Group → Bool
  later_groups Programs = false
  later_groups group = true

  no_program : (group : Group) (channel at program : ℕ) (bank : Option (ℕ × ℕ)) → later_groups group ≡ true → is_of group channel (kinds.Program at program bank) ≡ false
  no_program Programs channel at program bank h = absurd (let x : false ≡ true = h in cc)
  no_program Params channel at program bank h = refl
  no_program Controls channel at program bank h = refl
  no_program Wheels channel at program bank h = refl
  no_program Released channel at program bank h = refl
  no_program Struck channel at program bank h = refl
  no_program Pressures channel at program bank h = refl
  no_program Polys channel at program bank h = refl

  others_allow : (group : Group) (channel : ℕ) → later_groups group ≡ true → (log : LogKind) → is_of group channel log ≡ true → Allows programs controls log
  others_allow group channel later (kinds.Program at program bank) h = absurd (let x : true ≡ false = sym h ∙ no_program group channel at program bank later in cc)
  others_allow group channel later (kinds.Param at nrpn high low entry_high entry_low) h = tt
  others_allow group channel later log h = tt

  pub other_follows : (logs : List Log) (group : Group) (channel : ℕ) (h : Hearing) (s : State) → later_groups group ≡ true → Follows programs controls h.state s →
      Follows programs controls (group_handed_on logs channel h group).state (group_repaired logs channel s group)
  other_follows logs group channel h s later f = group_follows programs controls logs group channel h s (others_allow group channel later) f

  pub behind_follows : (logs : List Log) (channel : ℕ) (h : Hearing) (s : State) → Follows programs controls h.state s →
      Follows programs controls
      (group_handed_on logs channel (group_handed_on logs channel (group_handed_on logs channel (group_handed_on logs channel (group_handed_on logs channel h Wheels) Released) Struck) Pressures) Polys).state
      (group_repaired logs channel (group_repaired logs channel (group_repaired logs channel (group_repaired logs channel (group_repaired logs channel s Wheels) Released) Struck) Pressures) Polys)
  behind_follows logs channel h s f =
      let w = group_handed_on logs channel h Wheels in
      let r = group_handed_on logs channel w Released in
      let n = group_handed_on logs channel r Struck in
      let p = group_handed_on logs channel n Pressures in
      let ws = group_repaired logs channel s Wheels in
      let rs = group_repaired logs channel ws Released in
      let ns = group_repaired logs channel rs Struck in
      let ps = group_repaired logs channel ns Pressures in
      other_follows logs Polys channel p ps refl
      (other_follows logs Pressures channel n ns refl
      (other_follows logs Struck channel r rs refl
      (other_follows logs Released channel w ws refl (other_follows logs Wheels channel h s refl f))))

  pub controls_follow : (logs : List Log) (whole : State) (channel : ℕ) (h : Hearing) (s : State) → Follows programs controls h.state s →
      Follows programs controls (controls_handed_on logs whole channel h).state (group_repaired logs channel (group_repaired logs channel s Params) Controls)
  unfolding controls_handed_on
  controls_follow logs whole channel h s f =
      let entered = group_handed_on logs channel h Params in
      after_params programs controls (length h.heard) (length entered.heard) (group_handed_on logs channel entered Controls) (group_repaired logs channel (group_repaired logs channel s Params) Controls) channel (selection_of whole channel)
      (other_follows logs Controls channel entered (group_repaired logs channel s Params) refl (other_follows logs Params channel h s refl f))

-- ## Whatever is repaired

-- all channels, and of each the two controls that tell a bank
abbrev pub all_programs : ℕ → Bool
all_programs channel = true

abbrev pub bank_controls : (channel number : ℕ) → Bool
bank_controls channel number = eqb number 0 || eqb number 32

all_allow : (log : LogKind) → Allows all_programs bank_controls log
all_allow (kinds.Program at program bank) = (refl, refl, refl)
all_allow (kinds.Param at nrpn high low entry_high entry_low) = tt
all_allow log = tt

channel_follows : (logs : List Log) (whole : State) (h : Hearing) (s : State) (channel : ℕ) → Follows all_programs bank_controls h.state s → Follows all_programs bank_controls (channel_handed_on logs whole h channel).state (channel_repaired logs s channel)
unfolding channel_handed_on channel_repaired all_groups
channel_follows logs whole h s channel f =
    let p = group_handed_on logs channel h Programs in
    let ps = group_repaired logs channel s Programs in
    behind_follows all_programs bank_controls logs channel (controls_handed_on logs whole channel p) (group_repaired logs channel (group_repaired logs channel ps Params) Controls)
    (controls_follow all_programs bank_controls logs whole channel p ps (group_follows all_programs bank_controls logs Programs channel h s (λ log is. all_allow log) f))

channels_follow : (logs : List Log) (whole : State) (h : Hearing) (s : State) (channels : List ℕ) → Follows all_programs bank_controls h.state s →
    Follows all_programs bank_controls (fold (channel_handed_on logs whole) h channels).state (fold (channel_repaired logs) s channels)
channels_follow logs whole h s [] f = f
channels_follow logs whole h s (channel ∷ channels) f =
    channels_follow logs whole (channel_handed_on logs whole h channel) (channel_repaired logs s channel) channels (channel_follows logs whole h s channel f)

pub repair_follows : (logs : List Log) (whole : State) (h : Hearing) (s : State) → AreKept logs → Follows all_programs bank_controls h.state s →
    Follows all_programs bank_controls (repair_handed_on logs whole h).state (repaired s logs)
unfolding repair_handed_on repaired
repair_follows logs whole h s kept f =
    channels_follow logs whole (songs_handed_on logs (messages_handed_on logs (resets_handed_on logs h))) (session_done s logs) all_channels (session_follows all_programs bank_controls logs h s kept f)
