-- What each command that repair hands on does to the selection of a listener's channel.
use Rattle.std.proofs.Common.{◌≡◌, ℕ, ◌<◌, Bool, true, false, cond, eqb, List, [], ◌∷◌, Option, Some, None, fold, refl, sym, ap, ◌∙◌, inl, inr}
use Rattle.std.specs.List.{filter}
use Rattle.std.proofs.lemmas.Bool.{cases_Bool, eqb-true, eq-eqb, and_parts}
use Rattle.jm_cmds.specs.declared.commands.Command.{Command}
use Rattle.jm_cmds.specs.declared.commands.Command.TheVariants as commands
use Rattle.jm_cmds.specs.declared.selection.ParamCommand.{ParamCommand}
use Rattle.jm_cmds.specs.declared.selection.ParamCommand.TheVariants.{Pass}
use Rattle.jm_cmds.specs.declared.selection.Selection.{Selection}
use Rattle.jm_cmds.specs.Control.{control_kind}
use Rattle.jm_cmds.specs.Selection.{param_command}
use Rattle.jm_state.specs.declared.state.State.{State}
use Rattle.jm_state.specs.Apply.{applied}
use Rattle.jm_state.specs.Final.{final, final-filter}
use Rattle.jm_state.specs.Kept.{IsState}
use Rattle.jm_state.specs.KeptLaws.{state_after_is}
use Rattle.jm_state.specs.PartLaws.{by_part}
use Rattle.jm_state.specs.Parts.{program_of, control_of, selection_of, param_of}
use Rattle.jm_state.specs.Replay.{said-over}
use Rattle.jm_state.specs.Sameness.{same_states, states_parts}
use Rattle.jm_state.specs.Says.{said, selection_behind}
use Rattle.jm_reader.specs.declared.logs.Log.{Log}
use Rattle.jm_reader.specs.declared.logs.LogKind.{LogKind}
use Rattle.jm_reader.specs.declared.logs.LogKind.TheVariants as kinds
use Rattle.jm_receiver.specs.declared.group.Group.{Group}
use Rattle.jm_receiver.specs.declared.group.Group.TheVariants.{Params, Controls}
use Rattle.jm_receiver.specs.declared.heard.HeardKind.{HeardKind}
use Rattle.jm_receiver.specs.declared.heard.HeardKind.TheVariants.{Repaired}
use Rattle.jm_receiver.specs.declared.heard.Hearing.{Hearing}
use Rattle.jm_receiver.specs.Group.{is_of}
use Rattle.jm_receiver.specs.HandedOn.{handed_on_if_new, handed_on, control_handed_on, half_handed_on, value_or_zero, low_bank_handed_on_if_new, bank_handed_on, program_is, program_handed_on_if_new, halves_are, param_handed_on_if_new, rpn_handed_on, nrpn_handed_on, selection_handed_on, selection_handed_on_after_params, kind_of, log_handed_on, log_handed_on_of, group_handed_on}
use Rattle.jm_receiver.specs.Order.{log_says, tag, rank, is_tagged, is_of-tag}
use Rattle.jm_receiver.specs.SelectionLaw.{Key, key_log_says, key_is}

-- A listener's state is one, and has this selection in the channel.
pub record Keeps (channel : ℕ) (chosen : Option Selection) (t : State) : Type 0 where
  pub is : IsState t
  pub same : selection_of t channel ≡ chosen

-- a log that does nothing to the selection of the channel
abbrev pub Quiet : (channel : ℕ) → LogKind → Type 0
Quiet channel (kinds.Param at nrpn high low entry_high entry_low) = eqb at channel ≡ false
Quiet channel (kinds.Control at number value) = eqb at channel ≡ false
Quiet channel (kinds.Count at number count) = eqb at channel ≡ false
Quiet channel log = Unit {0}

module _ (channel : ℕ) (l : channel < 16) where
  self : eqb channel channel ≡ true
  self = eq-eqb channel channel refl

  -- ## Commands that do nothing to it

  pub applied_keeps : (t : State) (chosen : Option Selection) (command : Command) → param_command channel command ≡ Pass → Keeps channel chosen t → Keeps channel chosen (applied t command)
  applied_keeps t chosen command e k = record {
    is = state_after_is t command k.is;
    same = (by_part t command k.is).selection channel l ∙ ap (selection_behind (selection_of t channel)) e ∙ k.same;
  }

  other_passes : (at number value : ℕ) → eqb at channel ≡ false → param_command channel (commands.Control at number value) ≡ Pass
  other_passes at number value f = rw f refl

  bank_passes : (high : Bool) (at value : ℕ) → param_command channel (commands.Control at (cond high 0 32) value) ≡ Pass
  unfolding control_kind
  bank_passes true at value = elim (cases_Bool (eqb at channel)) [ inl t ↦ rw t refl | inr f ↦ rw f refl ]
  bank_passes false at value = elim (cases_Bool (eqb at channel)) [ inl t ↦ rw t refl | inr f ↦ rw f refl ]

  pub one_keeps : (h : Hearing) (chosen : Option Selection) (command : Command) → param_command channel command ≡ Pass → Keeps channel chosen h.state → Keeps channel chosen (handed_on h command).state
  unfolding handed_on
  one_keeps h chosen command e k = applied_keeps h.state chosen command e k

  pub if_new_keeps : (h : Hearing) (chosen : Option Selection) (command : Command) (kind : HeardKind) → param_command channel command ≡ Pass → Keeps channel chosen h.state → Keeps channel chosen (handed_on_if_new h command kind).state
  unfolding handed_on_if_new
  if_new_keeps h chosen command kind e k =
      elim (cases_Bool (same_states (applied h.state command) h.state)) [ inl t ↦ rw t k | inr f ↦ rw f (applied_keeps h.state chosen command e k) ]

  half_keeps : (h : Hearing) (chosen : Option Selection) (at number : ℕ) (value : Option ℕ) → eqb at channel ≡ false → Keeps channel chosen h.state → Keeps channel chosen (half_handed_on h at number value).state
  half_keeps h chosen at number None f k = k
  half_keeps h chosen at number (Some value) f k = one_keeps h chosen (commands.Control at number value) (other_passes at number value f) k

  low_keeps : (h : Hearing) (chosen : Option Selection) (at low : ℕ) → Keeps channel chosen h.state → Keeps channel chosen (low_bank_handed_on_if_new h at low).state
  low_keeps h chosen at low k =
      elim (cases_Bool (eqb (value_or_zero (control_of h.state at 32)) low)) [
        | inl t ↦ rw t k
        | inr f ↦ rw f (one_keeps h chosen (commands.Control at 32 low) (bank_passes false at low) k)
      ]

  bank_keeps : (h : Hearing) (chosen : Option Selection) (at : ℕ) (bank : Option (ℕ × ℕ)) → Keeps channel chosen h.state → Keeps channel chosen (bank_handed_on h at bank).state
  bank_keeps h chosen at None k = k
  bank_keeps h chosen at (Some bank) k = low_keeps (control_handed_on h at 0 bank.0) chosen at bank.1 (one_keeps h chosen (commands.Control at 0 bank.0) (bank_passes true at bank.0) k)

  program_keeps : (h : Hearing) (chosen : Option Selection) (at program : ℕ) (bank : Option (ℕ × ℕ)) → Keeps channel chosen h.state → Keeps channel chosen (program_handed_on_if_new h at program bank).state
  unfolding program_handed_on_if_new
  program_keeps h chosen at program bank k =
      elim (cases_Bool (program_is (program_of h.state at) program bank)) [
        | inl t ↦ rw t k
        | inr f ↦ rw f (one_keeps (bank_handed_on h at bank) chosen (commands.Program at program) refl (bank_keeps h chosen at bank k))
      ]

  param_keeps : (h : Hearing) (chosen : Option Selection) (at : ℕ) (nrpn : Bool) (high low : ℕ) (entry_high entry_low : Option ℕ) → eqb at channel ≡ false → Keeps channel chosen h.state → Keeps channel chosen (param_handed_on_if_new h at nrpn high low entry_high entry_low).state
  unfolding param_handed_on_if_new
  param_keeps h chosen at nrpn high low entry_high entry_low f k =
      let one = control_handed_on h at (cond nrpn 99 101) high in
      let two = control_handed_on one at (cond nrpn 98 100) low in
      elim (cases_Bool (halves_are (param_of h.state at nrpn high low) entry_high entry_low)) [
        | inl t ↦ rw t k
        | inr n ↦ rw n
            (half_keeps (half_handed_on two at 6 entry_high) chosen at 38 entry_low f
            (half_keeps two chosen at 6 entry_high f
            (one_keeps one chosen (commands.Control at (cond nrpn 98 100) low) (other_passes at (cond nrpn 98 100) low f)
            (one_keeps h chosen (commands.Control at (cond nrpn 99 101) high) (other_passes at (cond nrpn 99 101) high f) k))))
      ]

  rpn_keeps : (h : Hearing) (chosen : Option Selection) (at : ℕ) (s : Selection) → eqb at channel ≡ false → Keeps channel chosen h.state → Keeps channel chosen (rpn_handed_on h at s).state
  rpn_keeps h chosen at s f k = half_keeps (half_handed_on h at 101 s.rpn_high) chosen at 100 s.rpn_low f (half_keeps h chosen at 101 s.rpn_high f k)

  nrpn_keeps : (h : Hearing) (chosen : Option Selection) (at : ℕ) (s : Selection) → eqb at channel ≡ false → Keeps channel chosen h.state → Keeps channel chosen (nrpn_handed_on h at s).state
  nrpn_keeps h chosen at s f k = half_keeps (half_handed_on h at 99 s.nrpn_high) chosen at 98 s.nrpn_low f (half_keeps h chosen at 99 s.nrpn_high f k)

  selection_keeps : (h : Hearing) (chosen : Option Selection) (at : ℕ) (s : Option Selection) → eqb at channel ≡ false → Keeps channel chosen h.state → Keeps channel chosen (selection_handed_on h at s).state
  unfolding selection_handed_on
  selection_keeps h chosen at None f k = k
  selection_keeps h chosen at (Some s) f k =
      elim (cases_Bool s.nrpn) [
        | inl t ↦ rw t (nrpn_keeps (rpn_handed_on h at s) chosen at s f (rpn_keeps h chosen at s f k))
        | inr n ↦ rw n (rpn_keeps (nrpn_handed_on h at s) chosen at s f (nrpn_keeps h chosen at s f k))
      ]

  pub after_keeps : (before after : ℕ) (h : Hearing) (chosen : Option Selection) (at : ℕ) (s : Option Selection) → eqb at channel ≡ false → Keeps channel chosen h.state → Keeps channel chosen (selection_handed_on_after_params before after h at s).state
  after_keeps before after h chosen at s f k = elim (cases_Bool (eqb before after)) [ inl t ↦ rw t k | inr n ↦ rw n (selection_keeps h chosen at s f k) ]

  log_keeps : (h : Hearing) (chosen : Option Selection) (log : LogKind) → Quiet channel log → Keeps channel chosen h.state → Keeps channel chosen (log_handed_on h log).state
  log_keeps h chosen (kinds.Program at program bank) q k = program_keeps h chosen at program bank k
  log_keeps h chosen (kinds.Param at nrpn high low entry_high entry_low) q k = param_keeps h chosen at nrpn high low entry_high entry_low q k
  log_keeps h chosen (kinds.Control at number value) q k = if_new_keeps h chosen (commands.Control at number value) Repaired (other_passes at number value q) k
  log_keeps h chosen (kinds.Count at number count) q k = if_new_keeps h chosen (commands.Control at number 0) Repaired (other_passes at number 0 q) k
  log_keeps h chosen (kinds.Wheel at first second) q k = if_new_keeps h chosen (commands.Wheel at first second) Repaired refl k
  log_keeps h chosen (kinds.NoteOff at note) q k = if_new_keeps h chosen (commands.NoteOff at note 64) Repaired refl k
  log_keeps h chosen (kinds.NoteOn at note velocity soon) q k = if_new_keeps h chosen (commands.NoteOn at note velocity) (kind_of (kinds.NoteOn at note velocity soon)) refl k
  log_keeps h chosen (kinds.Pressure at value) q k = if_new_keeps h chosen (commands.Pressure at value) Repaired refl k
  log_keeps h chosen (kinds.Poly at note value) q k = if_new_keeps h chosen (commands.PolyPressure at note value) Repaired refl k
  log_keeps h chosen log q k = k

  pub group_keeps : (logs : List Log) (at : ℕ) (h : Hearing) (chosen : Option Selection) (group : Group) → ((log : LogKind) → is_of group at log ≡ true → Quiet channel log) → Keeps channel chosen h.state → Keeps channel chosen (group_handed_on logs at h group).state
  unfolding group_handed_on
  group_keeps logs at h chosen group quiet k = each h logs k
    where
      each : (h : Hearing) (logs : List Log) → Keeps channel chosen h.state → Keeps channel chosen (fold (log_handed_on_of group at) h logs).state
      each h [] k = k
      each h (log ∷ logs) k =
          each (log_handed_on_of group at h log) logs
          (elim (cases_Bool (is_of group at log.what)) [ inl t ↦ rw t (log_keeps h chosen log.what (quiet log.what t) k) | inr f ↦ rw f k ])

  -- ## Which logs do nothing to it

  tagged : (group : Group) (at : ℕ) (log : LogKind) (own : Group × ℕ) → tag log ≡ Some own → is_of group at log ≡ true → (eqb (rank group) (rank own.0) ≡ true) × (eqb own.1 at ≡ true)
  tagged group at log own e h =
      let both : is_tagged group at (Some own) ≡ true = ap (is_tagged group at) (sym e) ∙ sym (is_of-tag group at log) ∙ h in
      and_parts (eqb (rank group) (rank own.0)) (eqb own.1 at) both

  elsewhere : (group : Group) (at : ℕ) (log : LogKind) (own : Group × ℕ) → tag log ≡ Some own → is_of group at log ≡ true → eqb at channel ≡ false → eqb own.1 channel ≡ false
  elsewhere group at log own e h apart =
      let same : own.1 ≡ at = eqb-true own.1 at (tagged group at log own e h).1 in
      ap (λ n. eqb n channel) same ∙ apart

  -- those of another channel
  pub quiet_elsewhere : (group : Group) (at : ℕ) → eqb at channel ≡ false → (log : LogKind) → is_of group at log ≡ true → Quiet channel log
  quiet_elsewhere group at apart (kinds.Param own nrpn high low entry_high entry_low) h = elsewhere group at (kinds.Param own nrpn high low entry_high entry_low) (Params, own) refl h apart
  quiet_elsewhere group at apart (kinds.Control own number value) h = elsewhere group at (kinds.Control own number value) (Controls, own) refl h apart
  quiet_elsewhere group at apart (kinds.Count own number count) h = elsewhere group at (kinds.Count own number count) (Controls, own) refl h apart
  quiet_elsewhere group at apart log h = tt

  other_rank : (group : Group) (at : ℕ) (log : LogKind) (own : Group × ℕ) → tag log ≡ Some own → eqb (rank group) (rank own.0) ≡ false → is_of group at log ≡ true → ⊥
  other_rank group at log own e apart h = let b : true ≡ false = sym (tagged group at log own e h).0 ∙ apart in cc

  -- those of a group that is neither of parameters nor of controls
  pub quiet_group : (group : Group) → eqb (rank group) 1 ≡ false → eqb (rank group) 2 ≡ false → (at : ℕ) (log : LogKind) → is_of group at log ≡ true → Quiet channel log
  quiet_group group p c at (kinds.Param own nrpn high low entry_high entry_low) h = absurd (other_rank group at (kinds.Param own nrpn high low entry_high entry_low) (Params, own) refl p h)
  quiet_group group p c at (kinds.Control own number value) h = absurd (other_rank group at (kinds.Control own number value) (Controls, own) refl c h)
  quiet_group group p c at (kinds.Count own number count) h = absurd (other_rank group at (kinds.Count own number count) (Controls, own) refl c h)
  quiet_group group p c at log h = tt

  -- ## The channel's controls

  module _ {V : Type 0} (part : Option Selection → Option V) (says : ParamCommand → Option (Option V)) (key : Key part says) where
    abbrev part_in : State → Option V
    part_in t = part (selection_of t channel)

    abbrev own_says : LogKind → Option (Option V)
    own_says log = key_log_says part says key channel log

    new_said : (h : Hearing) (command : Command) (kind : HeardKind) (w : Option (Option V)) → IsState h.state → part_in (applied h.state command) ≡ said w (part_in h.state) →
        IsState (handed_on_if_new h command kind).state × (part_in (handed_on_if_new h command kind).state ≡ said w (part_in h.state))
    unfolding handed_on_if_new
    new_said h command kind w is e =
        elim (cases_Bool (same_states (applied h.state command) h.state)) [
          | inl t ↦ rw t (is, ap part (sym ((states_parts (applied h.state command) h.state t).selection channel l)) ∙ e)
          | inr f ↦ rw f (state_after_is h.state command is, e)
        ]

    log_said : (h : Hearing) (log : LogKind) → is_of Controls channel log ≡ true → IsState h.state → IsState (log_handed_on h log).state × (part_in (log_handed_on h log).state ≡ said (own_says log) (part_in h.state))
    log_said h (kinds.Control at number value) own is = new_said h (commands.Control at number value) Repaired (own_says (kinds.Control at number value)) is ((key_is part says key channel l).set h.state (kinds.Control at number value) is)
    log_said h (kinds.Count at number count) own is = new_said h (commands.Control at number 0) Repaired (own_says (kinds.Count at number count)) is ((key_is part says key channel l).set h.state (kinds.Count at number count) is)
    log_said h (kinds.Toggle at count) own is = (is, refl)
    log_said h log own is = absurd (let f : false ≡ true = own in cc)

    -- what a log of this group says
    abbrev of_says : Group → Log → Option (Option V)
    of_says group log = cond (is_of group channel log.what) (own_says log.what) None

    one_said : (group : Group) → ((log : LogKind) → is_of group channel log ≡ true → is_of Controls channel log ≡ true) → (h : Hearing) (log : Log) → IsState h.state →
        IsState (log_handed_on_of group channel h log).state × (part_in (log_handed_on_of group channel h log).state ≡ said (of_says group log) (part_in h.state))
    one_said group own h log is =
        elim (cases_Bool (is_of group channel log.what)) [
          | inl t ↦ rw t (log_said h log.what (own log.what t) is)
          | inr f ↦ rw f (is, refl)
        ]

    logs_said : (group : Group) → ((log : LogKind) → is_of group channel log ≡ true → is_of Controls channel log ≡ true) → (h : Hearing) (logs : List Log) → IsState h.state →
        IsState (fold (log_handed_on_of group channel) h logs).state × (part_in (fold (log_handed_on_of group channel) h logs).state ≡ said (final (of_says group) logs) (part_in h.state))
    logs_said group own h [] is = (is, refl)
    logs_said group own h (log ∷ logs) is =
        let here = one_said group own h log is in
        let later = logs_said group own (log_handed_on_of group channel h log) logs here.0 in
        let rest = final (of_says group) logs in
        (later.0, later.1 ∙ ap (said rest) here.1 ∙ said-over rest (of_says group log) (part_in h.state))

    -- They leave of a key what the last of their logs that speaks of it says.
    pub controls_said : (h : Hearing) (logs : List Log) → IsState h.state →
        IsState (fold (log_handed_on_of Controls channel) h logs).state
        × (part_in (fold (log_handed_on_of Controls channel) h logs).state ≡ said (final (log_says own_says) (filter (λ log. is_of Controls channel log.what) logs)) (part_in h.state))
    controls_said h logs is =
        let told = logs_said Controls (λ log own. own) h logs is in
        (told.0, told.1 ∙ ap (λ (w : Option (Option V)). said w (part_in h.state)) (sym (final-filter (log_says own_says) (λ log. is_of Controls channel log.what) logs)))
