-- What each command that repair hands on enters in a listener's channel.
use Rattle.std.proofs.Common.{◌≡◌, ℕ, ◌<◌, ◌≤◌, Bool, true, false, cond, eqb, List, [], ◌∷◌, Option, Some, None, length, refl, sym, ap, subst, ◌∙◌, inl, inr}
use Rattle.std.proofs.lemmas.Bool.{cases_Bool, eqb-true, eq-eqb, and_parts}
use Rattle.jm_cmds.specs.declared.commands.Command.{Command}
use Rattle.jm_cmds.specs.declared.commands.Command.TheVariants as commands
use Rattle.jm_cmds.specs.declared.param.Param.{Param}
use Rattle.jm_cmds.specs.declared.selection.ParamCommand.{ParamCommand}
use Rattle.jm_cmds.specs.declared.selection.ParamCommand.TheVariants.{Select, Enter, Pass}
use Rattle.jm_cmds.specs.declared.selection.Selection.{Selection}
use Rattle.jm_cmds.specs.Control.{control_kind, is_entry}
use Rattle.jm_cmds.specs.Param.{same_param}
use Rattle.jm_cmds.specs.ParamLaws.{same_param-equal}
use Rattle.jm_cmds.specs.Selection.{param_command}
use Rattle.jm_state.specs.declared.entered.Entry.{Entry}
use Rattle.jm_state.specs.declared.state.State.{State}
use Rattle.jm_state.specs.Apply.{applied, selected_by}
use Rattle.jm_state.specs.Entered.{halves_in}
use Rattle.jm_state.specs.Kept.{IsState}
use Rattle.jm_state.specs.PartLaws.{by_part}
use Rattle.jm_state.specs.Parts.{program_of, control_of, selection_of, param_of, entered_of}
use Rattle.jm_state.specs.Sameness.{same_states}
use Rattle.jm_state.specs.Says.{said, selection_behind, entered_behind}
use Rattle.jm_reader.specs.declared.logs.LogKind.{LogKind}
use Rattle.jm_reader.specs.declared.logs.LogKind.TheVariants as kinds
use Rattle.jm_receiver.specs.declared.heard.HeardKind.{HeardKind}
use Rattle.jm_receiver.specs.declared.heard.Hearing.{Hearing}
use Rattle.jm_receiver.specs.Group.{command_of}
use Rattle.jm_receiver.specs.HandedOn.{handed_on_if_new, handed_on, control_handed_on, half_handed_on, value_or_zero, low_bank_handed_on_if_new, bank_handed_on, program_is, program_handed_on_if_new, half_is, halves_are, param_handed_on, param_handed_on_if_new, rpn_handed_on, nrpn_handed_on, selection_handed_on, selection_handed_on_after_params, kind_of, command_handed_on_if_new, log_handed_on}
use Rattle.jm_receiver.specs.ParamKeys.{is_known, Holds, half_of}
use Rattle.jm_receiver.specs.ParamLogs.{half_in, param, log_enters, as_said, param_log_says, IsLogOfKnown, Fits, with_entered, holds_log, logs_said}
use Rattle.jm_receiver.specs.Repair.{applied_if}
use Rattle.jm_receiver.specs.Whole.{IsWhole, applied_whole}
use Rattle.jm_receiver.proofs.RealParams.{is_null, AreReal, known_real}

-- A listener's state tracks what repair enters in a channel: it is whole, known parameters alone are entered in both, and each half is
-- the same.
pub record Tracks (channel : ℕ) (known : List Param) (t : State) (es : List Entry) : Type 0 where
  pub whole : IsWhole t
  pub own : Holds known (entered_of t channel)
  pub meant : Holds known es
  pub same : (q : Param) (half : Bool) → half_of half (halves_in (entered_of t channel) q) ≡ half_of half (halves_in es q)

-- what is coded of a half is there already
there_said : (held coded : Option ℕ) → half_is held coded ≡ true → said (as_said coded) held ≡ held
there_said held None h = refl
there_said None (Some value) h = absurd (let f : false ≡ true = h in cc)
there_said (Some own) (Some value) h = ap (λ (n : ℕ). Some n) (sym (eqb-true own value h))

enters_none : (high : Bool) → is_entry (cond high 0 32) ≡ false
unfolding is_entry
enters_none true = refl
enters_none false = refl

selects_none : (nrpn : Bool) → is_entry (cond nrpn 99 101) ≡ false
unfolding is_entry
selects_none true = refl
selects_none false = refl

selects_none_low : (nrpn : Bool) → is_entry (cond nrpn 98 100) ≡ false
unfolding is_entry
selects_none_low true = refl
selects_none_low false = refl

selected_both : (nrpn : Bool) (high low : ℕ) (s : Option Selection) → is_null (param nrpn high low) ≡ false → selected_by (selection_behind (selection_behind s (Select nrpn true high)) (Select nrpn false low)) ≡ Some (param nrpn high low)
selected_both true high low s n = rw n refl
selected_both false high low s n = rw n refl

module _ (channel : ℕ) (l : channel < 16) (known : List Param) (few : length known ≤ 16) (real : AreReal known) where
  self : eqb channel channel ≡ true
  self = eq-eqb channel channel refl

  -- a step that enters nothing
  pub untouched : (t u : State) (es : List Entry) → IsWhole u → entered_of u channel ≡ entered_of t channel → Tracks channel known t es → Tracks channel known u es
  untouched t u es is e k = record {
    whole = is;
    own = subst (Holds known) (sym e) k.own;
    meant = k.meant;
    same = λ q half. ap (λ (x : List Entry). half_of half (halves_in x q)) e ∙ k.same q half;
  }

  control_left : (t : State) (at number value : ℕ) → IsState t → is_entry number ≡ false → entered_of (applied t (commands.Control at number value)) channel ≡ entered_of t channel
  control_left t at number value is h = with_entered channel l t (kinds.Control at number value) is h

  control_tracks : (h : Hearing) (es : List Entry) (at number value : ℕ) → is_entry number ≡ false → Tracks channel known h.state es → Tracks channel known (control_handed_on h at number value).state es
  unfolding handed_on
  control_tracks h es at number value n k =
      untouched h.state (applied h.state (commands.Control at number value)) es (applied_whole h.state (commands.Control at number value) k.whole) (control_left h.state at number value k.whole.state n) k

  half_tracks : (h : Hearing) (es : List Entry) (at number : ℕ) (value : Option ℕ) → is_entry number ≡ false → Tracks channel known h.state es → Tracks channel known (half_handed_on h at number value).state es
  half_tracks h es at number None n k = k
  half_tracks h es at number (Some value) n k = control_tracks h es at number value n k

  -- ## A program

  low_tracks : (h : Hearing) (es : List Entry) (at low : ℕ) → Tracks channel known h.state es → Tracks channel known (low_bank_handed_on_if_new h at low).state es
  low_tracks h es at low k =
      elim (cases_Bool (eqb (value_or_zero (control_of h.state at 32)) low)) [
        | inl t ↦ rw t k
        | inr f ↦ rw f (control_tracks h es at 32 low (enters_none false) k)
      ]

  bank_tracks : (h : Hearing) (es : List Entry) (at : ℕ) (bank : Option (ℕ × ℕ)) → Tracks channel known h.state es → Tracks channel known (bank_handed_on h at bank).state es
  bank_tracks h es at None k = k
  bank_tracks h es at (Some bank) k = low_tracks (control_handed_on h at 0 bank.0) es at bank.1 (control_tracks h es at 0 bank.0 (enters_none true) k)

  program_tracks : (h : Hearing) (es : List Entry) (at program : ℕ) (bank : Option (ℕ × ℕ)) → Tracks channel known h.state es → Tracks channel known (program_handed_on_if_new h at program bank).state es
  unfolding program_handed_on_if_new handed_on
  program_tracks h es at program bank k =
      let g = bank_handed_on h at bank in
      let b : Tracks channel known g.state es = bank_tracks h es at bank k in
      let command = commands.Program at program in
      elim (cases_Bool (program_is (program_of h.state at) program bank)) [
        | inl t ↦ rw t k
        | inr f ↦ rw f (untouched g.state (applied g.state command) es (applied_whole g.state command b.whole) ((by_part g.state command b.whole.state).entered channel l) b)
      ]

  -- ## A parameter

  selection_then : (t : State) (command : Command) (event : ParamCommand) → IsState t → param_command channel command ≡ event → selection_of (applied t command) channel ≡ selection_behind (selection_of t channel) event
  selection_then t command event is e = (by_part t command is).selection channel l ∙ ap (selection_behind (selection_of t channel)) e

  entered_then : (t : State) (command : Command) (event : ParamCommand) → IsState t → param_command channel command ≡ event → entered_of (applied t command) channel ≡ entered_behind (selected_by (selection_of t channel)) event (entered_of t channel)
  entered_then t command event is e =
      (by_part t command is).entered channel l ∙ ap (λ (c : ParamCommand). entered_behind (selected_by (selection_of t channel)) c (entered_of t channel)) e

  high_command : (nrpn : Bool) (value : ℕ) → param_command channel (commands.Control channel (cond nrpn 99 101) value) ≡ Select nrpn true value
  unfolding control_kind
  high_command true value = rw self refl
  high_command false value = rw self refl

  low_command : (nrpn : Bool) (value : ℕ) → param_command channel (commands.Control channel (cond nrpn 98 100) value) ≡ Select nrpn false value
  unfolding control_kind
  low_command true value = rw self refl
  low_command false value = rw self refl

  enter_command : (high : Bool) (value : ℕ) → param_command channel (commands.Control channel (cond high 6 38) value) ≡ Enter high value
  unfolding control_kind
  enter_command true value = rw self refl
  enter_command false value = rw self refl

  -- of another channel
  other_left : (t : State) (at number value : ℕ) → IsState t → eqb at channel ≡ false → entered_of (applied t (commands.Control at number value)) channel ≡ entered_of t channel
  other_left t at number value is f = entered_then t (commands.Control at number value) Pass is (rw f refl)

  other_tracks : (h : Hearing) (es : List Entry) (at number value : ℕ) → eqb at channel ≡ false → Tracks channel known h.state es → Tracks channel known (control_handed_on h at number value).state es
  unfolding handed_on
  other_tracks h es at number value f k =
      untouched h.state (applied h.state (commands.Control at number value)) es (applied_whole h.state (commands.Control at number value) k.whole) (other_left h.state at number value k.whole.state f) k

  other_half : (h : Hearing) (es : List Entry) (at number : ℕ) (value : Option ℕ) → eqb at channel ≡ false → Tracks channel known h.state es → Tracks channel known (half_handed_on h at number value).state es
  other_half h es at number None f k = k
  other_half h es at number (Some value) f k = other_tracks h es at number value f k

  half_whole : (g : Hearing) (at number : ℕ) (value : Option ℕ) → IsWhole g.state → IsWhole (half_handed_on g at number value).state
  unfolding handed_on
  half_whole g at number None is = is
  half_whole g at number (Some value) is = applied_whole g.state (commands.Control at number value) is

  half_enters : (g : Hearing) (p : Param) (high : Bool) (value : Option ℕ) → IsWhole g.state → selected_by (selection_of g.state channel) ≡ Some p → entered_of (half_handed_on g channel (cond high 6 38) value).state channel ≡ half_in high p value (entered_of g.state channel)
  unfolding handed_on
  half_enters g p high None is e = refl
  half_enters g p high (Some value) is e =
      entered_then g.state (commands.Control channel (cond high 6 38) value) (Enter high value) is.state (enter_command high value)
      ∙ ap (λ (o : Option Param). entered_behind o (Enter high value) (entered_of g.state channel)) e

  half_selects : (g : Hearing) (p : Param) (high : Bool) (value : Option ℕ) → IsWhole g.state → selected_by (selection_of g.state channel) ≡ Some p → selected_by (selection_of (half_handed_on g channel (cond high 6 38) value).state channel) ≡ Some p
  unfolding handed_on
  half_selects g p high None is e = e
  half_selects g p high (Some value) is e =
      ap selected_by (selection_then g.state (commands.Control channel (cond high 6 38) value) (Enter high value) is.state (enter_command high value)) ∙ e

  two_selected : (t : State) (nrpn : Bool) (high low : ℕ) → IsWhole t → is_null (param nrpn high low) ≡ false →
      selected_by (selection_of (applied (applied t (commands.Control channel (cond nrpn 99 101) high)) (commands.Control channel (cond nrpn 98 100) low)) channel) ≡ Some (param nrpn high low)
  two_selected t nrpn high low is n =
      let one = commands.Control channel (cond nrpn 99 101) high in
      let two = commands.Control channel (cond nrpn 98 100) low in
      ap selected_by
      (selection_then (applied t one) two (Select nrpn false low) (applied_whole t one is).state (low_command nrpn low)
      ∙ ap (λ (s : Option Selection). selection_behind s (Select nrpn false low)) (selection_then t one (Select nrpn true high) is.state (high_command nrpn high)))
      ∙ selected_both nrpn high low (selection_of t channel) n

  -- Where it is handed on, both halves that it has are entered.
  param_enters : (h : Hearing) (nrpn : Bool) (high low : ℕ) (entry_high entry_low : Option ℕ) → IsWhole h.state → is_null (param nrpn high low) ≡ false →
      entered_of (param_handed_on h channel nrpn high low entry_high entry_low).state channel ≡ half_in false (param nrpn high low) entry_low (half_in true (param nrpn high low) entry_high (entered_of h.state channel))
  unfolding handed_on
  param_enters h nrpn high low entry_high entry_low is n =
      let p = param nrpn high low in
      let one = control_handed_on h channel (cond nrpn 99 101) high in
      let two = control_handed_on one channel (cond nrpn 98 100) low in
      let one_is = applied_whole h.state (commands.Control channel (cond nrpn 99 101) high) is in
      let two_is = applied_whole one.state (commands.Control channel (cond nrpn 98 100) low) one_is in
      let chosen = two_selected h.state nrpn high low is n in
      half_enters (half_handed_on two channel 6 entry_high) p false entry_low (half_whole two channel 6 entry_high two_is) (half_selects two p true entry_high two_is chosen)
      ∙ ap (half_in false p entry_low)
      (half_enters two p true entry_high two_is chosen
      ∙ ap (half_in true p entry_high) (control_left one.state channel (cond nrpn 98 100) low one_is.state (selects_none_low nrpn) ∙ control_left h.state channel (cond nrpn 99 101) high is.state (selects_none nrpn)))

  -- a half behind what a log enters
  log_said : (es : List Entry) (what : LogKind) (q : Param) (half : Bool) → Holds known es → IsLogOfKnown channel known what → half_of half (halves_in (log_enters channel es what) q) ≡ said (param_log_says channel q half what) (half_of half (halves_in es q))
  log_said es what q half h k = logs_said channel known few q half es (record { fresh = true; what = what } ∷ []) h (k, tt)

  -- where the coded halves are there, they stay so
  halves_stay : (t : State) (nrpn : Bool) (high low : ℕ) (entry_high entry_low : Option ℕ) (q : Param) (half : Bool) → halves_are (param_of t channel nrpn high low) entry_high entry_low ≡ true →
      said (param_log_says channel q half (kinds.Param channel nrpn high low entry_high entry_low)) (half_of half (halves_in (entered_of t channel) q)) ≡ half_of half (halves_in (entered_of t channel) q)
  halves_stay t nrpn high low entry_high entry_low q half h =
      let p = param nrpn high low in
      let halves = halves_in (entered_of t channel) p in
      let both = and_parts (half_is halves.entry_high entry_high) (half_is halves.entry_low entry_low) h in
      elim (cases_Bool (same_param q p)) [
        | inl t_same ↦
            rw (self, t_same)
            (subst (λ (x : Param). said (as_said (cond half entry_high entry_low)) (half_of half (halves_in (entered_of t channel) x)) ≡ half_of half (halves_in (entered_of t channel) x)) (sym (same_param-equal q p t_same)) (by_half half both.0 both.1))
        | inr f ↦ rw (self, f) refl
      ]
    where
      by_half : (half : Bool) → half_is (param_of t channel nrpn high low).entry_high entry_high ≡ true → half_is (param_of t channel nrpn high low).entry_low entry_low ≡ true →
          said (as_said (cond half entry_high entry_low)) (half_of half (param_of t channel nrpn high low)) ≡ half_of half (param_of t channel nrpn high low)
      by_half true a b = there_said (param_of t channel nrpn high low).entry_high entry_high a
      by_half false a b = there_said (param_of t channel nrpn high low).entry_low entry_low b

  handed_whole : (h : Hearing) (nrpn : Bool) (high low : ℕ) (entry_high entry_low : Option ℕ) → IsWhole h.state → IsWhole (param_handed_on h channel nrpn high low entry_high entry_low).state
  unfolding handed_on
  handed_whole h nrpn high low entry_high entry_low is =
      let one = control_handed_on h channel (cond nrpn 99 101) high in
      let two = control_handed_on one channel (cond nrpn 98 100) low in
      half_whole (half_handed_on two channel 6 entry_high) channel 38 entry_low
      (half_whole two channel 6 entry_high
      (applied_whole one.state (commands.Control channel (cond nrpn 98 100) low) (applied_whole h.state (commands.Control channel (cond nrpn 99 101) high) is)))

  own_tracks : (h : Hearing) (es : List Entry) (nrpn : Bool) (high low : ℕ) (entry_high entry_low : Option ℕ) → is_known known (param nrpn high low) ≡ true → Tracks channel known h.state es →
      Tracks channel known (param_handed_on_if_new h channel nrpn high low entry_high entry_low).state (log_enters channel es (kinds.Param channel nrpn high low entry_high entry_low))
  unfolding param_handed_on_if_new
  own_tracks h es nrpn high low entry_high entry_low known_here k =
      let what = kinds.Param channel nrpn high low entry_high entry_low in
      let of_known : IsLogOfKnown channel known what = λ e. known_here in
      let meant = holds_log channel known few es what k.meant of_known in
      let n = known_real known (param nrpn high low) real known_here in
      elim (cases_Bool (halves_are (param_of h.state channel nrpn high low) entry_high entry_low)) [
        | inl t ↦ rw t (record {
          whole = k.whole;
          own = k.own;
          meant = meant;
          same = λ q half.
              sym (halves_stay h.state nrpn high low entry_high entry_low q half t)
              ∙ ap (said (param_log_says channel q half what)) (k.same q half)
              ∙ sym (log_said es what q half k.meant of_known);
        })
        | inr f ↦
            let entered : entered_of (param_handed_on h channel nrpn high low entry_high entry_low).state channel ≡ log_enters channel (entered_of h.state channel) what =
            param_enters h nrpn high low entry_high entry_low k.whole n ∙ rw self refl in
            rw f (record {
              whole = handed_whole h nrpn high low entry_high entry_low k.whole;
              own = subst (Holds known) (sym entered) (holds_log channel known few (entered_of h.state channel) what k.own of_known);
              meant = meant;
              same = λ q half.
                  ap (λ (x : List Entry). half_of half (halves_in x q)) entered
                  ∙ log_said (entered_of h.state channel) what q half k.own of_known
                  ∙ ap (said (param_log_says channel q half what)) (k.same q half)
                  ∙ sym (log_said es what q half k.meant of_known);
            })
      ]

  param_tracks : (h : Hearing) (es : List Entry) (at : ℕ) (nrpn : Bool) (high low : ℕ) (entry_high entry_low : Option ℕ) → IsLogOfKnown channel known (kinds.Param at nrpn high low entry_high entry_low) → Tracks channel known h.state es →
      Tracks channel known (param_handed_on_if_new h at nrpn high low entry_high entry_low).state (log_enters channel es (kinds.Param at nrpn high low entry_high entry_low))
  unfolding param_handed_on_if_new
  param_tracks h es at nrpn high low entry_high entry_low known_here k =
      let one = control_handed_on h at (cond nrpn 99 101) high in
      let two = control_handed_on one at (cond nrpn 98 100) low in
      elim (cases_Bool (eqb at channel)) [
        | inl t ↦
            subst (λ n. Tracks channel known (param_handed_on_if_new h n nrpn high low entry_high entry_low).state (log_enters channel es (kinds.Param n nrpn high low entry_high entry_low))) (sym (eqb-true at channel t))
            (own_tracks h es nrpn high low entry_high entry_low (known_here t) k)
        | inr f ↦ rw f
            (elim (cases_Bool (halves_are (param_of h.state at nrpn high low) entry_high entry_low)) [
              | inl t ↦ rw t k
              | inr n ↦ rw n
                  (other_half (half_handed_on two at 6 entry_high) es at 38 entry_low f
                  (other_half two es at 6 entry_high f
                  (other_tracks one es at (cond nrpn 98 100) low f (other_tracks h es at (cond nrpn 99 101) high f k))))
            ])
      ]

  -- ## A selection

  rpn_tracks : (h : Hearing) (es : List Entry) (at : ℕ) (s : Selection) → Tracks channel known h.state es → Tracks channel known (rpn_handed_on h at s).state es
  rpn_tracks h es at s k =
      half_tracks (half_handed_on h at 101 s.rpn_high) es at 100 s.rpn_low (selects_none_low false) (half_tracks h es at 101 s.rpn_high (selects_none false) k)

  nrpn_tracks : (h : Hearing) (es : List Entry) (at : ℕ) (s : Selection) → Tracks channel known h.state es → Tracks channel known (nrpn_handed_on h at s).state es
  nrpn_tracks h es at s k =
      half_tracks (half_handed_on h at 99 s.nrpn_high) es at 98 s.nrpn_low (selects_none_low true) (half_tracks h es at 99 s.nrpn_high (selects_none true) k)

  selection_tracks : (h : Hearing) (es : List Entry) (at : ℕ) (s : Option Selection) → Tracks channel known h.state es → Tracks channel known (selection_handed_on h at s).state es
  unfolding selection_handed_on
  selection_tracks h es at None k = k
  selection_tracks h es at (Some s) k =
      elim (cases_Bool s.nrpn) [
        | inl t ↦ rw t (nrpn_tracks (rpn_handed_on h at s) es at s (rpn_tracks h es at s k))
        | inr f ↦ rw f (rpn_tracks (nrpn_handed_on h at s) es at s (nrpn_tracks h es at s k))
      ]

  pub chosen_tracks : (before after : ℕ) (h : Hearing) (es : List Entry) (at : ℕ) (s : Option Selection) → Tracks channel known h.state es → Tracks channel known (selection_handed_on_after_params before after h at s).state es
  chosen_tracks before after h es at s k = elim (cases_Bool (eqb before after)) [ inl t ↦ rw t k | inr f ↦ rw f (selection_tracks h es at s k) ]

  -- ## A log

  pub if_new_tracks : (h : Hearing) (es : List Entry) (command : Command) (kind : HeardKind) → (IsState h.state → entered_of (applied h.state command) channel ≡ entered_of h.state channel) → Tracks channel known h.state es →
      Tracks channel known (handed_on_if_new h command kind).state es
  unfolding handed_on_if_new
  if_new_tracks h es command kind e k =
      elim (cases_Bool (same_states (applied h.state command) h.state)) [
        | inl t ↦ rw t k
        | inr f ↦ rw f (untouched h.state (applied h.state command) es (applied_whole h.state command k.whole) (e k.whole.state) k)
      ]

  command_tracks : (h : Hearing) (es : List Entry) (command : Option Command) (kind : HeardKind) → entered_of (applied_if h.state command) channel ≡ entered_of h.state channel → Tracks channel known h.state es →
      Tracks channel known (command_handed_on_if_new h command kind).state es
  command_tracks h es None kind e k = k
  command_tracks h es (Some command) kind e k = if_new_tracks h es command kind (λ is. e) k

  pub log_tracks : (h : Hearing) (es : List Entry) (log : LogKind) → Fits channel known log → Tracks channel known h.state es → Tracks channel known (log_handed_on h log).state (log_enters channel es log)
  log_tracks h es (kinds.Program at program bank) fits k = program_tracks h es at program bank k
  log_tracks h es (kinds.Param at nrpn high low entry_high entry_low) fits k = param_tracks h es at nrpn high low entry_high entry_low fits.is_known k
  log_tracks h es (kinds.Toggle at count) fits k = k
  log_tracks h es log fits k = command_tracks h es (command_of log) (kind_of log) (with_entered channel l h.state log k.whole.state fits.no_entry) k
