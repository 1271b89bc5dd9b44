-- The law of repair for the selection of a parameter in a channel: four halves, and of which kind the last one was. Of each of the five
-- the last command that speaks of it decides.
use Rattle.std.proofs.Common.{◌≡◌, ℕ, ◌<◌, Bool, true, false, cond, not, ◌&&◌, ◌||◌, eqb, List, Option, Some, None, refl, sym, ap, ◌∙◌, subst, inl, inr, arith}
use Rattle.std.proofs.Math.Bool.{beq}
use Rattle.std.proofs.lemmas.Bool.{cases_Bool, eq-eqb, eqb-true, or_cases, and_parts}
use Rattle.std.proofs.lemmas.Bool.Decides.{nat_tests}
use Rattle.jm_cmds.specs.declared.commands.Command.{Command}
use Rattle.jm_cmds.specs.declared.commands.Command.TheVariants as commands
use Rattle.jm_cmds.specs.declared.controls.ControlKind.{ControlKind}
use Rattle.jm_cmds.specs.declared.controls.ControlKind.TheVariants as numbers
use Rattle.jm_cmds.specs.declared.history.Sent.{Sent}
use Rattle.jm_cmds.specs.declared.selection.ParamCommand.{ParamCommand}
use Rattle.jm_cmds.specs.declared.selection.ParamCommand.TheVariants.{Select, Enter, Unselect, Clear, Pass}
use Rattle.jm_cmds.specs.declared.selection.Selection.{Selection}
use Rattle.jm_cmds.specs.Control.{control_kind, is_entry, is_counted, is_reset, is_reset_message}
use Rattle.jm_cmds.specs.ControlLaws.{is_entry_kind, is_counted_kind, is_entry-kind, is_counted-kind}
use Rattle.jm_cmds.specs.History.{below, since, coded, InOrder}
use Rattle.jm_cmds.specs.HistoryLaws.{InOrder-filter}
use Rattle.jm_cmds.specs.Selection.{control_command, param_command, selection_with}
use Rattle.jm_cmds.specs.Sent.{packet_of, is_fresh}
use Rattle.ch_control.specs.declared.events.ControlEvent.TheVariants.{Set, Dropped, Other}
use Rattle.ch_control.specs.ControlEvent.{control_event, item_of, is_kept, concerns as touches, event_ends, control_ends}
use Rattle.ch_control.specs.ChapterC.{coded_controls}
use Rattle.ch_sysex.specs.SysexEvent.{resets}
use Rattle.jm_state.specs.declared.state.State.{State}
use Rattle.jm_state.specs.Apply.{selection_from}
use Rattle.jm_state.specs.Parts.{no_state, nth_channel, selection_of}
use Rattle.jm_state.specs.Says.{said, ended, selection_behind}
use Rattle.jm_state.specs.Kept.{no_channel_at}
use Rattle.jm_state.specs.PartLaws.{by_part}
use Rattle.jm_state.specs.Replay.{over}
use Rattle.jm_state.specs.ReplayLaws.{state_behind}
use Rattle.jm_state.specs.SettingLaws.{program_alone, toggles_alone, param_high_alone, param_low_alone}
use Rattle.jm_state.specs.Final.{final, speaks, over_none, final-flat_map, final-same, final-coded}
use Rattle.jm_reader.specs.declared.logs.LogKind.{LogKind}
use Rattle.jm_reader.specs.declared.logs.LogKind.TheVariants as kinds
use Rattle.jm_reader.specs.WrittenC.{c_said, value_said, event_said, place_said}
use Rattle.jm_reader.specs.WrittenListed.{all_logged}
use Rattle.jm_reader.specs.WrittenJournal.{journal_logs}
use Rattle.jm_receiver.specs.declared.group.Group.{Group}
use Rattle.jm_receiver.specs.declared.group.Group.TheVariants.{Controls}
use Rattle.jm_receiver.specs.Group.{all_groups}
use Rattle.jm_receiver.specs.Repair.{repaired}
use Rattle.jm_receiver.specs.Order.{IsPart, concerns, log_says}
use Rattle.jm_receiver.specs.Repairs.{Repairs, LastSays, repairs, groups_heard, resets_heard, seen_since, place_says, journal_says, command_says, command_set, session_channels}

-- ## The five keys

-- one of them
pub record Key {V : Type 0} (part : Option Selection → Option V) (says : ParamCommand → Option (Option V)) : Type 0 where
  pub absent : part None ≡ None
  pub behind : (s : Option Selection) (command : ParamCommand) → part (selection_behind s command) ≡ said (says command) (part s)
  pub entered : (high : Bool) (value : ℕ) → says (Enter high value) ≡ None
  pub passed : says Pass ≡ None
  pub unselected : says Unselect ≡ Some None
  pub cleared : says Clear ≡ Some None
  pub selected : (nrpn high : Bool) (value other : ℕ) → speaks (says (Select nrpn high value)) ≡ speaks (says (Select nrpn high other))

-- the half of this kind
abbrev pub half_of : (nrpn high : Bool) → Selection → Option ℕ
half_of true true s = s.nrpn_high
half_of true false s = s.nrpn_low
half_of false true s = s.rpn_high
half_of false false s = s.rpn_low

abbrev pub half_in : (nrpn high : Bool) → Option Selection → Option ℕ
half_in nrpn high s = half_of nrpn high (selection_from s)

abbrev pub half_says : (nrpn high : Bool) → ParamCommand → Option (Option ℕ)
half_says nrpn high (Select kind part value) = cond (beq kind nrpn && beq part high) (Some (Some value)) None
half_says nrpn high Unselect = Some None
half_says nrpn high Clear = Some None
half_says nrpn high command = None

-- of which kind the last half was
abbrev pub kind_in : Option Selection → Option Bool
kind_in None = None
kind_in (Some s) = Some s.nrpn

abbrev pub kind_says : ParamCommand → Option (Option Bool)
kind_says (Select kind part value) = Some (Some kind)
kind_says Unselect = Some None
kind_says Clear = Some None
kind_says command = None

-- what they make together
abbrev whole : Option Bool → (rpn_high rpn_low nrpn_high nrpn_low : Option ℕ) → Option Selection
whole None a b c d = None
whole (Some nrpn) a b c d = Some (record { nrpn = nrpn; rpn_high = a; rpn_low = b; nrpn_high = c; nrpn_low = d })

is_whole : (s : Option Selection) → s ≡ whole (kind_in s) (half_in false true s) (half_in false false s) (half_in true true s) (half_in true false s)
is_whole None = refl
is_whole (Some s) = refl

half_none : (nrpn high : Bool) → half_in nrpn high None ≡ None
half_none true true = refl
half_none true false = refl
half_none false true = refl
half_none false false = refl

half_with : (nrpn high kind part : Bool) (value : ℕ) (s : Selection) → half_of nrpn high (selection_with kind part value s) ≡ said (cond (beq kind nrpn && beq part high) (Some (Some value)) None) (half_of nrpn high s)
half_with true true true true value s = refl
half_with true true true false value s = refl
half_with true true false true value s = refl
half_with true true false false value s = refl
half_with true false true true value s = refl
half_with true false true false value s = refl
half_with true false false true value s = refl
half_with true false false false value s = refl
half_with false true true true value s = refl
half_with false true true false value s = refl
half_with false true false true value s = refl
half_with false true false false value s = refl
half_with false false true true value s = refl
half_with false false true false value s = refl
half_with false false false true value s = refl
half_with false false false false value s = refl

kind_with : (kind part : Bool) (value : ℕ) (s : Selection) → (selection_with kind part value s).nrpn ≡ kind
kind_with true true value s = refl
kind_with true false value s = refl
kind_with false true value s = refl
kind_with false false value s = refl

either_value : (b : Bool) (value other : ℕ) → speaks (cond {A = Option (Option ℕ)} b (Some (Some value)) None) ≡ speaks (cond {A = Option (Option ℕ)} b (Some (Some other)) None)
either_value true value other = refl
either_value false value other = refl

pub half_key : (nrpn high : Bool) → Key (half_in nrpn high) (half_says nrpn high)
half_key nrpn high = record {
  absent = half_none nrpn high;
  behind = behind;
  entered = λ part value. refl;
  passed = refl;
  unselected = refl;
  cleared = refl;
  selected = λ kind part value other. either_value (beq kind nrpn && beq part high) value other;
}
  where
    behind : (s : Option Selection) (command : ParamCommand) → half_in nrpn high (selection_behind s command) ≡ said (half_says nrpn high command) (half_in nrpn high s)
    behind s (Select kind part value) = half_with nrpn high kind part value (selection_from s)
    behind s (Enter part value) = refl
    behind s Unselect = half_none nrpn high
    behind s Clear = half_none nrpn high
    behind s Pass = refl

pub kind_key : Key kind_in kind_says
kind_key = record {
  absent = refl;
  behind = behind;
  entered = λ part value. refl;
  passed = refl;
  unselected = refl;
  cleared = refl;
  selected = λ kind part value other. refl;
}
  where
    behind : (s : Option Selection) (command : ParamCommand) → kind_in (selection_behind s command) ≡ said (kind_says command) (kind_in s)
    behind s (Select kind part value) = ap (λ (b : Bool). Some b) (kind_with kind part value (selection_from s))
    behind s (Enter part value) = refl
    behind s Unselect = refl
    behind s Clear = refl
    behind s Pass = refl

-- ## A key of a channel

-- the group that says something of it
abbrev pub selection_groups : Group → Bool
selection_groups Controls = true
selection_groups group = false

-- the kinds of controllers that select, or end a selection
abbrev is_selecting : ControlKind → Bool
is_selecting (numbers.Selection nrpn high) = true
is_selecting numbers.ResetControllers = true
is_selecting kind = false

self : (n : ℕ) → eqb n n ≡ true
self n = eq-eqb n n refl

-- what Chapter C has of them as its own
selects : (number : ℕ) → is_selecting (control_kind number) ≡ true → (((eqb number 98 || eqb number 99) || (eqb number 100 || eqb number 101)) || eqb number 121) ≡ true
unfolding control_kind
selects number h = grind (arith, nat_tests)

below_modes : (number : ℕ) → (((eqb number 98 || eqb number 99) || (eqb number 100 || eqb number 101)) || eqb number 121) ≡ true → (eqb number 125 ≡ false) × (eqb number 127 ≡ false) × (eqb number 124 ≡ false) × (eqb number 126 ≡ false) × (is_entry number ≡ false)
unfolding is_entry
below_modes number h = (grind (arith, nat_tests), grind (arith, nat_tests), grind (arith, nat_tests), grind (arith, nat_tests), grind (arith, nat_tests))

-- a controller below the modes is an item by itself
alone : (n m : ℕ) → eqb n 124 ≡ false → eqb n 126 ≡ false → eqb n (item_of m) ≡ true → eqb n m ≡ true
unfolding item_of
alone n m a b h =
    elim (cases_Bool (eqb m 125)) [
      | inl t ↦ absurd (let f : eqb n 124 ≡ true = rw t at h in cc)
      | inr f ↦ elim (cases_Bool (eqb m 127)) [
        | inl t ↦ absurd (let g : eqb n 126 ≡ true = rw (f, t) at h in cc)
        | inr g ↦ rw (f, g) at h
      ]
    ]

same_item : (n m : ℕ) → (((eqb n 98 || eqb n 99) || (eqb n 100 || eqb n 101)) || eqb n 121) ≡ true → eqb (item_of n) (item_of m) ≡ true → n ≡ m
unfolding item_of
same_item n m s h =
    let no = below_modes n s in
    eqb-true n m (alone n m no.2 no.3 (rw (no.0, no.1) at h))

any_value : (kind : ControlKind) (value : ℕ) → is_counted_kind kind ≡ true → control_command kind 0 ≡ control_command kind value
any_value (numbers.Increment n) value h = refl
any_value (numbers.Silence n) value h = refl
any_value numbers.ResetControllers value h = refl
any_value kind value h = absurd (let f : false ≡ true = h in cc)

module _ {V : Type 0} (part : Option Selection → Option V) (says : ParamCommand → Option (Option V)) (key : Key part says) (channel : ℕ) where
  -- the part of a state, and what a command and a log say of it
  abbrev pub part_of : State → Option V
  part_of s = part (selection_of s channel)

  abbrev pub commands_say : Command → Option (Option V)
  commands_say command = says (param_command channel command)

  abbrev pub key_log_says : LogKind → Option (Option V)
  key_log_says log = command_says commands_say log

  key_silent : (log : LogKind) → concerns selection_groups channel log ≡ false → key_log_says log ≡ None
  key_silent (kinds.Control at number value) h = rw h key.passed
  key_silent (kinds.Count at number count) h = rw h key.passed
  key_silent (kinds.Wheel at first second) h = key.passed
  key_silent (kinds.NoteOff at note) h = key.passed
  key_silent (kinds.NoteOn at note velocity soon) h = key.passed
  key_silent (kinds.Pressure at value) h = key.passed
  key_silent (kinds.Poly at note value) h = key.passed
  key_silent log h = refl

  pub last_says : channel < 16 → LastSays part_of commands_say
  last_says l s command is = ap part ((by_part s command is).selection channel l) ∙ key.behind (selection_of s channel) (param_command channel command)

  pub key_is : channel < 16 → IsPart channel selection_groups part_of key_log_says
  key_is l = record {
    absent = ap (λ c. part c.selection) (no_channel_at channel l) ∙ key.absent;
    counted = λ s count. refl;
    session = λ s log. ap (λ channels. part (nth_channel channels channel).selection) (session_channels s log);
    set = λ s log is. command_set part_of commands_say (last_says l)
        (record {
          program = λ s at value w. ap part ((program_alone s at value w).selection channel l refl);
          toggles = λ s at count w. ap part ((toggles_alone s at count w).selection channel l refl);
          high = λ s at nrpn high low value w. ap part ((param_high_alone s at nrpn high low value w).selection channel l refl);
          low = λ s at nrpn high low value w. ap part ((param_low_alone s at nrpn high low value w).selection channel l refl);
        }) s log is;
    silent = key_silent;
  }

  -- ## What Chapter C's logs say

  -- what a controller of the channel says
  abbrev controller : (number value : ℕ) → Option (Option V)
  controller number value = says (control_command (control_kind number) value)

  abbrev pub own : Command → Option (Option V)
  own (commands.Control at number value) = cond (eqb at channel) (controller number value) None
  own command = None

  entry_none : (kind : ControlKind) (value : ℕ) → is_entry_kind kind ≡ true → says (control_command kind value) ≡ None
  entry_none (numbers.DataEntry high) value h = key.entered high value
  entry_none kind value h = absurd (let f : false ≡ true = h in cc)

  value_heard : (session : List Sent) (number value : ℕ) → key_log_says (value_said channel session number value) ≡ controller number value
  value_heard session number value =
      elim (cases_Bool (is_counted number)) [
        | inl t ↦ rw (t, self channel) (ap says (any_value (control_kind number) value (is_counted-kind number ∙ t)))
        | inr f ↦ rw (f, self channel) refl
      ]

  set_heard : (fresh : Bool) (session : List Sent) (number value : ℕ) → final (log_says key_log_says) (all_logged fresh (event_said channel session (Set number value))) ≡ controller number value
  set_heard fresh session number value =
      let here = value_heard session number value in
      elim (cases_Bool (eqb number 64)) [
        | inl t ↦ rw t here
        | inr f ↦ rw f here
      ]

  nothing : (fresh b : Bool) (session : List Sent) → final (log_says key_log_says) (all_logged fresh (event_said channel session (cond b Dropped Other))) ≡ None
  nothing fresh true session = refl
  nothing fresh false session = refl

  place_heard : (fresh : Bool) (session : List Sent) (command : Command) → final (log_says key_log_says) (all_logged fresh (event_said channel session (control_event channel command))) ≡ own command
  place_heard fresh session (commands.Control at number value) =
      elim (cases_Bool (eqb at channel)) [
        | inl t ↦ elim (cases_Bool (is_entry number)) [
          | inl e ↦ rw (t, e) (sym (entry_none (control_kind number) value (is_entry-kind number ∙ e)))
          | inr n ↦ rw (t, n) (set_heard fresh session number value)
        ]
        | inr f ↦ rw f refl
      ]
  place_heard fresh session command = nothing fresh (is_reset command) session

  pub chapter_heard : (checkpoint packet : ℕ) (sent : List Sent) → final (log_says key_log_says) (c_said channel checkpoint packet sent) ≡ final (λ place. own place.command) (coded_controls channel checkpoint packet sent)
  unfolding c_said
  chapter_heard checkpoint packet sent =
      let session = below packet_of packet sent in
      let heard = log_says key_log_says in
      final-flat_map heard (λ place. all_logged (is_fresh packet place) (place_said channel session place)) (coded_controls channel checkpoint packet sent)
      ∙ final-same (λ place. final heard (all_logged (is_fresh packet place) (place_said channel session place))) (λ place. own place.command)
      (λ place. place_heard (is_fresh packet place) session place.command) (coded_controls channel checkpoint packet sent)

  -- ## What ends a controller says something, too

  no_word : says Pass ≡ None → speaks (says Pass) ≡ true → ⊥
  no_word p h = let f : speaks (says Pass) ≡ false = rw p refl in let b : true ≡ false = sym h ∙ f in cc

  no_entry : (high : Bool) (value : ℕ) → speaks (says (Enter high value)) ≡ true → ⊥
  no_entry high value h = let f : speaks (says (Enter high value)) ≡ false = ap speaks (key.entered high value) in let b : true ≡ false = sym h ∙ f in cc

  is_selected : (kind : ControlKind) (value : ℕ) → speaks (says (control_command kind value)) ≡ true → is_selecting kind ≡ true
  is_selected (numbers.Selection nrpn high) value h = refl
  is_selected numbers.ResetControllers value h = refl
  is_selected (numbers.DataEntry high) value h = absurd (no_entry high value h)
  is_selected kind value h = absurd (no_word key.passed h)

  value_apart : (kind : ControlKind) (value other : ℕ) → speaks (says (control_command kind value)) ≡ true → speaks (says (control_command kind other)) ≡ true
  value_apart (numbers.Selection nrpn high) value other h = sym (key.selected nrpn high value other) ∙ h
  value_apart (numbers.DataEntry high) value other h = absurd (no_entry high value h)
  value_apart kind value other h = h

  ends_selection : (number value : ℕ) → eqb number 121 ≡ true → speaks (controller number value) ≡ true
  unfolding control_kind
  ends_selection number value h =
      let same : 121 ≡ number = sym (eqb-true number 121 h) in
      subst (λ n. speaks (controller n value) ≡ true) same (ap speaks key.unselected)

  over_spoken : (a : Option (Option V)) (b : Bool) → speaks a ≡ true → speaks (over a (ended b)) ≡ true
  over_spoken (Some a) b h = refl
  over_spoken None b h = absurd (let f : false ≡ true = h in cc)

  ends_item : (number value other later : ℕ) → speaks (controller number value) ≡ true → (eqb (item_of number) (item_of other) || (eqb other 121 && not (is_kept number))) ≡ true → speaks (controller other later) ≡ true
  ends_item number value other later h e =
      elim (or_cases (eqb (item_of number) (item_of other)) (eqb other 121 && not (is_kept number)) e) [
        | inl a ↦
            let same : number ≡ other = same_item number other (selects number (is_selected (control_kind number) value h)) a in
            subst (λ n. speaks (controller n later) ≡ true) same (value_apart (control_kind number) value later h)
        | inr b ↦ ends_selection other later (and_parts (eqb other 121) (not (is_kept number)) b).0
      ]

  covered : (number value : ℕ) (command : Command) → speaks (controller number value) ≡ true → touches number (control_event channel command) ≡ true → speaks (over (own command) (ended (is_reset command))) ≡ true
  covered number value (commands.Control at other later) h e =
      elim (cases_Bool (eqb at channel)) [
        | inl t ↦ elim (cases_Bool (is_entry other)) [
          | inl d ↦ absurd (let f : false ≡ true = (rw (t, d) at e) in cc)
          | inr n ↦ rw t (over_spoken (controller other later) false (ends_item number value other later h (rw (t, n) at e)))
        ]
        | inr f ↦ absurd (let f : false ≡ true = (rw f at e) in cc)
      ]
  covered number value commands.SystemReset h e = refl
  covered number value (commands.Sysex octets) h e =
      elim (cases_Bool (is_reset_message octets)) [
        | inl t ↦ rw t refl
        | inr f ↦ absurd (let f : false ≡ true = (rw f at e) in cc)
      ]
  covered number value command h e = absurd (let f : false ≡ true = e in cc)

  ends_reset : (number : ℕ) (command : Command) → is_reset command ≡ true → touches number (control_event channel command) ≡ true
  ends_reset number commands.SystemReset h = refl
  ends_reset number (commands.Sysex octets) h = rw h refl
  ends_reset number command h = absurd (let f : false ≡ true = h in cc)

  -- what says something is the set of a number
  by_set : (P : Bool → Type 0) (command later : Command) → speaks (own command) ≡ true → ((number value : ℕ) → speaks (controller number value) ≡ true → P (touches number (control_event channel later))) →
      P (event_ends (control_event channel command) (control_event channel later))
  by_set P (commands.Control at number value) later h k =
      elim (cases_Bool (eqb at channel)) [
        | inl t ↦
            let s : speaks (controller number value) ≡ true = rw t at h in
            let n : is_entry number ≡ false = (below_modes number (selects number (is_selected (control_kind number) value s))).4 in
            rw (t, n) (k number value s)
        | inr f ↦ absurd (let f : false ≡ true = (rw f at h) in cc)
      ]
  by_set P command later h k = absurd (let f : false ≡ true = h in cc)

  spoken_end : (b : Bool) → speaks (ended {X = V} b) ≡ true → b ≡ true
  spoken_end true h = refl
  spoken_end false h = cc

  ended_so : (b : Bool) → ended b ≡ says (cond b Clear Pass)
  ended_so true = sym key.cleared
  ended_so false = sym key.passed

  said_so : (command : Command) → over (own command) (ended (is_reset command)) ≡ commands_say command
  said_so (commands.Control at number value) =
      elim (cases_Bool (eqb at channel)) [
        | inl t ↦ rw t (over_none (controller number value))
        | inr f ↦ rw f (sym key.passed)
      ]
  said_so command = ended_so (is_reset command)

  -- The coded controllers behind the resets say of the part what the commands from the checkpoint on say.
  pub own_coded : (checkpoint : ℕ) (xs : List Sent) → InOrder packet_of xs →
      over (final (λ place. own place.command) (coded (control_ends channel) packet_of checkpoint xs)) (final (λ place. ended (resets place)) (since packet_of checkpoint xs)) ≡ final (place_says commands_say) (since packet_of checkpoint xs)
  own_coded checkpoint xs o =
      let said_own : Sent → Option (Option V) = λ place. own place.command in
      let reset : Sent → Option (Option V) = λ place. ended (resets place) in
      final-coded (control_ends channel) said_own reset
      (λ x y s e. by_set (λ (b : Bool). b ≡ true → speaks (over (said_own y) (reset y)) ≡ true) x.command y.command s (λ number value h t. covered number value y.command h t) e)
      (λ x y s r. by_set (λ (b : Bool). b ≡ true) x.command y.command s (λ number value h. ends_reset number y.command (spoken_end (resets y) r)))
      packet_of checkpoint xs o
      ∙ final-same (λ place. over (said_own place) (reset place)) (place_says commands_say) (λ place. said_so place.command) (since packet_of checkpoint xs)

  -- The logs of a journal say of the part what the commands from the checkpoint on say.
  key_heard : channel < 16 → (checkpoint packet tick : ℕ) (sent : List Sent) → InOrder packet_of sent → journal_says key_log_says channel checkpoint packet tick sent ≡ final (place_says commands_say) (seen_since checkpoint packet sent)
  unfolding all_groups
  key_heard l checkpoint packet tick sent o =
      let seen = below packet_of packet sent in
      let reset : Sent → Option (Option V) = λ place. ended (resets place) in
      rw (groups_heard channel selection_groups part_of key_log_says l (key_is l) checkpoint packet tick sent, resets_heard {V = V} checkpoint packet tick sent o)
      (ap (λ (a : Option (Option V)). over a (final reset (seen_since checkpoint packet sent))) (chapter_heard checkpoint packet sent)
      ∙ own_coded checkpoint seen (InOrder-filter packet_of _ sent o))

  pub key_repaired : channel < 16 → Repairs part_of
  key_repaired l = repairs channel selection_groups part_of key_log_says commands_say l (key_is l) (last_says l) (λ checkpoint packet tick sent o. key_heard l checkpoint packet tick sent o)

-- two that have the same five keys are the same
pub same_selection : (a b : Option Selection) → kind_in a ≡ kind_in b → ((nrpn high : Bool) → half_in nrpn high a ≡ half_in nrpn high b) → a ≡ b
same_selection a b kind half =
    let together : whole (kind_in a) (half_in false true a) (half_in false false a) (half_in true true a) (half_in true false a) ≡ whole (kind_in b) (half_in false true b) (half_in false false b) (half_in true true b) (half_in true false b) =
    rw (kind, half false true, half false false, half true true, half true false) refl in
    is_whole a ∙ together ∙ sym (is_whole b)

-- The selection of each channel is repaired.
pub selection_repaired : (channel : ℕ) → channel < 16 → Repairs (λ s. selection_of s channel)
selection_repaired channel l checkpoint next packet tick sent o early late =
    let after = selection_of (repaired (state_behind no_state (below packet_of next sent)) (journal_logs checkpoint packet tick sent)) channel in
    let meant = selection_of (state_behind no_state (below packet_of packet sent)) channel in
    same_selection after meant (key_repaired kind_in kind_says kind_key channel l checkpoint next packet tick sent o early late)
    (λ nrpn high. key_repaired (half_in nrpn high) (half_says nrpn high) (half_key nrpn high) channel l checkpoint next packet tick sent o early late)
