-- The law of repair for the values of a channel's controls.
use Rattle.std.proofs.lemmas.Bool.{not-true}
use Rattle.std.proofs.Common.{◌≡◌, ℕ, ◌<◌, Bool, true, false, cond, not, ◌&&◌, ◌||◌, eqb, List, Option, Some, None, refl, sym, ap, ◌∙◌, subst, inl, inr, arith}
use Rattle.std.proofs.lemmas.Bool.{cases_Bool, eq-eqb, eqb-true, or_cases, and_parts}
use Rattle.std.proofs.lemmas.Bool.Decides.{nat_tests}
use Rattle.jm_cmds.specs.declared.commands.Command.{Command}
use Rattle.jm_cmds.specs.declared.commands.Command.TheVariants as commands
use Rattle.jm_cmds.specs.declared.history.Sent.{Sent}
use Rattle.jm_cmds.specs.declared.controls.ControlKind.{ControlKind}
use Rattle.jm_cmds.specs.declared.controls.ControlKind.TheVariants as numbers
use Rattle.jm_cmds.specs.Control.{control_kind, is_entry, is_counted, is_reset, is_reset_message}
use Rattle.jm_cmds.specs.ControlLaws.{is_entry_kind, is_counted_kind, is_entry-kind, is_counted-kind}
use Rattle.jm_cmds.specs.History.{below, InOrder}
use Rattle.jm_cmds.specs.HistoryLaws.{InOrder-filter}
use Rattle.jm_cmds.specs.Sent.{packet_of, is_fresh}
use Rattle.ch_control.specs.declared.events.ControlEvent.TheVariants.{Set, Dropped, Other}
use Rattle.ch_control.specs.ControlEvent.{control_event, item_of, is_kept, concerns as touches, event_ends, control_ends}
use Rattle.ch_control.specs.ChapterC.{coded_controls}
use Rattle.ch_sysex.specs.SysexEvent.{resets}
use Rattle.jm_state.specs.Parts.{nth_channel, control_of, control_at, control_by}
use Rattle.jm_state.specs.Says.{ended, is_dropped, controller_says, control_says}
use Rattle.jm_state.specs.Kept.{no_channel_at, no_value}
use Rattle.jm_state.specs.ControlLaws.{control_none}
use Rattle.jm_state.specs.PartLaws.{by_part}
use Rattle.jm_state.specs.Replay.{over}
use Rattle.jm_state.specs.SettingLaws.{program_alone, toggles_alone, param_high_alone, param_low_alone}
use Rattle.jm_state.specs.Final.{final, speaks, over_none, final-flat_map, final-same, final-coded}
use Rattle.jm_reader.specs.declared.logs.LogKind.{LogKind}
use Rattle.jm_reader.specs.declared.logs.LogKind.TheVariants as kinds
use Rattle.jm_reader.specs.WrittenC.{c_said, value_said, event_said, place_said}
use Rattle.jm_reader.specs.WrittenListed.{all_logged}
use Rattle.jm_receiver.specs.declared.group.Group.{Group}
use Rattle.jm_receiver.specs.declared.group.Group.TheVariants.{Controls}
use Rattle.jm_receiver.specs.Group.{all_groups}
use Rattle.jm_receiver.specs.Order.{IsPart, concerns, log_says}
use Rattle.jm_receiver.specs.Repairs.{Repairs, LastSays, repairs, groups_heard, resets_heard, seen_since, place_says, journal_says, command_says, command_set, session_channels}

-- what a log says of a control: its own, the other mode of its pair, and Control 121
abbrev pub control_log_says : (channel control : ℕ) → LogKind → Option (Option ℕ)
control_log_says channel control log = command_says (control_says channel control) log

-- the group that says something of it
abbrev pub control_groups : Group → Bool
control_groups Controls = true
control_groups group = false

control_silent : (channel control : ℕ) (log : LogKind) → concerns control_groups channel log ≡ false → control_log_says channel control log ≡ None
control_silent channel control (kinds.Control at number value) h = rw h refl
control_silent channel control (kinds.Count at number count) h = rw h refl
control_silent channel control log h = refl

last_says : (channel control : ℕ) → channel < 16 → control < 128 → LastSays (λ s. control_of s channel control) (control_says channel control)
last_says channel control l m s command is = (by_part s command is).control channel control l m

pub control_is : (channel control : ℕ) → channel < 16 → control < 128 → IsPart channel control_groups (λ s. control_of s channel control) (control_log_says channel control)
control_is channel control l m = record {
  absent = ap (λ c. control_at c control) (no_channel_at channel l) ∙ ap (control_by (control_kind control)) (no_value control m) ∙ control_none (control_kind control);
  counted = λ s count. refl;
  session = λ s log. ap (λ channels. control_at (nth_channel channels channel) control) (session_channels s log);
  set = λ s log is. command_set (λ s. control_of s channel control) (control_says channel control) (last_says channel control l m)
      (record {
        program = λ s at value w. (program_alone s at value w).control channel control l m refl;
        toggles = λ s at count w. (toggles_alone s at count w).control channel control l m refl;
        high = λ s at nrpn high low value w. (param_high_alone s at nrpn high low value w).control channel control l m refl;
        low = λ s at nrpn high low value w. (param_low_alone s at nrpn high low value w).control channel control l m refl;
      }) s log is;
  silent = control_silent channel control;
}

-- ## What Chapter C's logs say

-- what a controller of the channel says, and no other command
abbrev own : (channel control : ℕ) → Command → Option (Option ℕ)
own channel control (commands.Control at number value) = cond (eqb at channel) (controller_says (control_kind number) (control_kind control) number control value) None
own channel control command = None

self : (n : ℕ) → eqb n n ≡ true
self n = eq-eqb n n refl

-- counted controllers say the same whatever their value is
any_value : (kind other : ControlKind) (number control value : ℕ) → is_counted_kind kind ≡ true → controller_says kind other number control 0 ≡ controller_says kind other number control value
any_value (numbers.Increment n) other number control value h = refl
any_value (numbers.Silence n) other number control value h = refl
any_value numbers.ResetControllers other number control value h = refl
any_value kind other number control value h = absurd (let f : false ≡ true = h in cc)

entry_none : (kind other : ControlKind) (number control value : ℕ) → is_entry_kind kind ≡ true → controller_says kind other number control value ≡ None
entry_none (numbers.DataEntry high) other number control value h = refl
entry_none kind other number control value h = absurd (let f : false ≡ true = h in cc)

value_heard : (channel control : ℕ) (session : List Sent) (number value : ℕ) → control_log_says channel control (value_said channel session number value) ≡ controller_says (control_kind number) (control_kind control) number control value
value_heard channel control session number value =
    elim (cases_Bool (is_counted number)) [
      | inl t ↦ rw (t, self channel) (any_value (control_kind number) (control_kind control) number control value (is_counted-kind number ∙ t))
      | inr f ↦ rw (f, self channel) refl
    ]

set_heard : (channel control : ℕ) (fresh : Bool) (session : List Sent) (number value : ℕ) →
    final (log_says (control_log_says channel control)) (all_logged fresh (event_said channel session (Set number value))) ≡ controller_says (control_kind number) (control_kind control) number control value
set_heard channel control fresh session number value =
    let here = value_heard channel control session number value in
    elim (cases_Bool (eqb number 64)) [
      | inl t ↦ rw t here
      | inr f ↦ rw f here
    ]

nothing : (channel control : ℕ) (fresh b : Bool) (session : List Sent) → final (log_says (control_log_says channel control)) (all_logged fresh (event_said channel session (cond b Dropped Other))) ≡ None
nothing channel control fresh true session = refl
nothing channel control fresh false session = refl

place_heard : (channel control : ℕ) (fresh : Bool) (session : List Sent) (command : Command) → final (log_says (control_log_says channel control)) (all_logged fresh (event_said channel session (control_event channel command))) ≡ own channel control command
place_heard channel control fresh session (commands.Control at number value) =
    elim (cases_Bool (eqb at channel)) [
      | inl t ↦ elim (cases_Bool (is_entry number)) [
        | inl e ↦ rw (t, e) (sym (entry_none (control_kind number) (control_kind control) number control value (is_entry-kind number ∙ e)))
        | inr n ↦ rw (t, n) (set_heard channel control fresh session number value)
      ]
      | inr f ↦ rw f refl
    ]
place_heard channel control fresh session command = nothing channel control fresh (is_reset command) session

chapter_heard : (channel control checkpoint packet : ℕ) (sent : List Sent) → final (log_says (control_log_says channel control)) (c_said channel checkpoint packet sent) ≡ final (λ place. own channel control place.command) (coded_controls channel checkpoint packet sent)
unfolding c_said
chapter_heard channel control checkpoint packet sent =
    let session = below packet_of packet sent in
    let says = log_says (control_log_says channel control) in
    final-flat_map says (λ place. all_logged (is_fresh packet place) (place_said channel session place)) (coded_controls channel checkpoint packet sent)
    ∙ final-same (λ place. final says (all_logged (is_fresh packet place) (place_said channel session place))) (λ place. own channel control place.command)
    (λ place. place_heard channel control (is_fresh packet place) session place.command) (coded_controls channel checkpoint packet sent)

-- ## What ends a controller says something of the control

-- two controllers of one item are the same, or the two modes of a pair
by_item : (P : ℕ → ℕ → Type 0) (n other : ℕ) → eqb (item_of n) (item_of other) ≡ true → ((n ≡ other) → P n other) → P 124 125 → P 125 124 → P 126 127 → P 127 126 → P n other
unfolding item_of
by_item P n other h same a b c d =
    elim (cases_Bool (eqb n 125)) [
      | inl n5 ↦
          let at_n : n ≡ 125 = eqb-true n 125 n5 in
          elim (cases_Bool (eqb other 125)) [
            | inl o5 ↦ same (at_n ∙ sym (eqb-true other 125 o5))
            | inr o5 ↦ elim (cases_Bool (eqb other 127)) [
              | inl o7 ↦ absurd (let f : false ≡ true = (rw (n5, o5, o7) at h) in cc)
              | inr o7 ↦
                  let here : eqb 124 other ≡ true = rw (n5, o5, o7) at h in
                  let at_o : 124 ≡ other = eqb-true 124 other here in
                  subst (λ k. P k other) (sym at_n) (subst (λ k. P 125 k) at_o b)
            ]
          ]
      | inr n5 ↦ elim (cases_Bool (eqb n 127)) [
        | inl n7 ↦
            let at_n : n ≡ 127 = eqb-true n 127 n7 in
            elim (cases_Bool (eqb other 125)) [
              | inl o5 ↦ absurd (let f : false ≡ true = (rw (n5, n7, o5) at h) in cc)
              | inr o5 ↦ elim (cases_Bool (eqb other 127)) [
                | inl o7 ↦ same (at_n ∙ sym (eqb-true other 127 o7))
                | inr o7 ↦
                    let here : eqb 126 other ≡ true = rw (n5, n7, o5, o7) at h in
                    let at_o : 126 ≡ other = eqb-true 126 other here in
                    subst (λ k. P k other) (sym at_n) (subst (λ k. P 127 k) at_o d)
              ]
            ]
        | inr n7 ↦ elim (cases_Bool (eqb other 125)) [
          | inl o5 ↦
              let at_o : other ≡ 125 = eqb-true other 125 o5 in
              let here : eqb n 124 ≡ true = rw (n5, n7, o5) at h in
              let at_n : n ≡ 124 = eqb-true n 124 here in
              subst (λ k. P k other) (sym at_n) (subst (λ k. P 124 k) (sym at_o) a)
          | inr o5 ↦ elim (cases_Bool (eqb other 127)) [
            | inl o7 ↦
                let at_o : other ≡ 127 = eqb-true other 127 o7 in
                let here : eqb n 126 ≡ true = rw (n5, n7, o5, o7) at h in
                let at_n : n ≡ 126 = eqb-true n 126 here in
                subst (λ k. P k other) (sym at_n) (subst (λ k. P 126 k) (sym at_o) c)
            | inr o7 ↦ let here : eqb n other ≡ true = rw (n5, n7, o5, o7) at h in same (eqb-true n other here)
          ]
        ]
      ]
    ]

either_mode : (a b : Bool) (value other : ℕ) → speaks (cond a (Some (Some value)) (ended b)) ≡ true → speaks (cond b (Some (Some other)) (ended a)) ≡ true
either_mode true true value other h = refl
either_mode true false value other h = refl
either_mode false true value other h = refl
either_mode false false value other h = cc

choice : (b : Bool) (value other : ℕ) → speaks (cond {A = Option (Option ℕ)} b (Some (Some value)) None) ≡ true → speaks (cond {A = Option (Option ℕ)} b (Some (Some other)) None) ≡ true
choice true value other h = refl
choice false value other h = cc

pair_choice : (a : Bool) (b : Option (Option ℕ)) (value other : ℕ) → speaks (cond a (Some (Some value)) b) ≡ true → speaks (cond a (Some (Some other)) b) ≡ true
pair_choice true b value other h = refl
pair_choice false b value other h = h

-- whether it says something doesn't go by its value
value_apart : (kind k : ControlKind) (number control value other : ℕ) → speaks (controller_says kind k number control value) ≡ true → speaks (controller_says kind k number control other) ≡ true
value_apart (numbers.Mode n) k number control value other h = pair_choice (eqb number control) _ value other h
value_apart (numbers.Kept n) k number control value other h = choice (eqb number control) value other h
value_apart numbers.Pedal k number control value other h = choice (eqb number control) value other h
value_apart (numbers.Plain n) k number control value other h = choice (eqb number control) value other h
value_apart numbers.ResetControllers k number control value other h = h
value_apart kind k number control value other h = absurd (let f : false ≡ true = h in cc)

abbrev Speaks : (control : ℕ) → (value other : ℕ) → (n m : ℕ) → Type 0
Speaks control value other n m = speaks (controller_says (control_kind n) (control_kind control) n control value) ≡ true → speaks (controller_says (control_kind m) (control_kind control) m control other) ≡ true

same_item : (control value other n m : ℕ) → eqb (item_of n) (item_of m) ≡ true → Speaks control value other n m
unfolding control_kind
same_item control value other n m e =
    by_item (Speaks control value other) n m e
    (λ same. subst (λ k. Speaks control value other n k) same (value_apart (control_kind n) (control_kind control) n control value other))
    (either_mode (eqb 124 control) (eqb 125 control) value other)
    (either_mode (eqb 125 control) (eqb 124 control) value other)
    (either_mode (eqb 126 control) (eqb 127 control) value other)
    (either_mode (eqb 127 control) (eqb 126 control) value other)

-- the kinds that Control 121 leaves, as Chapter C codes them
abbrev stays_kind : ControlKind → Bool
stays_kind (numbers.Mode n) = true
stays_kind (numbers.Kept n) = true
stays_kind kind = false

stays : (number : ℕ) → stays_kind (control_kind number) ≡ true → is_kept number ≡ true
unfolding control_kind is_kept
stays number h = grind (arith, nat_tests)

at_number : (b : Bool) (value : ℕ) → speaks (cond {A = Option (Option ℕ)} b (Some (Some value)) None) ≡ true → b ≡ true
at_number true value h = refl
at_number false value h = cc

spoken_end : (b : Bool) → speaks (ended {X = ℕ} b) ≡ true → b ≡ true
spoken_end true h = refl
spoken_end false h = cc

is_spoken : (b : Bool) → b ≡ true → speaks (ended {X = ℕ} b) ≡ true
is_spoken true h = refl
is_spoken false h = cc

-- what Control 121 sets back is dropped by it
set_back : (kind : ControlKind) (number control value : ℕ) → control_kind number ≡ kind → is_kept number ≡ false → speaks (controller_says kind (control_kind control) number control value) ≡ true → is_dropped (control_kind control) ≡ true
set_back (numbers.Mode n) number control value e k h = absurd (let kept : is_kept number ≡ true = stays number (ap stays_kind e) in let f : true ≡ false = sym kept ∙ k in cc)
set_back (numbers.Kept n) number control value e k h = absurd (let kept : is_kept number ≡ true = stays number (ap stays_kind e) in let f : true ≡ false = sym kept ∙ k in cc)
set_back numbers.Pedal number control value e k h =
    let same : number ≡ control = eqb-true number control (at_number (eqb number control) value h) in
    ap (λ n. is_dropped (control_kind n)) (sym same) ∙ ap is_dropped e
set_back (numbers.Plain n) number control value e k h =
    let same : number ≡ control = eqb-true number control (at_number (eqb number control) value h) in
    ap (λ n. is_dropped (control_kind n)) (sym same) ∙ ap is_dropped e
set_back numbers.ResetControllers number control value e k h = spoken_end (is_dropped (control_kind control)) h
set_back kind number control value e k h = absurd (let f : false ≡ true = h in cc)

dropped_by : (number control value : ℕ) → eqb number 121 ≡ true → is_dropped (control_kind control) ≡ true → speaks (controller_says (control_kind number) (control_kind control) number control value) ≡ true
unfolding control_kind
dropped_by number control value h d =
    subst (λ n. speaks (controller_says (control_kind n) (control_kind control) n control value) ≡ true) (sym (eqb-true number 121 h)) (is_spoken (is_dropped (control_kind control)) d)

over_spoken : (a : Option (Option ℕ)) (b : Bool) → speaks a ≡ true → speaks (over a (ended b)) ≡ true
over_spoken (Some a) b h = refl
over_spoken None b h = absurd (let f : false ≡ true = h in cc)

ends_item : (number control value : ℕ) (other later : ℕ) → speaks (controller_says (control_kind number) (control_kind control) number control value) ≡ true →
    (eqb (item_of number) (item_of other) || (eqb other 121 && not (is_kept number))) ≡ true → speaks (controller_says (control_kind other) (control_kind control) other control later) ≡ true
ends_item number control value other later h e =
    elim (or_cases (eqb (item_of number) (item_of other)) (eqb other 121 && not (is_kept number)) e) [
      | inl a ↦ same_item control value later number other a h
      | inr b ↦
          let parts = and_parts (eqb other 121) (not (is_kept number)) b in
          dropped_by other control later parts.0 (set_back (control_kind number) number control value refl (not-true (is_kept number) parts.1) h)
    ]

covered : (channel control number value : ℕ) (command : Command) → speaks (controller_says (control_kind number) (control_kind control) number control value) ≡ true → touches number (control_event channel command) ≡ true →
    speaks (over (own channel control command) (ended (is_reset command))) ≡ true
covered channel control number value (commands.Control at other later) h e =
    elim (cases_Bool (eqb at channel)) [
      | inl t ↦ elim (cases_Bool (is_entry other)) [
        | inl d ↦ absurd (let f : false ≡ true = (rw (t, d) at e) in cc)
        | inr n ↦ rw t (over_spoken (controller_says (control_kind other) (control_kind control) other control later) false (ends_item number control value other later h (rw (t, n) at e)))
      ]
      | inr f ↦ absurd (let f : false ≡ true = (rw f at e) in cc)
    ]
covered channel control number value commands.SystemReset h e = refl
covered channel control number value (commands.Sysex octets) h e =
    elim (cases_Bool (is_reset_message octets)) [
      | inl t ↦ rw t refl
      | inr f ↦ absurd (let f : false ≡ true = (rw f at e) in cc)
    ]
covered channel control number value command h e = absurd (let f : false ≡ true = e in cc)

ends_reset : (channel number : ℕ) (command : Command) → is_reset command ≡ true → touches number (control_event channel command) ≡ true
ends_reset channel number commands.SystemReset h = refl
ends_reset channel number (commands.Sysex octets) h = rw h refl
ends_reset channel number command h = absurd (let f : false ≡ true = h in cc)

entry_apart : (kind k : ControlKind) (number control value : ℕ) → speaks (controller_says kind k number control value) ≡ true → is_entry_kind kind ≡ false
entry_apart (numbers.DataEntry high) k number control value h = absurd (let f : false ≡ true = h in cc)
entry_apart kind k number control value h = refl

-- what says something of the control is the set of a number
by_set : (P : Bool → Type 0) (channel control : ℕ) (command later : Command) → speaks (own channel control command) ≡ true →
    ((number value : ℕ) → speaks (controller_says (control_kind number) (control_kind control) number control value) ≡ true → P (touches number (control_event channel later))) →
    P (event_ends (control_event channel command) (control_event channel later))
by_set P channel control (commands.Control at number value) later h k =
    elim (cases_Bool (eqb at channel)) [
      | inl t ↦
          let s : speaks (controller_says (control_kind number) (control_kind control) number control value) ≡ true = rw t at h in
          let n : is_entry number ≡ false = sym (is_entry-kind number) ∙ entry_apart (control_kind number) (control_kind control) number control value s in
          rw (t, n) (k number value s)
      | inr f ↦ absurd (let f : false ≡ true = (rw f at h) in cc)
    ]
by_set P channel control command later h k = absurd (let f : false ≡ true = h in cc)

said_so : (channel control : ℕ) (command : Command) → over (own channel control command) (ended (is_reset command)) ≡ control_says channel control command
said_so channel control (commands.Control at number value) = over_none (own channel control (commands.Control at number value))
said_so channel control command = refl

-- The logs of a journal say of a control what the commands from the checkpoint on say.
pub control_heard : (channel control : ℕ) → channel < 16 → control < 128 → (checkpoint packet tick : ℕ) (sent : List Sent) → InOrder packet_of sent →
    journal_says (control_log_says channel control) channel checkpoint packet tick sent ≡ final (place_says (control_says channel control)) (seen_since checkpoint packet sent)
unfolding all_groups
control_heard channel control l m checkpoint packet tick sent o =
    let seen = below packet_of packet sent in
    let says : Sent → Option (Option ℕ) = λ place. own channel control place.command in
    let reset : Sent → Option (Option ℕ) = λ place. ended (resets place) in
    rw (groups_heard channel control_groups (λ s. control_of s channel control) (control_log_says channel control) l (control_is channel control l m) checkpoint packet tick sent, resets_heard {V = ℕ} checkpoint packet tick sent o)
    (ap (λ (a : Option (Option ℕ)). over a (final reset (seen_since checkpoint packet sent))) (chapter_heard channel control checkpoint packet sent)
    ∙ final-coded (control_ends channel) says reset
    (λ x y s e. by_set (λ (b : Bool). b ≡ true → speaks (over (says y) (reset y)) ≡ true) channel control x.command y.command s (λ number value h t. covered channel control number value y.command h t) e)
    (λ x y s r. by_set (λ (b : Bool). b ≡ true) channel control x.command y.command s (λ number value h. ends_reset channel number y.command (spoken_end (resets y) r)))
    packet_of checkpoint seen (InOrder-filter packet_of _ sent o)
    ∙ final-same (λ place. over (says place) (reset place)) (place_says (control_says channel control)) (λ place. said_so channel control place.command) (seen_since checkpoint packet sent))

-- The values of the controls of each channel are repaired.
pub control_repaired : (channel control : ℕ) → channel < 16 → control < 128 → Repairs (λ s. control_of s channel control)
control_repaired channel control l m =
    repairs channel control_groups (λ s. control_of s channel control) (control_log_says channel control) (control_says channel control) l (control_is channel control l m) (last_says channel control l m) (λ checkpoint packet tick sent o. control_heard channel control l m checkpoint packet tick sent o)
