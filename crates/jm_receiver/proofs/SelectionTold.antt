-- A listener that hears what repair hands on has the selection of the repaired state.
use Rattle.std.proofs.Common.{◌≡◌, ℕ, zero, suc, ◌+◌, ◌<◌, ◌≤◌, Bool, true, false, not, cond, ◌||◌, eqb, List, [], ◌∷◌, ◌++◌, length, Option, Some, None, fold, refl, sym, ap, subst, ◌∙◌, ◌⊎◌, inl, inr, arith}
use Rattle.std.specs.Prelude.{is_some}
use Rattle.std.specs.List.{AllByRecursion, range_with_len}
use Rattle.std.proofs.Math.Bool.{beq}
use Rattle.std.proofs.lemmas.Bool.{cases_Bool, eqb-true, eq-eqb, and_parts, not-true}
use Rattle.std.proofs.lemmas.Bool.Decides.{nat_tests}
use Rattle.jm_cmds.specs.declared.commands.Command.{Command}
use Rattle.jm_cmds.specs.declared.commands.Command.TheVariants as commands
use Rattle.jm_cmds.specs.declared.selection.ParamCommand.{ParamCommand}
use Rattle.jm_cmds.specs.declared.selection.ParamCommand.TheVariants.{Select, Enter, Pass}
use Rattle.jm_cmds.specs.declared.selection.Selection.{Selection}
use Rattle.jm_cmds.specs.Control.{control_kind, is_reset_message}
use Rattle.jm_cmds.specs.HistoryLaws.{any_weaker}
use Rattle.jm_cmds.specs.Selection.{param_command}
use Rattle.jm_state.specs.declared.state.State.{State}
use Rattle.jm_state.specs.Apply.{applied}
use Rattle.jm_state.specs.Final.{final, speaks, speaks-final, over_none, final-flat_map}
use Rattle.jm_state.specs.Kept.{IsState, no_channel_at}
use Rattle.jm_state.specs.KeptLaws.{state_after_is}
use Rattle.jm_state.specs.PartLaws.{by_part}
use Rattle.jm_state.specs.Parts.{no_state, selection_of, param_of}
use Rattle.jm_state.specs.Replay.{over, said-over}
use Rattle.jm_state.specs.Sameness.{same_states, states_parts}
use Rattle.jm_state.specs.Says.{said, ended, selection_behind}
use Rattle.jm_reader.specs.declared.logs.Log.{Log}
use Rattle.jm_reader.specs.declared.logs.LogKind.{LogKind}
use Rattle.jm_reader.specs.declared.logs.LogKind.TheVariants as kinds
use Rattle.jm_receiver.specs.declared.group.Group.{Group}
use Rattle.jm_receiver.specs.declared.group.Group.TheVariants.{Programs, Params, Controls, Wheels, Released, Struck, Pressures, Polys}
use Rattle.jm_receiver.specs.declared.heard.HeardKind.TheVariants.{Repaired}
use Rattle.jm_receiver.specs.declared.heard.Hearing.{Hearing}
use Rattle.jm_receiver.specs.Group.{is_of, all_groups, all_channels}
use Rattle.jm_receiver.specs.HandedOn.{handed_on_if_new, handed_on, control_handed_on, half_handed_on, halves_are, param_handed_on, param_handed_on_if_new, rpn_handed_on, nrpn_handed_on, selection_handed_on, selection_handed_on_after_params, log_handed_on, log_handed_on_of, reset_handed_on, resets_handed_on, message_handed_on, message_handed_on_if_counting, messages_handed_on, song_handed_on, songs_handed_on, group_handed_on, controls_handed_on, channel_handed_on, repair_handed_on}
use Rattle.jm_receiver.specs.HeardLaw.{listening}
use Rattle.jm_receiver.specs.Order.{of_group, in_order, log_says, tag, rank, is_tagged, is_of-tag, concerns_tag, final-filter_none, part_repaired}
use Rattle.jm_receiver.specs.Repair.{is_reset_log, has_reset, counts, is_ahead, repaired}
use Rattle.jm_receiver.specs.SelectionLaw.{Key, half_in, half_of, half_says, half_key, kind_in, kind_says, kind_key, selection_groups, key_log_says, key_is, same_selection}
use Rattle.jm_receiver.proofs.ParamsTold.{not_handed, none_handed}
use Rattle.jm_receiver.proofs.SelectionGiven.{half_given, rpn_given, nrpn_given, all_given, AreChosen, given_whole}
use Rattle.jm_receiver.proofs.SelectionSteps.{Keeps, one_keeps, if_new_keeps, group_keeps, after_keeps, quiet_elsewhere, quiet_group, controls_said}

-- ## Of last writers

said_alike : {V : Type 0} (o : Option (Option V)) (a b : Option V) → speaks o ≡ true → said o a ≡ said o b
said_alike None a b h = absurd (let f : false ≡ true = h in cc)
said_alike (Some value) a b h = refl

left_or : (a b : Bool) → (a || b) ≡ true → b ≡ false → a ≡ true
left_or true b h f = refl
left_or false b h f = absurd (let t : true ≡ false = sym h ∙ f in cc)

none_some : (o : Option ℕ) → o ≡ None → is_some o ≡ false
none_some o e = ap is_some e

by_test : {X : Type 0} (P : X → Type 0) (b : Bool) (x : X) (xs : List X) → AllByRecursion P (cond b (x ∷ xs) xs) → (b ≡ true → P x) × AllByRecursion P xs
by_test P true x xs h = (λ e. h.0, h.1)
by_test P false x xs h = (λ e. absurd (let f : false ≡ true = e in cc), h)

-- ## Lengths

grows : {X : Type 0} (xs : List X) (x : X) → length xs < length (xs ++ x ∷ [])
grows [] x = omega arith
grows (y ∷ xs) x = let ih = grows xs x in omega (arith, ih)

one_longer : (h : Hearing) (command : Command) → length h.heard < length (handed_on h command).heard
unfolding handed_on
one_longer h command = grows h.heard _

half_longer : (h : Hearing) (at number : ℕ) (value : Option ℕ) → length h.heard ≤ length (half_handed_on h at number value).heard
half_longer h at number None = omega arith
half_longer h at number (Some value) = let more = one_longer h (commands.Control at number value) in omega (arith, more)

param_longer : (h : Hearing) (at : ℕ) (nrpn : Bool) (high low : ℕ) (entry_high entry_low : Option ℕ) → length h.heard < length (param_handed_on h at nrpn high low entry_high entry_low).heard
param_longer h at nrpn high low entry_high entry_low =
    let one = control_handed_on h at (cond nrpn 99 101) high in
    let two = control_handed_on one at (cond nrpn 98 100) low in
    let a = one_longer h (commands.Control at (cond nrpn 99 101) high) in
    let b = one_longer one (commands.Control at (cond nrpn 98 100) low) in
    let c = half_longer two at 6 entry_high in
    let d = half_longer (half_handed_on two at 6 entry_high) at 38 entry_low in
    omega (arith, a, b, c, d)

-- ## Selecting commands

other_half : (kind nrpn high : Bool) (s : Option Selection) (a b : ℕ) → beq kind nrpn ≡ false → half_in nrpn high (selection_behind (selection_behind s (Select kind true a)) (Select kind false b)) ≡ half_in nrpn high s
other_half true true high s a b f = absurd (let t : true ≡ false = f in cc)
other_half false false high s a b f = absurd (let t : true ≡ false = f in cc)
other_half true false true s a b f = refl
other_half true false false s a b f = refl
other_half false true true s a b f = refl
other_half false true false s a b f = refl

same_kind : (kind nrpn : Bool) → beq kind nrpn ≡ true → kind ≡ nrpn
same_kind true true h = refl
same_kind false false h = refl
same_kind true false h = absurd (let f : false ≡ true = h in cc)
same_kind false true h = absurd (let f : false ≡ true = h in cc)

controls_rank : (group : Group) → selection_groups group ≡ eqb (rank group) 2
controls_rank Programs = refl
controls_rank Params = refl
controls_rank Controls = refl
controls_rank Wheels = refl
controls_rank Released = refl
controls_rank Struck = refl
controls_rank Pressures = refl
controls_rank Polys = refl

unconcerned : (group : Group) (channel : ℕ) (t : Option (Group × ℕ)) → selection_groups group ≡ false → is_tagged group channel t ≡ true → concerns_tag selection_groups channel t ≡ false
unconcerned group channel None n h = refl
unconcerned group channel (Some t) n h =
    let same : rank group ≡ rank t.0 = eqb-true (rank group) (rank t.0) (and_parts (eqb (rank group) (rank t.0)) (eqb t.1 channel) h).0 in
    let apart : selection_groups t.0 ≡ false = controls_rank t.0 ∙ ap (λ n. eqb n 2) (sym same) ∙ sym (controls_rank group) ∙ n in
    rw apart refl

all_range : all_channels ≡ range_with_len 0 16
unfolding all_channels
all_range = refl

module _ (channel : ℕ) (l : channel < 16) (logs : List Log) (s : State) (is : IsState s) where
  self : eqb channel channel ≡ true
  self = eq-eqb channel channel refl

  -- the repaired selection, and the one behind the resets
  abbrev meant : Option Selection
  meant = selection_of (repaired s logs) channel

  abbrev start : Option Selection
  start = cond (has_reset logs) None (selection_of s channel)

  -- what the channel's controls say of a key
  abbrev pub told : {V : Type 0} (part : Option Selection → Option V) (says : ParamCommand → Option (Option V)) → Key part says → Option (Option V)
  told part says key = final (log_says (key_log_says part says key channel)) (of_group Controls channel logs)

  group_silent : {V : Type 0} (part : Option Selection → Option V) (says : ParamCommand → Option (Option V)) (key : Key part says) (group : Group) → selection_groups group ≡ false → final (log_says (key_log_says part says key channel)) (of_group group channel logs) ≡ None
  group_silent part says key group n =
      final-filter_none (log_says (key_log_says part says key channel)) (λ log. is_of group channel log.what)
      (λ log h. (key_is part says key channel l).silent log.what (unconcerned group channel (tag log.what) n (sym (is_of-tag group channel log.what) ∙ h))) logs

  controls_alone : {V : Type 0} (part : Option Selection → Option V) (says : ParamCommand → Option (Option V)) (key : Key part says) → final (log_says (key_log_says part says key channel)) (in_order channel logs) ≡ told part says key
  unfolding in_order all_groups
  controls_alone part says key =
      let none = λ (group : Group) (n : selection_groups group ≡ false). group_silent part says key group n in
      final-flat_map (log_says (key_log_says part says key channel)) (λ group. of_group group channel logs) all_groups
      ∙ rw (none Programs refl, none Params refl, none Wheels refl, none Released refl, none Struck refl, none Pressures refl, none Polys refl)
      (over_none (over (told part says key) None) ∙ over_none (told part says key))

  start_key : {V : Type 0} (part : Option Selection → Option V) (says : ParamCommand → Option (Option V)) (key : Key part says) → part start ≡ said (ended (has_reset logs)) (part (selection_of s channel))
  start_key part says key = elim (cases_Bool (has_reset logs)) [ inl t ↦ rw t key.absent | inr f ↦ rw f refl ]

  meant_key : {V : Type 0} (part : Option Selection → Option V) (says : ParamCommand → Option (Option V)) (key : Key part says) → part meant ≡ said (told part says key) (part start)
  meant_key part says key =
      part_repaired channel selection_groups (λ t. part (selection_of t channel)) (key_log_says part says key channel) (key_is part says key channel l) s logs l is
      ∙ ap (λ (w : Option (Option _)). said (over w (ended (has_reset logs))) (part (selection_of s channel))) (controls_alone part says key)
      ∙ sym (said-over (told part says key) (ended (has_reset logs)) (part (selection_of s channel)))
      ∙ ap (said (told part says key)) (sym (start_key part says key))

  -- A half is in the repaired selection, or a control of the channel speaks of it.
  abbrev pub Covered : (nrpn high : Bool) → Type 0
  Covered nrpn high = (speaks (told (half_in nrpn high) (half_says nrpn high) (half_key nrpn high)) || is_some (half_in nrpn high meant)) ≡ true

  abbrev pub CoversLog : LogKind → Type 0
  CoversLog (kinds.Param at nrpn high low entry_high entry_low) = (half : Bool) → Covered nrpn half
  CoversLog log = Unit {0}

  -- ## Before the channels

  abbrev Has : Option Selection → Hearing → Type 0
  Has chosen h = Keeps channel chosen h.state

  absent : selection_of no_state channel ≡ None
  absent = ap (λ c. c.selection) (no_channel_at channel l)

  none_if_new : (h : Hearing) (command : Command) → applied h.state command ≡ no_state → IsState h.state → Has None (handed_on_if_new h command Repaired)
  unfolding handed_on_if_new
  none_if_new h command e w =
      let nothing : selection_of (applied h.state command) channel ≡ None = ap (λ (t : State). selection_of t channel) e ∙ absent in
      elim (cases_Bool (same_states (applied h.state command) h.state)) [
        | inl t ↦ rw t (record { is = w; same = sym ((states_parts (applied h.state command) h.state t).selection channel l) ∙ nothing })
        | inr f ↦ rw f (record { is = state_after_is h.state command w; same = nothing })
      ]

  none_by : (h : Hearing) (log : LogKind) → is_reset_log log ≡ true → IsState h.state → Has None (reset_handed_on h log)
  none_by h (kinds.Reset count) r w = none_if_new h commands.SystemReset refl w
  none_by h (kinds.Sysex count octets) r w = rw r (none_if_new h (commands.Sysex octets) (rw r refl) w)
  none_by h log r w = absurd (let f : false ≡ true = r in cc)

  stays_none : (h : Hearing) (more : List Log) → Has None h → Has None (fold (λ g log. reset_handed_on g log.what) h more)
  stays_none h [] k = k
  stays_none h (log ∷ more) k =
      stays_none (reset_handed_on h log.what) more
      (elim (cases_Bool (is_reset_log log.what)) [
        | inl t ↦ none_by h log.what t k.is
        | inr f ↦ subst (λ (g : Hearing). Has None g) (sym (not_handed h log.what f)) k
      ])

  becomes_none : (h : Hearing) (more : List Log) → has_reset more ≡ true → IsState h.state → Has None (fold (λ g log. reset_handed_on g log.what) h more)
  becomes_none h [] r w = absurd (let f : false ≡ true = r in cc)
  becomes_none h (log ∷ more) r w =
      elim (cases_Bool (is_reset_log log.what)) [
        | inl t ↦ stays_none (reset_handed_on h log.what) more (none_by h log.what t w)
        | inr f ↦
            subst (λ (g : Hearing). Has None (fold (λ x y. reset_handed_on x y.what) g more)) (sym (not_handed h log.what f))
            (becomes_none h more (rw f at r) w)
      ]

  resets_start : (h : Hearing) → h.state ≡ s → Has start (resets_handed_on logs h)
  unfolding resets_handed_on
  resets_start h e =
      let w : IsState h.state = subst IsState (sym e) is in
      elim (cases_Bool (has_reset logs)) [
        | inl t ↦ rw t (becomes_none h logs t w)
        | inr f ↦ rw f (subst (λ (g : Hearing). Has (selection_of s channel) g) (sym (none_handed h logs f)) (record { is = w; same = ap (λ (t : State). selection_of t channel) e }))
      ]

  message_has : (reset : Bool) (before : ℕ) (h : Hearing) (chosen : Option Selection) (log : LogKind) → counts reset before log ≡ true → Has chosen h → Has chosen (message_handed_on h log)
  message_has reset before h chosen (kinds.Sysex count octets) c k =
      let none : is_reset_message octets ≡ false = not-true (is_reset_message octets) (and_parts (not (is_reset_message octets)) (reset || is_ahead before count) c).0 in
      one_keeps channel l h chosen (commands.Sysex octets) (rw none refl) k
  message_has reset before h chosen log c k = absurd (let f : false ≡ true = c in cc)

  messages_have : (reset : Bool) (before : ℕ) (h : Hearing) (chosen : Option Selection) (more : List Log) → Has chosen h → Has chosen (fold (message_handed_on_if_counting reset before) h more)
  messages_have reset before h chosen [] k = k
  messages_have reset before h chosen (log ∷ more) k =
      messages_have reset before (message_handed_on_if_counting reset before h log) chosen more
      (elim (cases_Bool (counts reset before log.what)) [ inl t ↦ rw t (message_has reset before h chosen log.what t k) | inr f ↦ rw f k ])

  song_has : (h : Hearing) (chosen : Option Selection) (log : LogKind) → Has chosen h → Has chosen (song_handed_on h log)
  song_has h chosen (kinds.Song song) k = if_new_keeps channel l h chosen (commands.SongSelect song) Repaired refl k
  song_has h chosen log k = k

  songs_have : (h : Hearing) (chosen : Option Selection) (more : List Log) → Has chosen h → Has chosen (fold (λ g log. song_handed_on g log.what) h more)
  songs_have h chosen [] k = k
  songs_have h chosen (log ∷ more) k = songs_have (song_handed_on h log.what) chosen more (song_has h chosen log.what k)

  -- ## Another channel

  other_channel : (whole : State) (h : Hearing) (chosen : Option Selection) (at : ℕ) → eqb at channel ≡ false → Has chosen h → Has chosen (channel_handed_on logs whole h at)
  unfolding channel_handed_on controls_handed_on
  other_channel whole h chosen at f k =
      let quiet = λ (group : Group). quiet_elsewhere channel l group at f in
      let p = group_handed_on logs at h Programs in
      let e = group_handed_on logs at p Params in
      let c = group_handed_on logs at e Controls in
      let a = selection_handed_on_after_params (length p.heard) (length e.heard) c at (selection_of whole at) in
      let w = group_handed_on logs at a Wheels in
      let r = group_handed_on logs at w Released in
      let n = group_handed_on logs at r Struck in
      let q = group_handed_on logs at n Pressures in
      group_keeps channel l logs at q chosen Polys (quiet Polys)
      (group_keeps channel l logs at n chosen Pressures (quiet Pressures)
      (group_keeps channel l logs at r chosen Struck (quiet Struck)
      (group_keeps channel l logs at w chosen Released (quiet Released)
      (group_keeps channel l logs at a chosen Wheels (quiet Wheels)
      (after_keeps channel l (length p.heard) (length e.heard) c chosen at (selection_of whole at) f
      (group_keeps channel l logs at e chosen Controls (quiet Controls)
      (group_keeps channel l logs at p chosen Params (quiet Params)
      (group_keeps channel l logs at h chosen Programs (quiet Programs) k))))))))

  -- ## Its parameters

  record Entering (p g : Hearing) : Type 0 where
    whole : IsState g.state
    half : (nrpn high : Bool) → (half_in nrpn high (selection_of g.state channel) ≡ half_in nrpn high start) ⊎ Covered nrpn high
    kind : (kind_in (selection_of g.state channel) ≡ kind_in start) ⊎ ((nrpn : Bool) × Covered nrpn true)
    grown : (g ≡ p) ⊎ (length p.heard < length g.heard)

  high_selects : (nrpn : Bool) (value : ℕ) → param_command channel (commands.Control channel (cond nrpn 99 101) value) ≡ Select nrpn true value
  unfolding control_kind
  high_selects true value = rw self refl
  high_selects false value = rw self refl

  low_selects : (nrpn : Bool) (value : ℕ) → param_command channel (commands.Control channel (cond nrpn 98 100) value) ≡ Select nrpn false value
  unfolding control_kind
  low_selects true value = rw self refl
  low_selects false value = rw self refl

  enters : (high : Bool) (value : ℕ) → param_command channel (commands.Control channel (cond high 6 38) value) ≡ Enter high value
  unfolding control_kind
  enters true value = rw self refl
  enters false value = rw self refl

  one_selects : (h : Hearing) (command : Command) (event : ParamCommand) (chosen : Option Selection) → param_command channel command ≡ event → Has chosen h → Has (selection_behind chosen event) (handed_on h command)
  unfolding handed_on
  one_selects h command event chosen e k = record {
    is = state_after_is h.state command k.is;
    same = (by_part h.state command k.is).selection channel l ∙ ap (selection_behind (selection_of h.state channel)) e ∙ ap (λ (x : Option Selection). selection_behind x event) k.same;
  }

  half_enters : (h : Hearing) (chosen : Option Selection) (high : Bool) (value : Option ℕ) → Has chosen h → Has chosen (half_handed_on h channel (cond high 6 38) value)
  half_enters h chosen high None k = k
  half_enters h chosen high (Some value) k = one_selects h (commands.Control channel (cond high 6 38) value) (Enter high value) chosen (enters high value) k

  param_selects : (h : Hearing) (chosen : Option Selection) (nrpn : Bool) (high low : ℕ) (entry_high entry_low : Option ℕ) → Has chosen h →
      Has (selection_behind (selection_behind chosen (Select nrpn true high)) (Select nrpn false low)) (param_handed_on h channel nrpn high low entry_high entry_low)
  param_selects h chosen nrpn high low entry_high entry_low k =
      let one = control_handed_on h channel (cond nrpn 99 101) high in
      let two = control_handed_on one channel (cond nrpn 98 100) low in
      let after = selection_behind (selection_behind chosen (Select nrpn true high)) (Select nrpn false low) in
      half_enters (half_handed_on two channel 6 entry_high) after false entry_low
      (half_enters two after true entry_high
      (one_selects one (commands.Control channel (cond nrpn 98 100) low) (Select nrpn false low) (selection_behind chosen (Select nrpn true high)) (low_selects nrpn low)
      (one_selects h (commands.Control channel (cond nrpn 99 101) high) (Select nrpn true high) chosen (high_selects nrpn high) k)))

  param_enters : (p g : Hearing) (nrpn : Bool) (high low : ℕ) (entry_high entry_low : Option ℕ) → ((half : Bool) → Covered nrpn half) → Entering p g → Entering p (param_handed_on_if_new g channel nrpn high low entry_high entry_low)
  unfolding param_handed_on_if_new
  param_enters p g nrpn high low entry_high entry_low covers k =
      let after = param_handed_on g channel nrpn high low entry_high entry_low in
      let now = selection_of g.state channel in
      let done = param_selects g now nrpn high low entry_high entry_low (record { is = k.whole; same = refl }) in
      let longer = param_longer g channel nrpn high low entry_high entry_low in
      elim (cases_Bool (halves_are (param_of g.state channel nrpn high low) entry_high entry_low)) [
        | inl t ↦ rw t k
        | inr f ↦ rw f (record {
          whole = done.is;
          half = λ kind half. elim (cases_Bool (beq nrpn kind)) [
            | inl t ↦ inr (subst (λ n. Covered n half) (same_kind nrpn kind t) (covers half))
            | inr n ↦ elim (k.half kind half) [
              | inl same ↦ inl (ap (half_in kind half) done.same ∙ other_half nrpn kind half now high low n ∙ same)
              | inr covered ↦ inr covered
            ]
          ];
          kind = inr (nrpn, covers true);
          grown = inr (elim k.grown [
            | inl same ↦ (let e : length g.heard ≡ length p.heard = ap (λ (x : Hearing). length x.heard) same in omega (arith, e, longer))
            | inr more ↦ omega (arith, more, longer)
          ]);
        })
      ]

  log_enters : (p g : Hearing) (log : LogKind) → is_of Params channel log ≡ true → CoversLog log → Entering p g → Entering p (log_handed_on g log)
  log_enters p g (kinds.Param at nrpn high low entry_high entry_low) own covers k =
      subst (λ n. Entering p (param_handed_on_if_new g n nrpn high low entry_high entry_low)) (sym (eqb-true at channel own)) (param_enters p g nrpn high low entry_high entry_low covers k)
  log_enters p g log own covers k = absurd (let f : false ≡ true = own in cc)

  one_enters : (group : Group) → ((log : LogKind) → is_of group channel log ≡ true → is_of Params channel log ≡ true) → (p g : Hearing) (log : Log) → (is_of group channel log.what ≡ true → CoversLog log.what) → Entering p g → Entering p (log_handed_on_of group channel g log)
  one_enters group own p g log covers k =
      elim (cases_Bool (is_of group channel log.what)) [ inl t ↦ rw t (log_enters p g log.what (own log.what t) (covers t) k) | inr f ↦ rw f k ]

  logs_enter : (group : Group) → ((log : LogKind) → is_of group channel log ≡ true → is_of Params channel log ≡ true) → (p g : Hearing) (more : List Log) → AllByRecursion (λ log. CoversLog log.what) (of_group group channel more) → Entering p g →
      Entering p (fold (log_handed_on_of group channel) g more)
  logs_enter group own p g [] covers k = k
  logs_enter group own p g (log ∷ more) covers k =
      let two = by_test (λ (x : Log). CoversLog x.what) (is_of group channel log.what) log (of_group group channel more) covers in
      logs_enter group own p (log_handed_on_of group channel g log) more two.1 (one_enters group own p g log two.0 k)

  params_enter : (p : Hearing) → AllByRecursion (λ log. CoversLog log.what) (of_group Params channel logs) → Has start p → Entering p (group_handed_on logs channel p Params)
  unfolding group_handed_on
  params_enter p covers k =
      logs_enter Params (λ log own. own) p p logs covers (record {
        whole = k.is;
        half = λ nrpn high. inl (ap (half_in nrpn high) k.same);
        kind = inl (ap kind_in k.same);
        grown = inl refl;
      })

  -- ## Its controls, and the selection that is given

  controls_key : {V : Type 0} (part : Option Selection → Option V) (says : ParamCommand → Option (Option V)) (key : Key part says) (e : Hearing) → IsState e.state →
      part (selection_of (group_handed_on logs channel e Controls).state channel) ≡ said (told part says key) (part (selection_of e.state channel))
  unfolding group_handed_on
  controls_key part says key e w = (controls_said channel l part says key e logs w).1

  controls_is : (e : Hearing) → IsState e.state → IsState (group_handed_on logs channel e Controls).state
  unfolding group_handed_on
  controls_is e w = (controls_said channel l kind_in kind_says kind_key e logs w).0

  half_gives : (h : Hearing) (chosen : Option Selection) (nrpn high : Bool) (number : ℕ) (value : Option ℕ) → ((v : ℕ) → param_command channel (commands.Control channel number v) ≡ Select nrpn high v) → Has chosen h → Has (half_given chosen nrpn high value) (half_handed_on h channel number value)
  half_gives h chosen nrpn high number None e k = k
  half_gives h chosen nrpn high number (Some value) e k = one_selects h (commands.Control channel number value) (Select nrpn high value) chosen (e value) k

  rpn_gives : (h : Hearing) (chosen : Option Selection) (r : Selection) → Has chosen h → Has (rpn_given chosen r) (rpn_handed_on h channel r)
  rpn_gives h chosen r k =
      half_gives (half_handed_on h channel 101 r.rpn_high) (half_given chosen false true r.rpn_high) false false 100 r.rpn_low (low_selects false)
      (half_gives h chosen false true 101 r.rpn_high (high_selects false) k)

  nrpn_gives : (h : Hearing) (chosen : Option Selection) (r : Selection) → Has chosen h → Has (nrpn_given chosen r) (nrpn_handed_on h channel r)
  nrpn_gives h chosen r k =
      half_gives (half_handed_on h channel 99 r.nrpn_high) (half_given chosen true true r.nrpn_high) true false 98 r.nrpn_low (low_selects true)
      (half_gives h chosen true true 99 r.nrpn_high (high_selects true) k)

  selection_gives : (h : Hearing) (chosen : Option Selection) (r : Selection) → Has chosen h → Has (all_given chosen r) (selection_handed_on h channel (Some r))
  unfolding selection_handed_on
  selection_gives h chosen r k =
      elim (cases_Bool r.nrpn) [
        | inl t ↦ rw t (nrpn_gives (rpn_handed_on h channel r) (rpn_given chosen r) r (rpn_gives h chosen r k))
        | inr f ↦ rw f (rpn_gives (nrpn_handed_on h channel r) (nrpn_given chosen r) r (nrpn_gives h chosen r k))
      ]

  -- a key of which the controls speak is as it is meant
  spoken_key : {V : Type 0} (part : Option Selection → Option V) (says : ParamCommand → Option (Option V)) (key : Key part says) (e : Hearing) → IsState e.state → speaks (told part says key) ≡ true →
      part (selection_of (group_handed_on logs channel e Controls).state channel) ≡ part meant
  spoken_key part says key e w h =
      controls_key part says key e w ∙ said_alike (told part says key) (part (selection_of e.state channel)) (part start) h ∙ sym (meant_key part says key)

  same_key : {V : Type 0} (part : Option Selection → Option V) (says : ParamCommand → Option (Option V)) (key : Key part says) (e : Hearing) → IsState e.state → part (selection_of e.state channel) ≡ part start →
      part (selection_of (group_handed_on logs channel e Controls).state channel) ≡ part meant
  same_key part says key e w h = controls_key part says key e w ∙ ap (said (told part says key)) h ∙ sym (meant_key part says key)

  -- what speaks of a half speaks of the kind
  kind_spoken : (nrpn high : Bool) → speaks (told (half_in nrpn high) (half_says nrpn high) (half_key nrpn high)) ≡ true → speaks (told kind_in kind_says kind_key) ≡ true
  kind_spoken nrpn high h =
      let half = log_says (key_log_says (half_in nrpn high) (half_says nrpn high) (half_key nrpn high) channel) in
      let kind = log_says (key_log_says kind_in kind_says kind_key channel) in
      speaks-final kind (of_group Controls channel logs)
      ∙ any_weaker (λ log. speaks (half log)) (λ log. speaks (kind log)) (λ log e. by_log log.what e) (of_group Controls channel logs)
      (sym (speaks-final half (of_group Controls channel logs)) ∙ h)
    where
      by_event : (event : ParamCommand) → speaks (half_says nrpn high event) ≡ true → speaks (kind_says event) ≡ true
      by_event (Select kind part value) e = refl
      by_event (Enter part value) e = absurd (let f : false ≡ true = e in cc)
      by_event Pass e = absurd (let f : false ≡ true = e in cc)
      by_event event e = refl

      by_log : (log : LogKind) → speaks (key_log_says (half_in nrpn high) (half_says nrpn high) (half_key nrpn high) channel log) ≡ true → speaks (key_log_says kind_in kind_says kind_key channel log) ≡ true
      by_log (kinds.Control at number value) e = by_event (param_command channel (commands.Control at number value)) e
      by_log (kinds.Count at number count) e = by_event (param_command channel (commands.Control at number 0)) e
      by_log (kinds.Program at program bank) e = absurd (let f : false ≡ true = e in cc)
      by_log (kinds.Param at a b c d f) e = absurd (let f : false ≡ true = e in cc)
      by_log (kinds.Toggle at count) e = absurd (let f : false ≡ true = e in cc)
      by_log (kinds.Wheel at first second) e = absurd (let f : false ≡ true = e in cc)
      by_log (kinds.NoteOff at note) e = absurd (let f : false ≡ true = e in cc)
      by_log (kinds.NoteOn at note velocity soon) e = absurd (let f : false ≡ true = e in cc)
      by_log (kinds.Pressure at value) e = absurd (let f : false ≡ true = e in cc)
      by_log (kinds.Poly at note value) e = absurd (let f : false ≡ true = e in cc)
      by_log log e = absurd (let f : false ≡ true = e in cc)

  nothing_kind : (x : Option Selection) → kind_in x ≡ None → x ≡ None
  nothing_kind None h = refl
  nothing_kind (Some r) h = absurd (let no : ◌≡◌ {A = Option Bool} (Some r.nrpn) None = h in cc)

  -- where parameters were handed on
  given_meant : (r : Option Selection) (p e : Hearing) → meant ≡ r → AreChosen r → Entering p e → Has r (selection_handed_on (group_handed_on logs channel e Controls) channel r)
  unfolding selection_handed_on
  given_meant None p e none chosen k =
      record {
        is = controls_is e k.whole;
        same = nothing_kind (selection_of (group_handed_on logs channel e Controls).state channel)
            (elim k.kind [
              | inl same ↦ same_key kind_in kind_says kind_key e k.whole same
              | inr covered ↦
                  let absent_half : is_some (half_in covered.0 true meant) ≡ false = none_some (half_in covered.0 true meant) (ap (half_in covered.0 true) none ∙ (half_key covered.0 true).absent) in
                  spoken_key kind_in kind_says kind_key e k.whole (kind_spoken covered.0 true (left_or (speaks (told (half_in covered.0 true) (half_says covered.0 true) (half_key covered.0 true))) (is_some (half_in covered.0 true meant)) covered.1 absent_half))
            ]
            ∙ ap kind_in none);
      }
  given_meant (Some r) p e some chosen k =
      let c = group_handed_on logs channel e Controls in
      let now = selection_of c.state channel in
      let less : (nrpn high : Bool) → half_of nrpn high r ≡ None → half_in nrpn high now ≡ None = λ nrpn high none.
      let lacks : half_in nrpn high meant ≡ None = ap (half_in nrpn high) some ∙ none in
      elim (k.half nrpn high) [
        | inl same ↦ same_key (half_in nrpn high) (half_says nrpn high) (half_key nrpn high) e k.whole same
        | inr covered ↦ spoken_key (half_in nrpn high) (half_says nrpn high) (half_key nrpn high) e k.whole (left_or (speaks (told (half_in nrpn high) (half_says nrpn high) (half_key nrpn high))) (is_some (half_in nrpn high meant)) covered (none_some (half_in nrpn high meant) lacks))
      ]
      ∙ lacks in
      subst (λ (x : Option Selection). Has x (selection_handed_on c channel (Some r))) (given_whole now r chosen less) (selection_gives c now r (record { is = controls_is e k.whole; same = refl }))

  -- where none was
  left_meant : (p e : Hearing) → Has start p → e ≡ p → Has meant (group_handed_on logs channel e Controls)
  left_meant p e k same =
      let w : IsState e.state = subst (λ (x : Hearing). IsState x.state) (sym same) k.is in
      let began : selection_of e.state channel ≡ start = ap (λ (x : Hearing). selection_of x.state channel) same ∙ k.same in
      record {
        is = controls_is e w;
        same = same_selection (selection_of (group_handed_on logs channel e Controls).state channel) meant
            (same_key kind_in kind_says kind_key e w (ap kind_in began))
            (λ nrpn high. same_key (half_in nrpn high) (half_says nrpn high) (half_key nrpn high) e w (ap (half_in nrpn high) began));
      }

  module _ (covers : AllByRecursion (λ log. CoversLog log.what) (of_group Params channel logs)) (chosen : AreChosen meant) where
    controls_meant : (p : Hearing) → Has start p → Has meant (controls_handed_on logs (repaired s logs) channel p)
    unfolding controls_handed_on
    controls_meant p k =
        let e = group_handed_on logs channel p Params in
        let entered = params_enter p covers k in
        elim (cases_Bool (eqb (length p.heard) (length e.heard))) [
          | inl t ↦ rw t
              (elim entered.grown [
                | inl same ↦ left_meant p e k same
                | inr more ↦ absurd (let equal = eqb-true (length p.heard) (length e.heard) t in omega (arith, equal, more))
              ])
          | inr f ↦ rw f (given_meant meant p e refl chosen entered)
        ]

    own_channel : (h : Hearing) → Has start h → Has meant (channel_handed_on logs (repaired s logs) h channel)
    unfolding channel_handed_on
    own_channel h k =
        let p = group_handed_on logs channel h Programs in
        let a = controls_handed_on logs (repaired s logs) channel p in
        let w = group_handed_on logs channel a Wheels in
        let r = group_handed_on logs channel w Released in
        let n = group_handed_on logs channel r Struck in
        let q = group_handed_on logs channel n Pressures in
        group_keeps channel l logs channel q meant Polys (quiet_group channel l Polys refl refl channel)
        (group_keeps channel l logs channel n meant Pressures (quiet_group channel l Pressures refl refl channel)
        (group_keeps channel l logs channel r meant Struck (quiet_group channel l Struck refl refl channel)
        (group_keeps channel l logs channel w meant Released (quiet_group channel l Released refl refl channel)
        (group_keeps channel l logs channel a meant Wheels (quiet_group channel l Wheels refl refl channel)
        (controls_meant p (group_keeps channel l logs channel h start Programs (quiet_group channel l Programs refl refl channel) k))))))

    -- the channels from one on: it comes among them, or has been
    walk : (n k : ℕ) (h : Hearing) → (n ≤ channel → Has start h) → (channel < n → Has meant h) → channel < n + k → Has meant (fold (channel_handed_on logs (repaired s logs)) h (range_with_len n k))
    walk n zero h before after e = after (omega (arith, e))
    walk n (suc k) h before after e =
        let next = channel_handed_on logs (repaired s logs) h n in
        elim (cases_Bool (eqb n channel)) [
          | inl t ↦
              let here : n ≡ channel = eqb-true n channel t in
              let done : Has meant next = subst (λ m. Has meant (channel_handed_on logs (repaired s logs) h m)) (sym here) (own_channel h (before (omega (arith, here)))) in
              walk (n + 1) k next (λ m. absurd (omega (arith, here, m))) (λ m. done) (omega (arith, e))
          | inr f ↦
              let apart : n ≡ channel → ⊥ = λ same. let t : eqb n channel ≡ true = eq-eqb n channel same in let b : true ≡ false = sym t ∙ f in cc in
              walk (n + 1) k next
              (λ m. other_channel (repaired s logs) h start n f (before (omega (arith, m))))
              (λ m. other_channel (repaired s logs) h meant n f (after (later n apart m)))
              (omega (arith, e))
        ]
      where
        later : (n : ℕ) → (n ≡ channel → ⊥) → channel < n + 1 → channel < n
        later n apart m = elim (cases_Bool (eqb n channel)) [
          | inl t ↦ absurd (apart (eqb-true n channel t))
          | inr f ↦ grind (arith, nat_tests, f, m)
        ]

    pub selection_told : (time : ℕ) → selection_of (repair_handed_on logs (repaired s logs) (listening s time)).state channel ≡ selection_of (repaired s logs) channel
    unfolding repair_handed_on messages_handed_on songs_handed_on
    selection_told time =
        let h = listening s time in
        let resets = resets_handed_on logs h in
        let messages = messages_handed_on logs resets in
        let songs = songs_handed_on logs messages in
        let begun : Has start songs = songs_have messages start logs (messages_have (has_reset logs) resets.state.sysex_count resets start logs (resets_start h refl)) in
        (subst (λ (channels : List ℕ). Has meant (fold (channel_handed_on logs (repaired s logs)) songs channels)) (sym all_range)
        (walk 0 16 songs (λ m. begun) (λ m. absurd (omega (arith, m))) (omega (arith, l)))).same
