-- The law of repair for the toggles of a channel's sustain pedal. No last command decides them: they count the moves of the pedal since
-- Control 121 or the last reset, and their log has the count.
use Rattle.std.proofs.Common.{◌≡◌, ℕ, ◌%◌, ◌<◌, ◌≤◌, Bool, true, false, cond, not, ◌&&◌, ◌||◌, eqb, ltb, leb, List, [], ◌∷◌, ◌++◌, Option, Some, None, fold, refl, sym, ap, ◌∙◌, subst, ◌⊎◌, inl, inr, arith}
use Rattle.std.specs.List.{flat_map, list_any}
use Rattle.std.proofs.lemmas.Bool.{cases_Bool, eq-eqb, eqb-true, or_cases, and_parts}
use Rattle.std.proofs.lemmas.Bool.Decides.{nat_tests}
use Rattle.std.proofs.lemmas.List.Sums.{fold-append}
use Rattle.jm_cmds.specs.declared.commands.Command.{Command}
use Rattle.jm_cmds.specs.declared.commands.Command.TheVariants as commands
use Rattle.jm_cmds.specs.declared.controls.ControlKind.{ControlKind}
use Rattle.jm_cmds.specs.declared.controls.ControlKind.TheVariants as numbers
use Rattle.jm_cmds.specs.declared.history.Sent.{Sent}
use Rattle.jm_cmds.specs.declared.pedal.Pedal.{Pedal}
use Rattle.jm_cmds.specs.declared.pedal.PedalEvent.{PedalEvent}
use Rattle.jm_cmds.specs.declared.pedal.PedalEvent.TheVariants.{Moved, Released, Other as Still}
use Rattle.jm_cmds.specs.Control.{control_kind, clears_controllers, is_entry, is_counted, is_reset, is_reset_message}
use Rattle.jm_cmds.specs.History.{below, since, InOrder}
use Rattle.jm_cmds.specs.HistoryLaws.{InOrder-filter, filter-swap}
use Rattle.jm_cmds.specs.Pedal.{control_pedal, pedal_event, pedal_step, pedal_along, pedal_after, no_pedal}
use Rattle.jm_cmds.specs.Sent.{packet_of, is_fresh}
use Rattle.ch_control.specs.declared.events.ControlEvent.{ControlEvent}
use Rattle.ch_control.specs.declared.events.ControlEvent.TheVariants.{Set, Dropped, Other}
use Rattle.ch_control.specs.ControlEvent.{control_event, event_at, item_of, is_kept, concerns as touches, event_ends, control_ends}
use Rattle.ch_control.specs.ChapterC.{coded_controls}
use Rattle.ch_sysex.specs.SysexEvent.{resets}
use Rattle.jm_state.specs.declared.state.State.{State}
use Rattle.jm_state.specs.Parts.{no_state, nth_channel, with_program, with_toggles, with_param_high, with_param_low, control_of, toggles_of, pedal_by, pedal_at, pedal_of}
use Rattle.jm_state.specs.Says.{ended}
use Rattle.jm_state.specs.Kept.{IsState, no_channel_at}
use Rattle.jm_state.specs.KeptLaws.{no_state_is}
use Rattle.jm_state.specs.PartLaws.{by_part}
use Rattle.jm_state.specs.Replay.{over, in_two}
use Rattle.jm_state.specs.ReplayLaws.{state_behind, behind_is, pedal_counted}
use Rattle.jm_state.specs.SettingLaws.{program_alone, toggles_alone, param_high_alone, param_low_alone, reads_as_set}
use Rattle.jm_state.specs.Final.{final, speaks, final-append, final-same, final-coded, final-ended}
use Rattle.jm_reader.specs.declared.logs.Log.{Log}
use Rattle.jm_reader.specs.declared.logs.LogKind.{LogKind}
use Rattle.jm_reader.specs.declared.logs.LogKind.TheVariants as kinds
use Rattle.jm_reader.specs.WrittenC.{c_said, value_said, event_said, place_said}
use Rattle.jm_reader.specs.WrittenListed.{all_logged}
use Rattle.jm_reader.specs.WrittenJournal.{journal_logs}
use Rattle.jm_reader.specs.WrittenC.{few_along}
use Rattle.jm_receiver.specs.declared.group.Group.TheVariants.{Controls}
use Rattle.jm_receiver.specs.Group.{is_of, command_of, all_channels}
use Rattle.jm_receiver.specs.Repair.{has_reset, cleared, counts, with_message, messages_repaired, with_session_log, high_entered, low_entered, with_channel_log, repaired}
use Rattle.jm_receiver.specs.Order.{of_group, in_order, with_log, session_done, session_is, channel_log_is, repaired-fold, high_is}
use Rattle.jm_receiver.specs.Chapters.{group_of_journal}
use Rattle.jm_receiver.specs.Repairs.{Repairs, seen_since, below_next, session_channels}
use Rattle.jm_receiver.specs.Resets.{reset_of_journal}
use Rattle.jm_receiver.specs.OwnLogs.{by_own}
use Rattle.jm_receiver.specs.WheelLaw.{resets_alone}
use Rattle.jm_receiver.specs.KnownLaw.{later_none, ended_last}

-- ## What a log does to the pedal

abbrev pub pedal_if : (channel : ℕ) → Pedal → Option Command → Pedal
pedal_if channel pedal None = pedal
pedal_if channel pedal (Some command) = pedal_step pedal (pedal_event channel command)

-- toggles are set, and a log of a controller moves the pedal as its command does
abbrev pub pedal_log : (channel : ℕ) → Pedal → LogKind → Pedal
pedal_log channel pedal (kinds.Toggle at count) = cond (eqb at channel) (record pedal { toggles = count % 64 }) pedal
pedal_log channel pedal log = pedal_if channel pedal (command_of log)

pedal_same : (s t : State) (channel : ℕ) → toggles_of t channel ≡ toggles_of s channel → control_of t channel 64 ≡ control_of s channel 64 → pedal_of t channel ≡ pedal_of s channel
pedal_same s t channel e f = ap (λ (n : ℕ). pedal_by n (control_of t channel 64)) e ∙ ap (pedal_by (toggles_of s channel)) f

high_left : (s : State) (channel at : ℕ) (nrpn : Bool) (high low : ℕ) (value : Option ℕ) → channel < 16 → IsState s → pedal_of (high_entered s at nrpn high low value) channel ≡ pedal_of s channel
high_left s channel at nrpn high low None l is = refl
high_left s channel at nrpn high low (Some value) l is =
    let alone = param_high_alone s at nrpn high low (Some value) is in
    pedal_same s (with_param_high s at nrpn high low (Some value)) channel (alone.toggles channel l refl) (alone.control channel 64 l (omega arith) refl)

low_left : (s : State) (channel at : ℕ) (nrpn : Bool) (high low : ℕ) (value : Option ℕ) → channel < 16 → IsState s → pedal_of (low_entered s at nrpn high low value) channel ≡ pedal_of s channel
low_left s channel at nrpn high low None l is = refl
low_left s channel at nrpn high low (Some value) l is =
    let alone = param_low_alone s at nrpn high low (Some value) is in
    pedal_same s (with_param_low s at nrpn high low (Some value)) channel (alone.toggles channel l refl) (alone.control channel 64 l (omega arith) refl)

toggles_set : (channel : ℕ) (s : State) (at count : ℕ) → channel < 16 → IsState s → pedal_of (with_toggles s at count) channel ≡ cond (eqb at channel) (record (pedal_of s channel) { toggles = count }) (pedal_of s channel)
toggles_set channel s at count l is =
    elim (cases_Bool (eqb at channel)) [
      | inl t ↦
          let same : channel ≡ at = sym (eqb-true at channel t) in
          let here : pedal_of (with_toggles s channel count) channel ≡ record (pedal_of s channel) { toggles = count } =
          ap (λ (n : ℕ). pedal_by n (control_of (with_toggles s channel count) channel 64)) ((reads_as_set s is).toggles channel count l)
          ∙ ap (pedal_by count) ((toggles_alone s channel count is).control channel 64 l (omega arith) refl) in
          rw t (subst (λ k. pedal_of (with_toggles s k count) channel ≡ record (pedal_of s channel) { toggles = count }) same here)
      | inr f ↦
          let alone = toggles_alone s at count is in
          rw f (pedal_same s (with_toggles s at count) channel (alone.toggles channel l f) (alone.control channel 64 l (omega arith) refl))
    ]

pedal_set : (channel : ℕ) → channel < 16 → (s : State) (log : LogKind) → IsState s → pedal_of (with_channel_log s log) channel ≡ pedal_log channel (pedal_of s channel) log
pedal_set channel l s (kinds.Program at program bank) is =
    let alone = program_alone s at (Some (record { program = program; bank = bank })) is in
    pedal_same s (with_program s at (Some (record { program = program; bank = bank }))) channel (alone.toggles channel l refl) (alone.control channel 64 l (omega arith) refl)
pedal_set channel l s (kinds.Param at nrpn high low entry_high entry_low) is =
    low_left (high_entered s at nrpn high low entry_high) channel at nrpn high low entry_low l (high_is s at nrpn high low entry_high is)
    ∙ high_left s channel at nrpn high low entry_high l is
pedal_set channel l s (kinds.Toggle at count) is = toggles_set channel s at (count % 64) l is
pedal_set channel l s (kinds.Control at number value) is = (by_part s (commands.Control at number value) is).pedal channel l
pedal_set channel l s (kinds.Count at number count) is = (by_part s (commands.Control at number 0) is).pedal channel l
pedal_set channel l s (kinds.Wheel at first second) is = (by_part s (commands.Wheel at first second) is).pedal channel l
pedal_set channel l s (kinds.NoteOff at note) is = (by_part s (commands.NoteOff at note 64) is).pedal channel l
pedal_set channel l s (kinds.NoteOn at note velocity soon) is = (by_part s (commands.NoteOn at note velocity) is).pedal channel l
pedal_set channel l s (kinds.Pressure at value) is = (by_part s (commands.Pressure at value) is).pedal channel l
pedal_set channel l s (kinds.Poly at note value) is = (by_part s (commands.PolyPressure at note value) is).pedal channel l
pedal_set channel l s log is = refl

abbrev pub pedal_logged : (channel : ℕ) → Pedal → Log → Pedal
pedal_logged channel pedal log = pedal_log channel pedal log.what

pedal_fold : (channel : ℕ) (s : State) (logs : List Log) → channel < 16 → IsState s → pedal_of (fold with_log s logs) channel ≡ fold (pedal_logged channel) (pedal_of s channel) logs
pedal_fold channel s [] l is = refl
pedal_fold channel s (log ∷ logs) l is =
    pedal_fold channel (with_log s log) logs l (channel_log_is s log.what is)
    ∙ ap (λ (p : Pedal). fold (pedal_logged channel) p logs) (pedal_set channel l s log.what is)

-- the logs of Chapter C alone, of the channel
pedal_left : (channel : ℕ) (pedal : Pedal) (log : LogKind) → is_of Controls channel log ≡ false → pedal_log channel pedal log ≡ pedal
pedal_left channel pedal (kinds.Control at number value) h = rw h refl
pedal_left channel pedal (kinds.Toggle at count) h = rw h refl
pedal_left channel pedal (kinds.Count at number count) h = rw h refl
pedal_left channel pedal log h = refl

session_kept : {X : Type 0} (channel : ℕ) (step : State → X → State) → ((s : State) (x : X) → (step s x).channels ≡ s.channels) → (s : State) (xs : List X) → (fold step s xs).channels ≡ s.channels
session_kept channel step same s [] = refl
session_kept channel step same s (x ∷ xs) = session_kept channel step same (step s x) xs ∙ same s x

session_left : (channel : ℕ) (s : State) (logs : List Log) → pedal_of (session_done s logs) channel ≡ pedal_of (cleared logs s) channel
session_left channel s logs =
    ap (λ channels. pedal_at (nth_channel channels channel))
    (session_kept channel (λ t log. with_session_log t log.what) (λ t log. session_channels t log.what) (messages_repaired logs (cleared logs s)) logs
    ∙ session_kept channel (with_message (has_reset logs) (cleared logs s).sysex_count) counted (cleared logs s) logs)
  where
    counted : (t : State) (log : Log) → (with_message (has_reset logs) (cleared logs s).sysex_count t log).channels ≡ t.channels
    counted t log =
        elim (cases_Bool (counts (has_reset logs) (cleared logs s).sysex_count log.what)) [ inl c ↦ rw c refl | inr n ↦ rw n refl ]

-- Repair of the pedal goes by the channel's logs of Chapter C, and by whether there is a reset.
pub pedal_repaired : (channel : ℕ) (s : State) (logs : List Log) → channel < 16 → IsState s →
    pedal_of (repaired s logs) channel ≡ fold (pedal_logged channel) (pedal_of (cleared logs s) channel) (of_group Controls channel logs)
pedal_repaired channel s logs l is =
    let all = flat_map (λ k. in_order k logs) all_channels in
    ap (λ t. pedal_of t channel) (repaired-fold s logs)
    ∙ pedal_fold channel (session_done s logs) all l (session_is s logs is)
    ∙ by_own (pedal_logged channel) channel l (λ p log h. pedal_left channel p log.what h) (pedal_of (session_done s logs) channel) logs
    ∙ ap (λ (p : Pedal). fold (pedal_logged channel) p (of_group Controls channel logs)) (session_left channel s logs)

-- ## What is said of the toggles

-- the toggles behind what was said of them: absent is none
abbrev toggles_by : Option (Option ℕ) → ℕ → ℕ
toggles_by None old = old
toggles_by (Some None) old = 0
toggles_by (Some (Some toggles)) old = toggles

by-over : (a b : Option (Option ℕ)) (old : ℕ) → toggles_by a (toggles_by b old) ≡ toggles_by (over a b) old
by-over None b old = refl
by-over (Some None) b old = refl
by-over (Some (Some n)) b old = refl

-- a coded move of the pedal says the toggles of the whole session, and Control 121 that there are none
abbrev event_says : (toggles : ℕ) → ControlEvent → Option (Option ℕ)
event_says toggles (Set number value) = cond (eqb number 64) (Some (Some toggles)) (ended (eqb number 121))
event_says toggles Dropped = None
event_says toggles Other = None

abbrev is_pedal : ControlKind → Bool
is_pedal numbers.Pedal = true
is_pedal kind = false

pedal_alone : (number : ℕ) → is_pedal (control_kind number) ≡ eqb number 64
unfolding control_kind
pedal_alone number = grind (arith, nat_tests)

-- other controllers leave it
passes : (kind : ControlKind) (value : ℕ) → is_pedal kind ≡ false → clears_controllers kind ≡ false → control_pedal kind value ≡ Still
passes numbers.Pedal value p c = absurd (let f : true ≡ false = p in cc)
passes numbers.ResetControllers value p c = absurd (let f : true ≡ false = c in cc)
passes kind value p c = refl

self : (n : ℕ) → eqb n n ≡ true
self n = eq-eqb n n refl

few : (channel : ℕ) (session : List Sent) → (pedal_after channel session).toggles % 64 ≡ (pedal_after channel session).toggles
unfolding pedal_after
few channel session = omega (arith, few_along channel no_pedal session (omega arith))

module _ (channel : ℕ) (session : List Sent) where
  abbrev all_toggles : ℕ
  all_toggles = (pedal_after channel session).toggles

  value_left : (pedal : Pedal) (number value : ℕ) → eqb number 64 ≡ false → eqb number 121 ≡ false → pedal_log channel pedal (value_said channel session number value) ≡ pedal
  value_left pedal number value f g =
      let other : (v : ℕ) → control_pedal (control_kind number) v ≡ Still = λ v. passes (control_kind number) v (pedal_alone number ∙ f) (resets_alone number ∙ g) in
      elim (cases_Bool (is_counted number)) [
        | inl t ↦ rw (t, self channel, other 0) refl
        | inr n ↦ rw (n, self channel, other value) refl
      ]

  abbrev logged : Bool → ControlEvent → List Log
  logged fresh event = all_logged fresh (event_said channel session event)

  at_64 : (pedal : Pedal) (fresh : Bool) (value : ℕ) → (fold (pedal_logged channel) pedal (logged fresh (Set 64 value))).toggles ≡ all_toggles
  at_64 pedal fresh value = rw (self channel) (few channel session)

  at_121 : (pedal : Pedal) (fresh : Bool) (value : ℕ) → (fold (pedal_logged channel) pedal (logged fresh (Set 121 value))).toggles ≡ 0
  unfolding is_counted control_kind
  at_121 pedal fresh value = rw (self channel) refl

  abbrev Moves : Pedal → Bool → (number value : ℕ) → Type 0
  Moves pedal fresh number value = (fold (pedal_logged channel) pedal (logged fresh (Set number value))).toggles ≡ toggles_by (event_says all_toggles (Set number value)) pedal.toggles

  event_moved : (pedal : Pedal) (fresh : Bool) (event : ControlEvent) → (fold (pedal_logged channel) pedal (logged fresh event)).toggles ≡ toggles_by (event_says all_toggles event) pedal.toggles
  event_moved pedal fresh (Set number value) =
      elim (cases_Bool (eqb number 64)) [
        | inl t ↦ subst (λ n. Moves pedal fresh n value) (sym (eqb-true number 64 t)) (at_64 pedal fresh value)
        | inr f ↦ elim (cases_Bool (eqb number 121)) [
          | inl t ↦ subst (λ n. Moves pedal fresh n value) (sym (eqb-true number 121 t)) (at_121 pedal fresh value)
          | inr g ↦ rw (f, g) (ap (λ (p : Pedal). p.toggles) (value_left pedal number value f g))
        ]
      ]
  event_moved pedal fresh Dropped = refl
  event_moved pedal fresh Other = refl

  places_moved : (packet : ℕ) (pedal : Pedal) (places : List Sent) →
      (fold (pedal_logged channel) pedal (flat_map (λ place. all_logged (is_fresh packet place) (place_said channel session place)) places)).toggles
      ≡ toggles_by (final (λ place. event_says all_toggles (event_at channel place)) places) pedal.toggles
  places_moved packet pedal [] = refl
  places_moved packet pedal (x ∷ xs) =
      let first = all_logged (is_fresh packet x) (place_said channel session x) in
      let rest = flat_map (λ place. all_logged (is_fresh packet place) (place_said channel session place)) xs in
      let later = final (λ place. event_says all_toggles (event_at channel place)) xs in
      ap (λ (p : Pedal). p.toggles) (fold-append (pedal_logged channel) pedal first rest)
      ∙ places_moved packet (fold (pedal_logged channel) pedal first) xs
      ∙ ap (toggles_by later) (event_moved pedal (is_fresh packet x) (event_at channel x))
      ∙ by-over later (event_says all_toggles (event_at channel x)) pedal.toggles

-- ## What the commands say

abbrev pedal_says : (toggles : ℕ) → PedalEvent → Option (Option ℕ)
pedal_says toggles (Moved on) = Some (Some toggles)
pedal_says toggles Released = Some None
pedal_says toggles Still = None

controller_so : (toggles number value : ℕ) → over (event_says toggles (cond (not (is_entry number)) (Set number value) Other)) None ≡ pedal_says toggles (control_pedal (control_kind number) value)
unfolding is_entry control_kind
controller_so toggles number value =
    elim (cases_Bool (eqb number 64)) [
      | inl t ↦
          let same : 64 ≡ number = sym (eqb-true number 64 t) in
          subst (λ n. over (event_says toggles (cond (not (is_entry n)) (Set n value) Other)) None ≡ pedal_says toggles (control_pedal (control_kind n) value)) same refl
      | inr f ↦ elim (cases_Bool (eqb number 121)) [
        | inl t ↦
            let same : 121 ≡ number = sym (eqb-true number 121 t) in
            subst (λ n. over (event_says toggles (cond (not (is_entry n)) (Set n value) Other)) None ≡ pedal_says toggles (control_pedal (control_kind n) value)) same refl
        | inr g ↦
            let other : pedal_says toggles (control_pedal (control_kind number) value) ≡ None = ap (pedal_says toggles) (passes (control_kind number) value (pedal_alone number ∙ f) (resets_alone number ∙ g)) in
            both_none (not (is_entry number)) f g ∙ sym other
      ]
    ]
  where
    both_none : (b : Bool) → eqb number 64 ≡ false → eqb number 121 ≡ false → over (event_says toggles (cond b (Set number value) Other)) None ≡ None
    both_none true f g = rw (f, g) refl
    both_none false f g = refl

-- the events of Chapter C and the resets say what the commands do to the pedal
said_so : (channel toggles : ℕ) (command : Command) → over (event_says toggles (control_event channel command)) (ended (is_reset command)) ≡ pedal_says toggles (pedal_event channel command)
said_so channel toggles (commands.Control at number value) =
    elim (cases_Bool (eqb at channel)) [
      | inl t ↦ rw t (controller_so toggles number value)
      | inr f ↦ rw f refl
    ]
said_so channel toggles command = ended_so (is_reset command)
  where
    ended_so : (b : Bool) → over (event_says toggles (cond b Dropped Other)) (ended b) ≡ pedal_says toggles (cond b Released Still)
    ended_so true = refl
    ended_so false = refl

event_still : (toggles : ℕ) (pedal : Pedal) (event : PedalEvent) → pedal_says toggles event ≡ None → pedal_step pedal event ≡ pedal
event_still toggles pedal (Moved on) h = absurd (let f : Some (Some toggles) ≡ None = h in cc)
event_still toggles pedal Released h = absurd (let f : ◌≡◌ {A = Option (Option ℕ)} (Some None) None = h in cc)
event_still toggles pedal Still h = refl

event_gone : (toggles : ℕ) (pedal : Pedal) (event : PedalEvent) → pedal_says toggles event ≡ Some None → pedal_step pedal event ≡ no_pedal
event_gone toggles pedal (Moved on) h = absurd (let f : Some (Some toggles) ≡ Some None = h in cc)
event_gone toggles pedal Released h = refl
event_gone toggles pedal Still h = absurd (let f : ◌≡◌ {A = Option (Option ℕ)} None (Some None) = h in cc)

event_told : (toggles n : ℕ) (event : PedalEvent) → pedal_says toggles event ≡ Some (Some n) → n ≡ toggles
event_told toggles n (Moved on) h = let f : Some (Some toggles) ≡ Some (Some n) = h in let same : toggles ≡ n = cc in sym same
event_told toggles n Released h = absurd (let f : Some None ≡ Some (Some n) = h in cc)
event_told toggles n Still h = absurd (let f : None ≡ Some (Some n) = h in cc)

told_last : (a b : Option (Option ℕ)) (n : ℕ) → over a b ≡ Some (Some n) → (a ≡ Some (Some n)) ⊎ (b ≡ Some (Some n))
told_last None b n h = inr h
told_last (Some a) b n h = inl h

module _ (channel toggles : ℕ) where
  abbrev place_moves : Sent → Option (Option ℕ)
  place_moves place = pedal_says toggles (pedal_event channel place.command)

  still : (pedal : Pedal) (xs : List Sent) → final place_moves xs ≡ None → fold (pedal_along channel) pedal xs ≡ pedal
  still pedal [] h = refl
  still pedal (x ∷ xs) h =
      let parts = later_none (final place_moves xs) (place_moves x) h in
      ap (λ (p : Pedal). fold (pedal_along channel) p xs) (event_still toggles pedal (pedal_event channel x.command) parts.1) ∙ still pedal xs parts.0

  gone : (pedal : Pedal) (xs : List Sent) → final place_moves xs ≡ Some None → fold (pedal_along channel) pedal xs ≡ no_pedal
  gone pedal [] h = absurd (let f : ◌≡◌ {A = Option (Option ℕ)} None (Some None) = h in cc)
  gone pedal (x ∷ xs) h =
      elim (ended_last (final place_moves xs) (place_moves x) h) [
        | inl e ↦ gone (pedal_along channel pedal x) xs e
        | inr p ↦ ap (λ (q : Pedal). fold (pedal_along channel) q xs) (event_gone toggles pedal (pedal_event channel x.command) p.1) ∙ still no_pedal xs p.0
      ]

  told : (n : ℕ) (xs : List Sent) → final place_moves xs ≡ Some (Some n) → n ≡ toggles
  told n [] h = absurd (let f : None ≡ Some (Some n) = h in cc)
  told n (x ∷ xs) h =
      elim (told_last (final place_moves xs) (place_moves x) n h) [
        | inl e ↦ told n xs e
        | inr e ↦ event_told toggles n (pedal_event channel x.command) e
      ]

-- ## What ends Control 64

by_either : (toggles : ℕ) (a b : Bool) → speaks (cond a (Some (Some toggles)) (ended b)) ≡ true → (a || b) ≡ true
by_either toggles true b h = refl
by_either toggles false true h = refl
by_either toggles false false h = cc

is_either : (toggles : ℕ) (a b : Bool) → (a || b) ≡ true → speaks (over (cond a (Some (Some toggles)) (ended b)) None) ≡ true
is_either toggles true b h = refl
is_either toggles false true h = refl
is_either toggles false false h = cc

right_too : (a b : Bool) → b ≡ true → (a || b) ≡ true
right_too true b h = refl
right_too false b h = h

left_too : (a b : Bool) → a ≡ true → (a || b) ≡ true
left_too a b h = rw h refl

item_64 : (other : ℕ) → eqb (item_of 64) (item_of other) ≡ true → eqb other 64 ≡ true
unfolding item_of
item_64 other h = grind (arith, nat_tests)

item_121 : (other : ℕ) → eqb (item_of 121) (item_of other) ≡ true → eqb other 121 ≡ true
unfolding item_of
item_121 other h = grind (arith, nat_tests)

-- the pedal's control and Control 121
abbrev Speaks : ℕ → Type 0
Speaks number = (eqb number 64 || eqb number 121) ≡ true

other_speaks : (number other : ℕ) → Speaks number → (eqb (item_of number) (item_of other) || (eqb other 121 && not (is_kept number))) ≡ true → Speaks other
other_speaks number other h e =
    elim (or_cases (eqb (item_of number) (item_of other)) (eqb other 121 && not (is_kept number)) e) [
      | inl a ↦ elim (or_cases (eqb number 64) (eqb number 121) h) [
        | inl n ↦
            let same : number ≡ 64 = eqb-true number 64 n in
            left_too (eqb other 64) (eqb other 121) (item_64 other (subst (λ k. eqb (item_of k) (item_of other) ≡ true) same a))
        | inr n ↦
            let same : number ≡ 121 = eqb-true number 121 n in
            right_too (eqb other 64) (eqb other 121) (item_121 other (subst (λ k. eqb (item_of k) (item_of other) ≡ true) same a))
      ]
      | inr b ↦ right_too (eqb other 64) (eqb other 121) (and_parts (eqb other 121) (not (is_kept number)) b).0
    ]

covered : (channel toggles number : ℕ) (command : Command) → Speaks number → touches number (control_event channel command) ≡ true →
    speaks (over (event_says toggles (control_event channel command)) (ended (is_reset command))) ≡ true
covered channel toggles number (commands.Control at other later) h e =
    elim (cases_Bool (eqb at channel)) [
      | inl t ↦ elim (cases_Bool (is_entry other)) [
        | inl d ↦ absurd (let f : false ≡ true = (rw (t, d) at e) in cc)
        | inr n ↦ rw (t, n) (is_either toggles (eqb other 64) (eqb other 121) (other_speaks number other h (rw (t, n) at e)))
      ]
      | inr f ↦ absurd (let f : false ≡ true = (rw f at e) in cc)
    ]
covered channel toggles number commands.SystemReset h e = refl
covered channel toggles number (commands.Sysex octets) h e =
    elim (cases_Bool (is_reset_message octets)) [
      | inl t ↦ rw t refl
      | inr f ↦ absurd (let f : false ≡ true = (rw f at e) in cc)
    ]
covered channel toggles number command h e = absurd (let f : false ≡ true = e in cc)

ends_reset : (channel number : ℕ) (command : Command) → is_reset command ≡ true → touches number (control_event channel command) ≡ true
ends_reset channel number commands.SystemReset h = refl
ends_reset channel number (commands.Sysex octets) h = rw h refl
ends_reset channel number command h = absurd (let f : false ≡ true = h in cc)

spoken_end : (b : Bool) → speaks (ended {X = ℕ} b) ≡ true → b ≡ true
spoken_end true h = refl
spoken_end false h = cc

by_set : (P : Bool → Type 0) (toggles : ℕ) (event later : ControlEvent) → speaks (event_says toggles event) ≡ true → ((number : ℕ) → Speaks number → P (touches number later)) → P (event_ends event later)
by_set P toggles (Set number value) later h k = k number (by_either toggles (eqb number 64) (eqb number 121) h)
by_set P toggles Dropped later h k = absurd (let f : false ≡ true = h in cc)
by_set P toggles Other later h k = absurd (let f : false ≡ true = h in cc)

-- The coded places behind the resets say of the toggles what the commands from the checkpoint on do.
moves_heard : (channel toggles checkpoint packet : ℕ) (sent : List Sent) → InOrder packet_of sent →
    over (final (λ place. event_says toggles (event_at channel place)) (coded_controls channel checkpoint packet sent)) (ended (list_any resets (seen_since checkpoint packet sent)))
    ≡ final (place_moves channel toggles) (seen_since checkpoint packet sent)
moves_heard channel toggles checkpoint packet sent o =
    let seen = below packet_of packet sent in
    let says : Sent → Option (Option ℕ) = λ place. event_says toggles (event_at channel place) in
    let reset : Sent → Option (Option ℕ) = λ place. ended (resets place) in
    ap (over (final says (coded_controls channel checkpoint packet sent))) (sym (final-ended resets (seen_since checkpoint packet sent)))
    ∙ final-coded (control_ends channel) says reset
    (λ x y s e. by_set (λ (b : Bool). b ≡ true → speaks (over (says y) (reset y)) ≡ true) toggles (event_at channel x) (event_at channel y) s (λ number h t. covered channel toggles number y.command h t) e)
    (λ x y s r. by_set (λ (b : Bool). b ≡ true) toggles (event_at channel x) (event_at channel y) s (λ number h. ends_reset channel number y.command (spoken_end (resets y) r)))
    packet_of checkpoint seen (InOrder-filter packet_of _ sent o)
    ∙ final-same (λ place. over (says place) (reset place)) (place_moves channel toggles) (λ place. said_so channel toggles place.command) (seen_since checkpoint packet sent)

-- ## Repair

module _ (channel checkpoint next packet : ℕ) (sent : List Sent) (o : InOrder packet_of sent) (early : checkpoint ≤ next) (late : next ≤ packet) where
  abbrev seen : List Sent
  seen = below packet_of packet sent

  abbrev last : Option (Option ℕ)
  last = final (place_moves channel (pedal_after channel seen).toggles) (seen_since checkpoint packet sent)

  all_seen : (pedal : Pedal) → fold (pedal_along channel) pedal seen ≡ fold (pedal_along channel) (fold (pedal_along channel) pedal (below packet_of checkpoint seen)) (seen_since checkpoint packet sent)
  all_seen pedal =
      ap (fold (pedal_along channel) pedal) (in_two packet_of checkpoint seen (InOrder-filter packet_of _ sent o))
      ∙ fold-append (pedal_along channel) pedal (below packet_of checkpoint seen) (seen_since checkpoint packet sent)

  -- nothing came of the pedal
  left : last ≡ None → pedal_after channel (below packet_of next sent) ≡ pedal_after channel seen
  unfolding pedal_after
  left none =
      let toggles = (pedal_after channel seen).toggles in
      let step = pedal_along channel in
      let ys = seen_since checkpoint packet sent in
      let front = below packet_of checkpoint seen in
      let before = below packet_of next seen in
      let ordered : InOrder packet_of seen = InOrder-filter packet_of _ sent o in
      let between = below packet_of next ys in
      let two : ys ≡ between ++ since packet_of next ys = in_two packet_of next ys (InOrder-filter packet_of _ seen ordered) in
      let none_between : final (place_moves channel toggles) between ≡ None =
      (later_none (final (place_moves channel toggles) (since packet_of next ys)) (final (place_moves channel toggles) between)
      (sym (final-append (place_moves channel toggles) between (since packet_of next ys)) ∙ ap (final (place_moves channel toggles)) (sym two) ∙ none)).1 in
      let front_two : before ≡ below packet_of checkpoint before ++ since packet_of checkpoint before = in_two packet_of checkpoint before (InOrder-filter packet_of _ seen ordered) in
      let front_same : below packet_of checkpoint before ≡ front = below_next checkpoint next seen early in
      let between_same : since packet_of checkpoint before ≡ between = filter-swap (λ x. leb checkpoint (packet_of x)) (λ x. ltb (packet_of x) next) seen in
      let begins : fold step no_pedal before ≡ fold step no_pedal front =
      ap (fold step no_pedal) front_two ∙ fold-append step no_pedal (below packet_of checkpoint before) (since packet_of checkpoint before)
      ∙ rw (front_same, between_same) (still channel toggles (fold step no_pedal front) between none_between) in
      ap (fold step no_pedal) (sym (below_next next packet sent late)) ∙ begins ∙ sym (all_seen no_pedal ∙ still channel toggles (fold step no_pedal front) ys none)

  dropped : last ≡ Some None → (pedal_after channel seen).toggles ≡ 0
  unfolding pedal_after
  dropped none =
      ap (λ (p : Pedal). p.toggles)
      (all_seen no_pedal ∙ gone channel (pedal_after channel seen).toggles (fold (pedal_along channel) no_pedal (below packet_of checkpoint seen)) (seen_since checkpoint packet sent) none)

  ends_up : (said_last : Option (Option ℕ)) → last ≡ said_last → toggles_by said_last (pedal_after channel (below packet_of next sent)).toggles ≡ (pedal_after channel seen).toggles
  ends_up None e = ap (λ (p : Pedal). p.toggles) (left e)
  ends_up (Some None) e = sym (dropped e)
  ends_up (Some (Some n)) e = told channel (pedal_after channel seen).toggles n (seen_since checkpoint packet sent) e

chapter_moved : (channel checkpoint packet : ℕ) (sent : List Sent) (pedal : Pedal) →
    (fold (pedal_logged channel) pedal (c_said channel checkpoint packet sent)).toggles
    ≡ toggles_by (final (λ place. event_says (pedal_after channel (below packet_of packet sent)).toggles (event_at channel place)) (coded_controls channel checkpoint packet sent)) pedal.toggles
unfolding c_said
chapter_moved channel checkpoint packet sent pedal = places_moved channel (below packet_of packet sent) packet pedal (coded_controls channel checkpoint packet sent)

cleared_toggles : (channel : ℕ) (s : State) (logs : List Log) → channel < 16 → toggles_of (cleared logs s) channel ≡ toggles_by (ended (has_reset logs)) (toggles_of s channel)
cleared_toggles channel s logs l =
    let none : toggles_of no_state channel ≡ 0 = ap (λ c. c.toggles) (no_channel_at channel l) in
    elim (cases_Bool (has_reset logs)) [ inl t ↦ rw t none | inr f ↦ rw f refl ]

-- The toggles of each channel's pedal are repaired.
pub toggles_repaired : (channel : ℕ) → channel < 16 → Repairs (λ s. toggles_of s channel)
toggles_repaired channel l checkpoint next packet tick sent o early late =
    let seen = below packet_of packet sent in
    let before = below packet_of next sent in
    let logs = journal_logs checkpoint packet tick sent in
    let old = state_behind no_state before in
    let begins = pedal_of (cleared logs old) channel in
    let toggles = (pedal_after channel seen).toggles in
    let own = final (λ place. event_says toggles (event_at channel place)) (coded_controls channel checkpoint packet sent) in
    ap (λ (p : Pedal). p.toggles) (pedal_repaired channel old logs l (behind_is no_state before no_state_is))
    ∙ ap (λ (k : List Log). (fold (pedal_logged channel) begins k).toggles) (group_of_journal Controls channel checkpoint packet tick sent l)
    ∙ chapter_moved channel checkpoint packet sent begins
    ∙ ap (toggles_by own) (cleared_toggles channel old logs l)
    ∙ by-over own (ended (has_reset logs)) (toggles_of old channel)
    ∙ ap (λ b. toggles_by (over own (ended b)) (toggles_of old channel)) (reset_of_journal checkpoint packet tick sent o)
    ∙ ap (λ (a : Option (Option ℕ)). toggles_by a (toggles_of old channel)) (moves_heard channel toggles checkpoint packet sent o)
    ∙ ap (λ (p : Pedal). toggles_by (final (place_moves channel toggles) (seen_since checkpoint packet sent)) p.toggles) (pedal_counted channel before l)
    ∙ ends_up channel checkpoint next packet sent o early late (final (place_moves channel toggles) (seen_since checkpoint packet sent)) refl
    ∙ sym (ap (λ (p : Pedal). p.toggles) (pedal_counted channel seen l))
