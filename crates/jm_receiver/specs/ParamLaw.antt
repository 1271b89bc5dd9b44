-- The law of repair for the parameters of a channel in which at most 16 different ones were entered since the last Reset State
-- command.
use Rattle.std.proofs.Common.{◌≡◌, ℕ, ◌<◌, ◌≤◌, Bool, true, false, not, cond, ◌&&◌, ◌||◌, eqb, ltb, leb, List, [], ◌∷◌, ◌++◌, Option, Some, None, fold, map, length, refl, sym, ap, ◌∙◌, subst, inl, inr, arith, eq-eqb}
use Rattle.std.proofs.Math.Bool.{beq}
use Rattle.std.specs.List.{list_any, filter, filter_map, cons_option, AllByRecursion}
use Rattle.std.proofs.lemmas.Bool.{cases_Bool, eqb-true, ltb-true, lt-leb, leb-true, le-leb, or_parts}
use Rattle.std.proofs.lemmas.List.Sums.{fold-append}
use Rattle.jm_cmds.specs.declared.commands.Command.{Command}
use Rattle.jm_cmds.specs.declared.commands.Command.TheVariants as commands
use Rattle.jm_cmds.specs.declared.controls.ControlKind.{ControlKind}
use Rattle.jm_cmds.specs.declared.controls.ControlKind.TheVariants as numbers
use Rattle.jm_cmds.specs.declared.history.Sent.{Sent}
use Rattle.jm_cmds.specs.declared.param.Param.{Param}
use Rattle.jm_cmds.specs.declared.selection.ParamCommand.TheVariants.{Clear, Pass}
use Rattle.jm_cmds.specs.declared.selection.Selection.{Selection}
use Rattle.jm_cmds.specs.Control.{control_kind, is_reset}
use Rattle.jm_cmds.specs.History.{standing, below, since, coded, InOrder}
use Rattle.jm_cmds.specs.HistoryLaws.{filter-filter, InOrder-filter, InOrder-scanned, AllByRecursion-filter}
use Rattle.jm_cmds.specs.Param.{same_param}
use Rattle.jm_cmds.specs.ParamLaws.{same_param-equal}
use Rattle.jm_cmds.specs.Selection.{no_selection, control_command, param_command, selected_param}
use Rattle.jm_cmds.specs.Sent.{packet_of}
use Rattle.ch_param.specs.declared.events.ParamEvent.{ParamEvent}
use Rattle.ch_param.specs.declared.events.ParamEvent.TheVariants.{Entry as Entered, Cleared, Other}
use Rattle.ch_param.specs.Event.{Place, entry, param_event, selection_step, packet_at, event_at, takes_param, param_event_ends, param_ends}
use Rattle.ch_param.specs.ChapterM.{Entered as Coded, entered_at, entered_by, event_param, entered, coded_half, session_places}
use Rattle.ch_param.specs.HalfLaws.{half_step, place_step, coded_half-fold}
use Rattle.ch_sysex.specs.SysexEvent.{resets}
use Rattle.jm_state.specs.declared.channel.ChannelState.{ChannelState}
use Rattle.jm_state.specs.declared.entered.Entry.{Entry}
use Rattle.jm_state.specs.declared.entered.Halves.{Halves}
use Rattle.jm_state.specs.declared.state.State.{State}
use Rattle.jm_state.specs.Entered.{halves_in}
use Rattle.jm_state.specs.Parts.{no_state, entered_of, param_of}
use Rattle.jm_state.specs.Says.{said, ended}
use Rattle.jm_state.specs.Kept.{IsState, no_channel_at}
use Rattle.jm_state.specs.KeptLaws.{no_state_is}
use Rattle.jm_state.specs.Replay.{over, said-over, in_two}
use Rattle.jm_state.specs.ReplayLaws.{state_behind, behind_is}
use Rattle.jm_state.specs.Final.{final, speaks, over_none, speaks-final, final-map, final-same, final-ended, final-coded, repaired_by}
use Rattle.jm_reader.specs.declared.logs.Log.{Log}
use Rattle.jm_reader.specs.WrittenM.{m_said, entered_said}
use Rattle.jm_reader.specs.WrittenJournal.{journal_logs}
use Rattle.jm_receiver.specs.Repair.{has_reset, cleared, repaired}
use Rattle.jm_receiver.specs.Order.{log_says}
use Rattle.jm_receiver.specs.SystemLogs.{all_map}
use Rattle.jm_receiver.specs.Repairs.{below_next}
use Rattle.jm_receiver.specs.Resets.{reset_of_journal}
use Rattle.jm_receiver.specs.ProgramLaw.{any-since_placed, below-scanned}
use Rattle.jm_receiver.specs.ParamKeys.{is_known, Holds, holds_none, half_of}
use Rattle.jm_receiver.specs.ParamPlaces.{params_step, params_entered, is_clear, clears, IsOfKnown, Knows, knows_own, knows_front, grows, event_says, place_says, holds_behind, half_behind, clears_speak, anew, entered_session}
use Rattle.jm_receiver.specs.ParamLogs.{param, as_said, param_log_says, IsLogOfKnown, Fits, all_in_order, logs_said, entered_repaired, journal_fits, m_alone}

-- As `Repairs`, for a channel in which at most 16 different parameters were entered since the last Reset State command of the packets
-- before that of the journal. Where there were more, those pushed out aren't part of the state.
abbrev pub RepairsFew : {V : Type 0} → (channel : ℕ) → (State → V) → Type 0
RepairsFew channel part =
    (checkpoint next packet tick : ℕ) (sent : List Sent) → InOrder packet_of sent → length (params_entered channel (below packet_of packet sent)) ≤ 16 → checkpoint ≤ next → next ≤ packet →
    part (repaired (state_behind no_state (below packet_of next sent)) (journal_logs checkpoint packet tick sent)) ≡ part (state_behind no_state (below packet_of packet sent))

-- the places that a journal may code
abbrev pub recent : (channel checkpoint : ℕ) → List Sent → List Place
recent channel checkpoint seen = since packet_at checkpoint (session_places channel seen)

-- ## What is coded is known

not_clear : (param : Param) (event : ParamEvent) → takes_param param event ≡ false → is_clear event ≡ false
not_clear param (Entered other high value) h = refl
not_clear param Cleared h = h
not_clear param Other h = refl

none_clear : (channel : ℕ) (param : Param) (xs : List Place) → list_any (λ x. takes_param param (event_at channel x)) xs ≡ false → list_any (clears channel) xs ≡ false
none_clear channel param [] h = refl
none_clear channel param (x ∷ xs) h =
    let parts = or_parts (takes_param param (event_at channel x)) (list_any (λ y. takes_param param (event_at channel y)) xs) h in
    rw (not_clear param (event_at channel x) parts.0) (none_clear channel param xs parts.1)

stands_known : (channel : ℕ) (known : List Param) (event : ParamEvent) (xs : List Place) → (list_any (clears channel) xs ≡ false → IsOfKnown known event) →
    list_any (λ y. param_event_ends event (event_at channel y)) xs ≡ false → IsOfKnown known event
stands_known channel known (Entered param high value) xs k h = k (none_clear channel param xs h)
stands_known channel known Cleared xs k h = tt
stands_known channel known Other xs k h = tt

standing_known : (channel : ℕ) (known : List Param) (xs : List Place) → Knows channel known xs → AllByRecursion (λ x. IsOfKnown known (event_at channel x)) (standing (param_ends channel) xs)
standing_known channel known [] k = tt
standing_known channel known (x ∷ xs) k =
    elim (cases_Bool (list_any (param_ends channel x) xs)) [
      | inl t ↦ rw t (standing_known channel known xs k.1)
      | inr f ↦ rw f (stands_known channel known (event_at channel x) xs k.0 f, standing_known channel known xs k.1)
    ]

one_known : (known : List Param) (latest : Sent) (event : ParamEvent) (more : List Coded) → IsOfKnown known event → AllByRecursion (λ (e : Coded). is_known known e.param ≡ true) more →
    AllByRecursion (λ (e : Coded). is_known known e.param ≡ true) (cons_option (entered_by latest (event_param event)) more)
one_known known latest (Entered param high value) more k h = (k, h)
one_known known latest Cleared more k h = h
one_known known latest Other more k h = h

coded_known : (channel : ℕ) (known : List Param) (xs : List Place) → AllByRecursion (λ x. IsOfKnown known (event_at channel x)) xs → AllByRecursion (λ (e : Coded). is_known known e.param ≡ true) (filter_map (entered_at channel) xs)
coded_known channel known [] k = tt
coded_known channel known (x ∷ xs) k = one_known known x.1 (event_at channel x) (filter_map (entered_at channel) xs) k.0 (coded_known channel known xs k.1)

entered_known : (channel checkpoint : ℕ) (known : List Param) (xs : List Place) → Knows channel known xs → AllByRecursion (λ (e : Coded). is_known known e.param ≡ true) (entered channel checkpoint xs)
entered_known channel checkpoint known xs k =
    coded_known channel known (coded (param_ends channel) packet_at checkpoint xs)
    (AllByRecursion-filter (λ (x : Place). IsOfKnown known (event_at channel x)) (λ (x : Place). leb checkpoint (packet_at x)) (standing (param_ends channel) xs) (standing_known channel known xs k))

pub mapped : (P : Coded → Type 0) (Q : Log → Type 0) (log : Coded → Log) → ((e : Coded) → P e → Q (log e)) → (es : List Coded) → AllByRecursion P es → AllByRecursion Q (map log es)
mapped P Q log h [] a = tt
mapped P Q log h (e ∷ es) a = (h e a.0, mapped P Q log h es a.1)

-- the logs of Chapter M are of known parameters
pub m_fits : (channel : ℕ) (known : List Param) (checkpoint packet : ℕ) (sent : List Sent) → Knows channel known (session_places channel (below packet_of packet sent)) → (at : ℕ) → AllByRecursion (λ log. Fits channel known log.what) (m_said at checkpoint packet sent)
unfolding m_said
m_fits channel known checkpoint packet sent k at =
    elim (cases_Bool (eqb at channel)) [
      | inl t ↦
          let same : channel ≡ at = sym (eqb-true at channel t) in
          let places = session_places channel (below packet_of packet sent) in
          let own : AllByRecursion (λ log. Fits channel known log.what) (m_said channel checkpoint packet sent) =
          mapped (λ (e : Coded). is_known known e.param ≡ true) (λ (log : Log). Fits channel known log.what) (entered_said channel checkpoint packet places)
          (λ e h. record { no_entry = refl; is_known = λ s. h }) (entered channel checkpoint places) (entered_known channel checkpoint known places k) in
          subst (λ n. AllByRecursion (λ (log : Log). Fits channel known log.what) (m_said n checkpoint packet sent)) same own
      | inr f ↦
          let places = session_places at (below packet_of packet sent) in
          all_map (λ log. Fits channel known log.what) (entered_said at checkpoint packet places)
          (λ e. record { no_entry = refl; is_known = λ s. absurd (let b : true ≡ false = sym s ∙ f in cc) }) (entered at checkpoint places)
    ]

-- ## What is coded of a half

module _ (channel checkpoint : ℕ) (p : Param) (half : Bool) where
  abbrev says : Place → Option (Option ℕ)
  says = place_says channel p half

  early_none : (event : ParamEvent) → half_step p half None false event ≡ None
  early_none (Entered other high value) = elim (cases_Bool (same_param p other && beq half high)) [ inl t ↦ rw t refl | inr f ↦ rw f refl ]
  early_none Cleared = refl
  early_none Other = refl

  -- what is older than the checkpoint isn't coded
  front_none : (xs : List Place) → fold (place_step channel checkpoint p half) None (below packet_at checkpoint xs) ≡ None
  front_none [] = refl
  front_none (x ∷ xs) =
      elim (cases_Bool (ltb (packet_at x) checkpoint)) [
        | inl t ↦
            let under : packet_at x < checkpoint = ltb-true (packet_at x) checkpoint t in
            let here : place_step channel checkpoint p half None x ≡ None = rw (lt-leb checkpoint (packet_at x) under) (early_none (event_at channel x)) in
            rw t (ap (λ (o : Option ℕ). fold (place_step channel checkpoint p half) o (below packet_at checkpoint xs)) here ∙ front_none xs)
        | inr f ↦ rw f (front_none xs)
      ]

  late_says : (old : Option ℕ) (event : ParamEvent) → half_step p half old true event ≡ said (event_says p half event) old
  late_says old (Entered other high value) = elim (cases_Bool (same_param p other && beq half high)) [ inl t ↦ rw t refl | inr f ↦ rw f refl ]
  late_says old Cleared = refl
  late_says old Other = refl

  since_says : (old : Option ℕ) (xs : List Place) → fold (place_step channel checkpoint p half) old (since packet_at checkpoint xs) ≡ said (final says (since packet_at checkpoint xs)) old
  since_says old [] = refl
  since_says old (x ∷ xs) =
      elim (cases_Bool (leb checkpoint (packet_at x))) [
        | inl t ↦
            let later = since packet_at checkpoint xs in
            let here : place_step channel checkpoint p half old x ≡ said (says x) old = rw t (late_says old (event_at channel x)) in
            rw t
            (ap (λ (o : Option ℕ). fold (place_step channel checkpoint p half) o later) here
            ∙ since_says (said (says x) old) xs
            ∙ said-over (final says later) (says x) old)
        | inr f ↦ rw f (since_says old xs)
      ]

  pub coded_said : (xs : List Place) → InOrder packet_at xs → coded_half channel checkpoint xs p half ≡ said (final says (since packet_at checkpoint xs)) None
  coded_said xs o =
      let step = place_step channel checkpoint p half in
      sym (coded_half-fold channel checkpoint p half xs)
      ∙ ap (fold step None) (in_two packet_at checkpoint xs o)
      ∙ fold-append step None (below packet_at checkpoint xs) (since packet_at checkpoint xs)
      ∙ ap (λ (h : Option ℕ). fold step h (since packet_at checkpoint xs)) (front_none xs)
      ∙ since_says None xs

  -- ## Its parameter is coded too

  -- whether a place enters the parameter
  abbrev enters_by : ParamEvent → Option (Option ℕ)
  enters_by (Entered other high value) = cond (same_param p other) (Some (Some 0)) None
  enters_by Cleared = None
  enters_by Other = None

  abbrev enters : Place → Option (Option ℕ)
  enters x = enters_by (event_at channel x)

  abbrev clears_by : ParamEvent → Option (Option ℕ)
  clears_by event = ended (is_clear event)

  abbrev touches : Place → Option (Option ℕ)
  touches x = over (enters x) (clears_by (event_at channel x))

  abbrev is_value : Option (Option ℕ) → Bool
  is_value None = false
  is_value (Some None) = false
  is_value (Some (Some value)) = true

  abbrev is_end : Option (Option ℕ) → Bool
  is_end None = false
  is_end (Some None) = true
  is_end (Some (Some value)) = false

  -- where nothing is said of the half, the parameter isn't cleared; where it has a value, the parameter is entered
  abbrev follows : (half param : Option (Option ℕ)) → Bool
  follows None b = not (is_end b)
  follows (Some None) b = true
  follows (Some (Some value)) b = is_value b

  follows_by : (event : ParamEvent) → follows (event_says p half event) (over (enters_by event) (clears_by event)) ≡ true
  follows_by (Entered other high value) =
      elim (cases_Bool (same_param p other)) [
        | inl t ↦ rw t (elim (cases_Bool (beq half high)) [ inl b ↦ rw b refl | inr n ↦ rw n refl ])
        | inr f ↦ rw f refl
      ]
  follows_by Cleared = refl
  follows_by Other = refl

  follows_over : (a b c d : Option (Option ℕ)) → follows a b ≡ true → follows c d ≡ true → follows (over a c) (over b d) ≡ true
  follows_over None None c d f g = g
  follows_over None (Some None) c d f g = absurd (let b : false ≡ true = f in cc)
  follows_over None (Some (Some n)) None d f g = refl
  follows_over None (Some (Some n)) (Some None) d f g = refl
  follows_over None (Some (Some n)) (Some (Some v)) d f g = refl
  follows_over (Some None) b c d f g = refl
  follows_over (Some (Some v)) None c d f g = absurd (let b : false ≡ true = f in cc)
  follows_over (Some (Some v)) (Some None) c d f g = absurd (let b : false ≡ true = f in cc)
  follows_over (Some (Some v)) (Some (Some n)) c d f g = refl

  follows_all : (xs : List Place) → follows (final says xs) (final touches xs) ≡ true
  follows_all [] = refl
  follows_all (x ∷ xs) = follows_over (final says xs) (final touches xs) (says x) (touches x) (follows_all xs) (follows_by (event_at channel x))

  spoken : (event : ParamEvent) → speaks (enters_by event) ≡ true → (later : ParamEvent) → speaks (clears_by later) ≡ true → param_event_ends event later ≡ true
  spoken (Entered other high value) s (Entered third high_too value_too) c = absurd (let b : false ≡ true = c in cc)
  spoken (Entered other high value) s Cleared c = refl
  spoken (Entered other high value) s Other c = absurd (let b : false ≡ true = c in cc)
  spoken Cleared s later c = absurd (let b : false ≡ true = s in cc)
  spoken Other s later c = absurd (let b : false ≡ true = s in cc)

  speaks_same : (b : Bool) → speaks (cond {A = Option (Option ℕ)} b (Some (Some 0)) None) ≡ b
  speaks_same true = refl
  speaks_same false = refl

  covered : (event later : ParamEvent) → speaks (enters_by event) ≡ true → param_event_ends event later ≡ true → speaks (over (enters_by later) (clears_by later)) ≡ true
  covered (Entered other high value) (Entered third high_too value_too) s e =
      let same : p ≡ other = same_param-equal p other (sym (speaks_same (same_param p other)) ∙ s) in
      rw same (rw e refl)
  covered (Entered other high value) Cleared s e = refl
  covered (Entered other high value) Other s e = absurd (let b : false ≡ true = e in cc)
  covered Cleared later s e = absurd (let b : false ≡ true = s in cc)
  covered Other later s e = absurd (let b : false ≡ true = s in cc)

  one_entered : (latest : Sent) (event : ParamEvent) (more : List Coded) (b : Bool) → list_any (λ (e : Coded). same_param p e.param) more ≡ b →
      list_any (λ (e : Coded). same_param p e.param) (cons_option (entered_by latest (event_param event)) more) ≡ (speaks (enters_by event) || b)
  one_entered latest (Entered other high value) more b h = rw (speaks_same (same_param p other), h) refl
  one_entered latest Cleared more b h = h
  one_entered latest Other more b h = h

  any_entered : (xs : List Place) → list_any (λ (e : Coded). same_param p e.param) (filter_map (entered_at channel) xs) ≡ list_any (λ x. speaks (enters x)) xs
  any_entered [] = refl
  any_entered (x ∷ xs) = one_entered x.1 (event_at channel x) (filter_map (entered_at channel) xs) (list_any (λ y. speaks (enters y)) xs) (any_entered xs)

  value_first : (a : Option (Option ℕ)) (r : Bool) → is_value (over a (ended r)) ≡ true → speaks a ≡ true
  value_first None true h = absurd (let b : false ≡ true = h in cc)
  value_first None false h = absurd (let b : false ≡ true = h in cc)
  value_first (Some a) r h = refl

  set_too : (a b : Option (Option ℕ)) (value : ℕ) → follows a b ≡ true → said a None ≡ Some value → is_value b ≡ true
  set_too None b value f h = absurd (let e : None ≡ Some value = h in cc)
  set_too (Some None) b value f h = absurd (let e : None ≡ Some value = h in cc)
  set_too (Some (Some n)) b value f h = f

  -- where a half is coded, its parameter is among those that have a log
  pub param_coded : (xs : List Place) (value : ℕ) → InOrder packet_at xs → coded_half channel checkpoint xs p half ≡ Some value → list_any (λ (e : Coded). same_param p e.param) (entered channel checkpoint xs) ≡ true
  param_coded xs value o h =
      let ys = since packet_at checkpoint xs in
      let places = coded (param_ends channel) packet_at checkpoint xs in
      let valued : said (final says ys) None ≡ Some value = sym (coded_said xs o) ∙ h in
      let set : is_value (final touches ys) ≡ true = set_too (final says ys) (final touches ys) value (follows_all ys) valued in
      let stages : over (final enters places) (final (λ x. clears_by (event_at channel x)) ys) ≡ final touches ys =
      final-coded (param_ends channel) enters (λ x. clears_by (event_at channel x))
      (λ x y s e. covered (event_at channel x) (event_at channel y) s e)
      (λ x y s c. spoken (event_at channel x) s (event_at channel y) c)
      packet_at checkpoint xs o in
      let resets_said : final (λ x. clears_by (event_at channel x)) ys ≡ ended (list_any (clears channel) ys) = final-ended (clears channel) ys in
      let both : is_value (over (final enters places) (ended (list_any (clears channel) ys))) ≡ true = ap (λ (c : Option (Option ℕ)). is_value (over (final enters places) c)) (sym resets_said) ∙ ap is_value stages ∙ set in
      any_entered places
      ∙ sym (speaks-final enters places)
      ∙ value_first (final enters places) (list_any (clears channel) ys) both

  -- ## What the chapter says

  pub chosen : (w : Option (Option ℕ)) (es : List Coded) → final (λ (e : Coded). cond (same_param p e.param) w None) es ≡ cond (list_any (λ (e : Coded). same_param p e.param) es) w None
  chosen w [] = refl
  chosen w (e ∷ es) =
      let ih = chosen w es in
      elim (cases_Bool (same_param p e.param)) [
        | inl t ↦ rw (t, ih) (elim (cases_Bool (list_any (λ (k : Coded). same_param p k.param) es)) [ inl a ↦ rw a (twice w) | inr b ↦ rw b refl ])
        | inr f ↦ rw (f, ih) (over_none (cond (list_any (λ (k : Coded). same_param p k.param) es) w None))
      ]
    where
      twice : (w : Option (Option ℕ)) → over w w ≡ w
      twice None = refl
      twice (Some w) = refl

  pub half_coded : (xs : List Place) (e : Coded) (b : Bool) → cond (eqb channel channel && same_param p e.param) (as_said (cond b (coded_half channel checkpoint xs e.param true) (coded_half channel checkpoint xs e.param false))) None
      ≡ cond (same_param p e.param) (as_said (coded_half channel checkpoint xs p b)) None
  half_coded xs e b =
      rw (eq-eqb channel channel refl)
      (elim (cases_Bool (same_param p e.param)) [
        | inl t ↦ rw t (by_half b ∙ ap (λ (k : Param). as_said (coded_half channel checkpoint xs k b)) (sym (same_param-equal p e.param t)))
        | inr f ↦ rw f refl
      ])
    where
      by_half : (b : Bool) → as_said (cond b (coded_half channel checkpoint xs e.param true) (coded_half channel checkpoint xs e.param false)) ≡ as_said (coded_half channel checkpoint xs e.param b)
      by_half true = refl
      by_half false = refl

  only_coded : (b : Bool) (o : Option ℕ) → ((value : ℕ) → o ≡ Some value → b ≡ true) → cond b (as_said o) None ≡ as_said o
  only_coded true o h = refl
  only_coded false None h = refl
  only_coded false (Some value) h = absurd (let t : false ≡ true = h value refl in cc)

  -- The logs of a parameter say of a half what is coded of it.
  m_heard : (packet : ℕ) (sent : List Sent) → InOrder packet_of sent → final (log_says (param_log_says channel p half)) (m_said channel checkpoint packet sent) ≡ as_said (coded_half channel checkpoint (session_places channel (below packet_of packet sent)) p half)
  unfolding m_said
  m_heard packet sent o =
      let places = session_places channel (below packet_of packet sent) in
      let ordered : InOrder packet_at places = InOrder-scanned packet_of (selection_step channel) no_selection (below packet_of packet sent) (InOrder-filter packet_of _ sent o) in
      let w = as_said (coded_half channel checkpoint places p half) in
      final-map (log_says (param_log_says channel p half)) (entered_said channel checkpoint packet places) (entered channel checkpoint places)
      ∙ final-same (λ e. log_says (param_log_says channel p half) (entered_said channel checkpoint packet places e)) (λ (e : Coded). cond (same_param p e.param) w None)
      (λ e. half_coded places e half) (entered channel checkpoint places)
      ∙ chosen w (entered channel checkpoint places)
      ∙ only_coded (list_any (λ (e : Coded). same_param p e.param) (entered channel checkpoint places)) (coded_half channel checkpoint places p half) (λ value h. param_coded places value ordered h)

  -- ## The journal

  settled : (w : Option (Option ℕ)) (r : Bool) → (r ≡ true → speaks w ≡ true) → (w ≡ Some None → r ≡ true) → over (as_said (said w None)) (ended r) ≡ w
  settled None true h k = absurd (let b : false ≡ true = h refl in cc)
  settled None false h k = refl
  settled (Some None) r h k = rw (k refl) refl
  settled (Some (Some value)) r h k = refl

  dropped_by : (event : ParamEvent) → event_says p half event ≡ Some None → is_clear event ≡ true
  dropped_by (Entered other high value) h = absurd (not_set (same_param p other && beq half high) h)
    where
      not_set : (b : Bool) → cond b (Some (Some value)) None ≡ Some None → ⊥
      not_set true e = (let x : ◌≡◌ {A = Option (Option ℕ)} (Some (Some value)) (Some None) = e in cc)
      not_set false e = (let x : ◌≡◌ {A = Option (Option ℕ)} None (Some None) = e in cc)
  dropped_by Cleared h = refl
  dropped_by Other h = absurd (let x : ◌≡◌ {A = Option (Option ℕ)} None (Some None) = h in cc)

  dropped_over : (a b : Option (Option ℕ)) (r : Bool) → over a b ≡ Some None → (a ≡ Some None → r ≡ true) → (c : Bool) → (b ≡ Some None → c ≡ true) → (c || r) ≡ true
  dropped_over None b r h k c g = rw (g h) refl
  dropped_over (Some a) b r h k c g = rw (k h) (last c)
    where
      last : (c : Bool) → (c || true) ≡ true
      last true = refl
      last false = refl

  pub dropped_clears : (xs : List Place) → final says xs ≡ Some None → list_any (clears channel) xs ≡ true
  dropped_clears [] h = absurd (let x : ◌≡◌ {A = Option (Option ℕ)} None (Some None) = h in cc)
  dropped_clears (x ∷ xs) h =
      dropped_over (final says xs) (says x) (list_any (clears channel) xs) h (dropped_clears xs) (clears channel x) (dropped_by (event_at channel x))

-- a place clears where its command is a Reset State command
entry_no_clear : (high : Bool) (value : ℕ) (o : Option Param) → is_clear (entry high value o) ≡ false
entry_no_clear high value None = refl
entry_no_clear high value (Some p) = refl

kind_no_clear : (s : Selection) (kind : ControlKind) (value : ℕ) → is_clear (param_event s (control_command kind value)) ≡ false
kind_no_clear s (numbers.DataEntry high) value = entry_no_clear high value (selected_param s)
kind_no_clear s (numbers.Selection nrpn high) value = refl
kind_no_clear s (numbers.Increment n) value = refl
kind_no_clear s (numbers.Silence n) value = refl
kind_no_clear s numbers.ResetControllers value = refl
kind_no_clear s (numbers.Mode n) value = refl
kind_no_clear s (numbers.Kept n) value = refl
kind_no_clear s numbers.Pedal value = refl
kind_no_clear s (numbers.Plain n) value = refl

pub clear_command : (channel : ℕ) (s : Selection) (command : Command) → is_clear (param_event s (param_command channel command)) ≡ is_reset command
clear_command channel s (commands.Control at number value) =
    elim (cases_Bool (eqb at channel)) [
      | inl t ↦ rw t (kind_no_clear s (control_kind number) value)
      | inr f ↦ rw f refl
    ]
clear_command channel s command = by_reset (is_reset command)
  where
    by_reset : (b : Bool) → is_clear (param_event s (cond b Clear Pass)) ≡ b
    by_reset true = refl
    by_reset false = refl

any_same : {X : Type 0} (a b : X → Bool) → ((x : X) → a x ≡ b x) → (xs : List X) → list_any a xs ≡ list_any b xs
any_same a b h [] = refl
any_same a b h (x ∷ xs) = rw (h x, any_same a b h xs) refl

any_left : {X : Type 0} (test q : X → Bool) (xs : List X) → list_any test xs ≡ false → list_any test (filter q xs) ≡ false
any_left test q [] h = refl
any_left test q (x ∷ xs) h =
    let parts = or_parts (test x) (list_any test xs) h in
    elim (cases_Bool (q x)) [
      | inl t ↦ rw (t, parts.0) (any_left test q xs parts.1)
      | inr f ↦ rw f (any_left test q xs parts.1)
    ]

-- the journal has a reset where one of the places clears
pub reset_clears : (channel checkpoint packet tick : ℕ) (sent : List Sent) → InOrder packet_of sent → has_reset (journal_logs checkpoint packet tick sent) ≡ list_any (clears channel) (recent channel checkpoint (below packet_of packet sent))
reset_clears channel checkpoint packet tick sent o =
    let seen = below packet_of packet sent in
    reset_of_journal checkpoint packet tick sent o
    ∙ sym (any-since_placed (selection_step channel) packet_of checkpoint resets no_selection seen)
    ∙ any_same (λ (x : Place). resets x.1) (clears channel) (λ x. sym (clear_command channel x.0 x.1.command)) (recent channel checkpoint seen)

-- What the logs of a journal say of a half, in the order of repair behind the resets, is what the places from the checkpoint on say.
param_heard : (channel : ℕ) (l : channel < 16) (p : Param) (half : Bool) (checkpoint packet tick : ℕ) (sent : List Sent) → InOrder packet_of sent →
    over (final (log_says (param_log_says channel p half)) (all_in_order (journal_logs checkpoint packet tick sent))) (ended (has_reset (journal_logs checkpoint packet tick sent)))
    ≡ final (place_says channel p half) (recent channel checkpoint (below packet_of packet sent))
param_heard channel l p half checkpoint packet tick sent o =
    let seen = below packet_of packet sent in
    let places = session_places channel seen in
    let ys = recent channel checkpoint seen in
    let ordered : InOrder packet_at places = InOrder-scanned packet_of (selection_step channel) no_selection seen (InOrder-filter packet_of _ sent o) in
    ap (λ (r : Bool). over (final (log_says (param_log_says channel p half)) (all_in_order (journal_logs checkpoint packet tick sent))) (ended r)) (reset_clears channel checkpoint packet tick sent o)
    ∙ ap (λ (a : Option (Option ℕ)). over a (ended (list_any (clears channel) ys)))
    (m_alone channel l p half checkpoint packet tick sent
    ∙ m_heard channel checkpoint p half packet sent o
    ∙ ap as_said (coded_said channel checkpoint p half places ordered))
    ∙ settled channel checkpoint p half (final (place_says channel p half) ys) (list_any (clears channel) ys)
    (λ r. clears_speak channel p half ys r)
    (λ e. dropped_clears channel checkpoint p half ys e)

-- ## The law

half_none : (b : Bool) (p : Param) → half_of b (halves_in [] p) ≡ None
half_none true p = refl
half_none false p = refl

abbrev pub read_half : (channel : ℕ) → Param → Bool → State → Option ℕ
read_half channel p half s = half_of half (halves_in (entered_of s channel) p)

-- the places before a packet, among those before a later one
pub places_before : (channel next packet : ℕ) (sent : List Sent) → InOrder packet_of sent → next ≤ packet → session_places channel (below packet_of next sent) ≡ below packet_at next (session_places channel (below packet_of packet sent))
places_before channel next packet sent o late =
    let seen = below packet_of packet sent in
    ap (session_places channel) (sym (below_next next packet sent late)) ∙ sym (below-scanned (selection_step channel) packet_of next no_selection seen (InOrder-filter packet_of _ sent o))

known_logs : (channel : ℕ) (known : List Param) (logs : List Log) → AllByRecursion (λ (log : Log). Fits channel known log.what) logs → AllByRecursion (λ (log : Log). IsLogOfKnown channel known log.what) logs
known_logs channel known [] a = tt
known_logs channel known (log ∷ logs) a = ((a.0).is_known, known_logs channel known logs a.1)

-- Repair by logs of known parameters, of a state whose parameters are known unless a reset clears them, leaves of a half what the last log
-- that speaks of it says, behind the resets.
pub half_told : (channel : ℕ) → channel < 16 → (known : List Param) → length known ≤ 16 → (p : Param) (half : Bool) (s : State) (logs : List Log) → IsState s → AllByRecursion (λ (log : Log). Fits channel known log.what) (all_in_order logs) →
    (has_reset logs ≡ false → Holds known (entered_of s channel)) →
    read_half channel p half (repaired s logs) ≡ said (over (final (log_says (param_log_says channel p half)) (all_in_order logs)) (ended (has_reset logs))) (read_half channel p half s)
half_told channel l known few p half s logs is fits holds =
    let told = final (log_says (param_log_says channel p half)) (all_in_order logs) in
    let absent : entered_of no_state channel ≡ [] = ap (λ (c : ChannelState). c.entered) (no_channel_at channel l) in
    let begins : Holds known (entered_of (cleared logs s) channel) =
    elim (cases_Bool (has_reset logs)) [
      | inl t ↦ rw t (subst (Holds known) (sym absent) (holds_none known))
      | inr f ↦ rw f (holds f)
    ] in
    let start : read_half channel p half (cleared logs s) ≡ said (ended (has_reset logs)) (read_half channel p half s) =
    elim (cases_Bool (has_reset logs)) [
      | inl t ↦ rw t (ap (λ (es : List Entry). half_of half (halves_in es p)) absent ∙ half_none half p)
      | inr f ↦ rw f refl
    ] in
    ap (λ (es : List Entry). half_of half (halves_in es p)) (entered_repaired channel l known s logs is fits)
    ∙ logs_said channel known few p half (entered_of (cleared logs s) channel) (all_in_order logs) begins (known_logs channel known (all_in_order logs) fits)
    ∙ ap (said told) start
    ∙ said-over told (ended (has_reset logs)) (read_half channel p half s)

-- Where a state has of a half what the places before packet `next` say, unless a later place clears it, the places from one that isn't later
-- than `next` on make of it what the state behind all of them has.
pub half_session : (channel : ℕ) → channel < 16 → (p : Param) (half : Bool) (from next packet : ℕ) (sent : List Sent) (s : State) → InOrder packet_of sent → from ≤ next → next ≤ packet →
    length (params_entered channel (below packet_of packet sent)) ≤ 16 →
    (list_any (clears channel) (recent channel from (below packet_of packet sent)) ≡ false → read_half channel p half s ≡ said (final (place_says channel p half) (session_places channel (below packet_of next sent))) None) →
    said (final (place_says channel p half) (recent channel from (below packet_of packet sent))) (read_half channel p half s) ≡ read_half channel p half (state_behind no_state (below packet_of packet sent))
half_session channel l p half from next packet sent s o early late few had =
    let seen = below packet_of packet sent in
    let known = params_entered channel seen in
    let places = session_places channel seen in
    let ys = recent channel from seen in
    let says = place_says channel p half in
    let ordered : InOrder packet_at places = InOrder-scanned packet_of (selection_step channel) no_selection seen (InOrder-filter packet_of _ sent o) in
    let whole : read_half channel p half (state_behind no_state seen) ≡ said (final says places) None =
    ap (λ (es : List Entry). half_of half (halves_in es p)) (entered_session channel seen l)
    ∙ half_behind channel known few p half [] places (λ n. holds_none known) (knows_own channel [] places)
    ∙ ap (said (final says places)) (half_none half p) in
    elim (cases_Bool (list_any (clears channel) ys)) [
      | inl t ↦ anew (final says ys) (read_half channel p half s) (said (final says (below packet_at next places)) None) (clears_speak channel p half ys t)
      | inr f ↦ ap (said (final says ys)) (had f ∙ ap (λ (xs : List Place). said (final says xs) None) (places_before channel next packet sent o late))
    ]
    ∙ repaired_by says packet_at from next None places (final says ys) ordered early refl
    ∙ sym whole

-- Repair of a state whose parameters are known, unless a reset clears them, and that has of a half what the places before packet `next`
-- say of it.
pub half_from : (channel : ℕ) → channel < 16 → (p : Param) (half : Bool) (checkpoint next packet tick : ℕ) (sent : List Sent) (s : State) → InOrder packet_of sent → checkpoint ≤ next → next ≤ packet → IsState s →
    length (params_entered channel (below packet_of packet sent)) ≤ 16 →
    (list_any (clears channel) (recent channel checkpoint (below packet_of packet sent)) ≡ false → Holds (params_entered channel (below packet_of packet sent)) (entered_of s channel)) →
    (list_any (clears channel) (recent channel checkpoint (below packet_of packet sent)) ≡ false → read_half channel p half s ≡ said (final (place_says channel p half) (session_places channel (below packet_of next sent))) None) →
    read_half channel p half (repaired s (journal_logs checkpoint packet tick sent)) ≡ read_half channel p half (state_behind no_state (below packet_of packet sent))
half_from channel l p half checkpoint next packet tick sent s o early late is few holds had =
    let known = params_entered channel (below packet_of packet sent) in
    let knows : Knows channel known (session_places channel (below packet_of packet sent)) = knows_own channel [] (session_places channel (below packet_of packet sent)) in
    half_told channel l known few p half s (journal_logs checkpoint packet tick sent) is
    (journal_fits channel known checkpoint packet tick sent (m_fits channel known checkpoint packet sent knows))
    (λ f. holds (sym (reset_clears channel checkpoint packet tick sent o) ∙ f))
    ∙ ap (λ (w : Option (Option ℕ)). said w (read_half channel p half s)) (param_heard channel l p half checkpoint packet tick sent o)
    ∙ half_session channel l p half checkpoint next packet sent s o early late few had

-- The places before packet `next`, and those from it on, which clear nothing.
record AreParted (channel next packet : ℕ) (sent : List Sent) : Type 0 where
  cut : session_places channel (below packet_of next sent) ≡ below packet_at next (session_places channel (below packet_of packet sent))
  two : session_places channel (below packet_of packet sent) ≡ session_places channel (below packet_of next sent) ++ since packet_at next (session_places channel (below packet_of packet sent))
  none : list_any (clears channel) (since packet_at next (session_places channel (below packet_of packet sent))) ≡ false

parted : (channel checkpoint next packet : ℕ) (sent : List Sent) → InOrder packet_of sent → checkpoint ≤ next → next ≤ packet →
    list_any (clears channel) (recent channel checkpoint (below packet_of packet sent)) ≡ false → AreParted channel next packet sent
parted channel checkpoint next packet sent o early late f =
    let seen = below packet_of packet sent in
    let places = session_places channel seen in
    let ordered : InOrder packet_at places = InOrder-scanned packet_of (selection_step channel) no_selection seen (InOrder-filter packet_of _ sent o) in
    let front = places_before channel next packet sent o late in
    let later : since packet_at next (since packet_at checkpoint places) ≡ since packet_at next places =
    filter-filter (λ (x : Place). leb checkpoint (packet_at x)) (λ (x : Place). leb next (packet_at x)) (λ x h. let u : next ≤ packet_at x = leb-true next (packet_at x) h in le-leb checkpoint (packet_at x) (omega (arith, u, early))) places in
    record {
      cut = front;
      two = in_two packet_at next places ordered ∙ ap (λ (xs : List Place). xs ++ since packet_at next places) (sym front);
      none = ap (list_any (clears channel)) (sym later) ∙ any_left (clears channel) (λ (x : Place). leb next (packet_at x)) (since packet_at checkpoint places) f;
    }

-- the parameters before a packet, where no later place clears, are known
pub known_before : (channel checkpoint next packet : ℕ) (sent : List Sent) → InOrder packet_of sent → checkpoint ≤ next → next ≤ packet →
    list_any (clears channel) (recent channel checkpoint (below packet_of packet sent)) ≡ false → Knows channel (params_entered channel (below packet_of packet sent)) (session_places channel (below packet_of next sent))
known_before channel checkpoint next packet sent o early late f =
    let places = session_places channel (below packet_of packet sent) in
    let parts = parted channel checkpoint next packet sent o early late f in
    knows_front channel (params_entered channel (below packet_of packet sent)) (session_places channel (below packet_of next sent)) (since packet_at next places) parts.none
    (subst (Knows channel (params_entered channel (below packet_of packet sent))) parts.two (knows_own channel [] places))

-- and they are no more
pub params_before : (channel checkpoint next packet : ℕ) (sent : List Sent) → InOrder packet_of sent → checkpoint ≤ next → next ≤ packet →
    list_any (clears channel) (recent channel checkpoint (below packet_of packet sent)) ≡ false → length (params_entered channel (below packet_of next sent)) ≤ length (params_entered channel (below packet_of packet sent))
params_before channel checkpoint next packet sent o early late f =
    let places = session_places channel (below packet_of packet sent) in
    let before = session_places channel (below packet_of next sent) in
    let parts = parted channel checkpoint next packet sent o early late f in
    let all : params_entered channel (below packet_of packet sent) ≡ fold (params_step channel) (params_entered channel (below packet_of next sent)) (since packet_at next places) =
    ap (fold (params_step channel) []) parts.two ∙ fold-append (params_step channel) [] before (since packet_at next places) in
    rw all (grows channel (params_entered channel (below packet_of next sent)) (since packet_at next places) parts.none)

-- What the state behind the packets before `next` has of a half.
pub half_before : (channel : ℕ) → channel < 16 → (p : Param) (half : Bool) (checkpoint next packet : ℕ) (sent : List Sent) → InOrder packet_of sent → checkpoint ≤ next → next ≤ packet →
    length (params_entered channel (below packet_of packet sent)) ≤ 16 → list_any (clears channel) (recent channel checkpoint (below packet_of packet sent)) ≡ false →
    read_half channel p half (state_behind no_state (below packet_of next sent)) ≡ said (final (place_says channel p half) (session_places channel (below packet_of next sent))) None
half_before channel l p half checkpoint next packet sent o early late few f =
    let known = params_entered channel (below packet_of packet sent) in
    let before = session_places channel (below packet_of next sent) in
    ap (λ (es : List Entry). half_of half (halves_in es p)) (entered_session channel (below packet_of next sent) l)
    ∙ half_behind channel known few p half [] before (λ n. holds_none known) (known_before channel checkpoint next packet sent o early late f)
    ∙ ap (said (final (place_says channel p half) before)) (half_none half p)

pub holds_before : (channel : ℕ) → channel < 16 → (checkpoint next packet : ℕ) (sent : List Sent) → InOrder packet_of sent → checkpoint ≤ next → next ≤ packet →
    length (params_entered channel (below packet_of packet sent)) ≤ 16 → list_any (clears channel) (recent channel checkpoint (below packet_of packet sent)) ≡ false →
    Holds (params_entered channel (below packet_of packet sent)) (entered_of (state_behind no_state (below packet_of next sent)) channel)
holds_before channel l checkpoint next packet sent o early late few f =
    let known = params_entered channel (below packet_of packet sent) in
    let before = session_places channel (below packet_of next sent) in
    subst (Holds known) (sym (entered_session channel (below packet_of next sent) l)) (holds_behind channel known few [] before (λ n. holds_none known) (known_before channel checkpoint next packet sent o early late f))

half_repaired : (channel : ℕ) → channel < 16 → (p : Param) (half : Bool) → RepairsFew channel (read_half channel p half)
half_repaired channel l p half checkpoint next packet tick sent o few early late =
    half_from channel l p half checkpoint next packet tick sent (state_behind no_state (below packet_of next sent)) o early late (behind_is no_state (below packet_of next sent) no_state_is) few
    (λ f. holds_before channel l checkpoint next packet sent o early late few f)
    (λ f. half_before channel l p half checkpoint next packet sent o early late few f)

both_halves : Option ℕ → Option ℕ → Halves
both_halves high low = record { entry_high = high; entry_low = low }

halves_of : (a b c d : Option ℕ) → a ≡ b → c ≡ d → both_halves a c ≡ both_halves b d
halves_of a b c d e f = cc

-- halves with the same two are the same
pub same_halves : (a b : Halves) → half_of true a ≡ half_of true b → half_of false a ≡ half_of false b → a ≡ b
unfolding both_halves
same_halves a b high low = halves_of a.entry_high b.entry_high a.entry_low b.entry_low high low

-- The parameters of each channel are repaired, both halves of each.
pub param_repaired : (channel : ℕ) (nrpn : Bool) (high low : ℕ) → channel < 16 → RepairsFew channel (λ s. param_of s channel nrpn high low)
param_repaired channel nrpn high low l checkpoint next packet tick sent o few early late =
    let p = param nrpn high low in
    let after = repaired (state_behind no_state (below packet_of next sent)) (journal_logs checkpoint packet tick sent) in
    let meant = state_behind no_state (below packet_of packet sent) in
    same_halves (halves_in (entered_of after channel) p) (halves_in (entered_of meant channel) p)
    (half_repaired channel l p true checkpoint next packet tick sent o few early late)
    (half_repaired channel l p false checkpoint next packet tick sent o few early late)
