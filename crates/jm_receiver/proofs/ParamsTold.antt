-- A listener that hears what repair hands on has the parameters of the repaired state.
use Rattle.std.proofs.Common.{◌≡◌, ℕ, ◌+◌, ◌<◌, ◌≤◌, Bool, true, false, not, ◌||◌, List, [], ◌∷◌, ◌++◌, length, fold, refl, sym, ap, subst, ◌∙◌, inl, inr, arith}
use Rattle.std.specs.List.{flat_map, AllByRecursion}
use Rattle.std.proofs.lemmas.Bool.{cases_Bool, and_parts, or_parts}
use Rattle.std.proofs.lemmas.Bool.{not-true}
use Rattle.std.proofs.lemmas.List.Sums.{fold-append}
use Rattle.jm_cmds.specs.declared.commands.Command.{Command}
use Rattle.jm_cmds.specs.declared.commands.Command.TheVariants as commands
use Rattle.jm_cmds.specs.declared.history.Sent.{Sent}
use Rattle.jm_cmds.specs.declared.param.Param.{Param}
use Rattle.jm_cmds.specs.Control.{is_reset_message}
use Rattle.jm_cmds.specs.History.{below, InOrder}
use Rattle.jm_cmds.specs.Sent.{packet_of}
use Rattle.ch_param.specs.ChapterM.{session_places}
use Rattle.jm_state.specs.declared.entered.Entry.{Entry}
use Rattle.jm_state.specs.declared.state.State.{State}
use Rattle.jm_state.specs.Apply.{applied}
use Rattle.jm_state.specs.Entered.{no_halves, halves_in}
use Rattle.jm_state.specs.Kept.{no_channel_at}
use Rattle.jm_state.specs.PartLaws.{by_part}
use Rattle.jm_state.specs.Parts.{no_state, entered_of, param_of, selection_of}
use Rattle.jm_state.specs.Sameness.{same_states, states_parts}
use Rattle.jm_reader.specs.declared.logs.Log.{Log}
use Rattle.jm_reader.specs.declared.logs.LogKind.{LogKind}
use Rattle.jm_reader.specs.declared.logs.LogKind.TheVariants as kinds
use Rattle.jm_reader.specs.WrittenJournal.{journal_logs}
use Rattle.jm_receiver.specs.declared.group.Group.{Group}
use Rattle.jm_receiver.specs.declared.group.Group.TheVariants.{Programs, Params, Controls, Wheels, Released, Struck, Pressures, Polys}
use Rattle.jm_receiver.specs.declared.heard.HeardKind.TheVariants.{Repaired}
use Rattle.jm_receiver.specs.declared.heard.Hearing.{Hearing}
use Rattle.jm_receiver.specs.Agreement.{Agrees, few_of, holds_too, holds_agrees, param_again}
use Rattle.jm_receiver.specs.BankHeard.{log_handed, handed_of}
use Rattle.jm_receiver.specs.FreshLogs.{fresh_of, reset_fresh}
use Rattle.jm_receiver.specs.Group.{all_groups, all_channels}
use Rattle.jm_receiver.specs.HandedOn.{handed_on_if_new, handed_on, reset_handed_on, resets_handed_on, message_handed_on, message_handed_on_if_counting, messages_handed_on, song_handed_on, songs_handed_on, group_handed_on, controls_handed_on, channel_handed_on, repair_handed_on}
use Rattle.jm_receiver.specs.HeardLaw.{listening}
use Rattle.jm_receiver.specs.Listened.{repair_listened}
use Rattle.jm_receiver.specs.Order.{of_group, in_order}
use Rattle.jm_receiver.specs.ParamKeys.{Holds, holds_none, half_of}
use Rattle.jm_receiver.specs.ParamLaw.{reset_clears, m_fits, same_halves}
use Rattle.jm_receiver.specs.ParamLogs.{param, log_enters, Fits, all_in_order, entered_repaired, journal_fits, fresh_fit}
use Rattle.jm_receiver.specs.ParamPlaces.{params_entered, Knows, knows_own}
use Rattle.jm_receiver.specs.ParamsHeard.{ParamsAreTold, ParametersAreHeard}
use Rattle.jm_receiver.specs.Repair.{is_reset_log, has_reset, cleared, counts, is_ahead, repaired}
use Rattle.jm_receiver.specs.Whole.{IsWhole, applied_whole}
use Rattle.jm_receiver.proofs.ParamSteps.{Tracks, untouched, chosen_tracks, if_new_tracks, log_tracks}
use Rattle.jm_receiver.proofs.RealParams.{AreReal, params_real}

-- ## Lists

all_in_two : {X : Type 0} (P : X → Type 0) (xs ys : List X) → AllByRecursion P (xs ++ ys) → AllByRecursion P xs × AllByRecursion P ys
all_in_two P [] ys h = (tt, h)
all_in_two P (x ∷ xs) ys h = let rest = all_in_two P xs ys h.1 in ((h.0, rest.0), rest.1)

all_in_flat : {X Y : Type 0} (P : Y → Type 0) (list : X → List Y) (xs : List X) → AllByRecursion P (flat_map list xs) → AllByRecursion (λ x. AllByRecursion P (list x)) xs
all_in_flat P list [] h = tt
all_in_flat P list (x ∷ xs) h = let two = all_in_two P (list x) (flat_map list xs) h in (two.0, all_in_flat P list xs two.1)

fold-flat : {S X Y : Type 0} (step : S → Y → S) (list : X → List Y) (s : S) (xs : List X) → fold step s (flat_map list xs) ≡ fold (λ t x. fold step t (list x)) s xs
fold-flat step list s [] = refl
fold-flat step list s (x ∷ xs) = fold-append step s (list x) (flat_map list xs) ∙ fold-flat step list (fold step s (list x)) xs

-- ## Where nothing is reset

pub not_handed : (h : Hearing) (log : LogKind) → is_reset_log log ≡ false → reset_handed_on h log ≡ h
not_handed h (kinds.Reset count) r = absurd (let f : true ≡ false = r in cc)
not_handed h (kinds.Sysex count octets) r = rw r refl
not_handed h log r = refl

pub none_handed : (h : Hearing) (logs : List Log) → has_reset logs ≡ false → fold (λ g log. reset_handed_on g log.what) h logs ≡ h
none_handed h [] r = refl
none_handed h (log ∷ logs) r =
    let parts = or_parts (is_reset_log log.what) (has_reset logs) r in
    ap (λ (g : Hearing). fold (λ x y. reset_handed_on x y.what) g logs) (not_handed h log.what parts.0) ∙ none_handed h logs parts.1

-- ## The logs of channels

abbrev enter : (channel : ℕ) → List Entry → Log → List Entry
enter channel es log = log_enters channel es log.what

module _ (channel : ℕ) (l : channel < 16) (known : List Param) (few : length known ≤ 16) (real : AreReal known) where
  abbrev Follow : Hearing → List Entry → Type 0
  Follow h es = Tracks channel known h.state es

  abbrev AllFit : List Log → Type 0
  AllFit logs = AllByRecursion (λ log. Fits channel known log.what) logs

  logs_track : (h : Hearing) (es : List Entry) (logs : List Log) → AllFit logs → Follow h es → Follow (fold log_handed h logs) (fold (enter channel) es logs)
  logs_track h es [] fits k = k
  logs_track h es (log ∷ logs) fits k = logs_track (log_handed h log) (enter channel es log) logs fits.1 (log_tracks channel l known few real h es log.what fits.0 k)

  group_tracks : (logs : List Log) (at : ℕ) (h : Hearing) (es : List Entry) (group : Group) → AllFit (of_group group at logs) → Follow h es → Follow (group_handed_on logs at h group) (fold (enter channel) es (of_group group at logs))
  unfolding group_handed_on
  group_tracks logs at h es group fits k = rw (handed_of group at h logs) (logs_track h es (of_group group at logs) fits k)

  controls_track : (logs : List Log) (whole : State) (at : ℕ) (h : Hearing) (es : List Entry) → AllFit (of_group Params at logs) → AllFit (of_group Controls at logs) → Follow h es →
      Follow (controls_handed_on logs whole at h) (fold (enter channel) (fold (enter channel) es (of_group Params at logs)) (of_group Controls at logs))
  unfolding controls_handed_on
  controls_track logs whole at h es params controls k =
      let entered = group_handed_on logs at h Params in
      let es_entered = fold (enter channel) es (of_group Params at logs) in
      chosen_tracks channel l known few real (length h.heard) (length entered.heard) (group_handed_on logs at entered Controls) (fold (enter channel) es_entered (of_group Controls at logs)) at (selection_of whole at)
      (group_tracks logs at entered es_entered Controls controls (group_tracks logs at h es Params params k))

  channel_tracks : (logs : List Log) (whole : State) (h : Hearing) (at : ℕ) (es : List Entry) → AllFit (in_order at logs) → Follow h es → Follow (channel_handed_on logs whole h at) (fold (enter channel) es (in_order at logs))
  unfolding channel_handed_on in_order all_groups
  channel_tracks logs whole h at es fits k =
      let of : Group → List Log = λ group. of_group group at logs in
      let by = all_in_flat (λ (log : Log). Fits channel known log.what) of all_groups fits in
      let step : List Entry → Group → List Entry = λ e group. fold (enter channel) e (of group) in
      let e0 = step es Programs in
      let e2 = step (step e0 Params) Controls in
      let e3 = step e2 Wheels in
      let e4 = step e3 Released in
      let e5 = step e4 Struck in
      let e6 = step e5 Pressures in
      let p = group_handed_on logs at h Programs in
      let c = controls_handed_on logs whole at p in
      let w = group_handed_on logs at c Wheels in
      let r = group_handed_on logs at w Released in
      let n = group_handed_on logs at r Struck in
      let q = group_handed_on logs at n Pressures in
      subst (λ (e : List Entry). Follow (group_handed_on logs at q Polys) e) (sym (fold-flat (enter channel) of es all_groups))
      (group_tracks logs at q e6 Polys by.1.1.1.1.1.1.1.0
      (group_tracks logs at n e5 Pressures by.1.1.1.1.1.1.0
      (group_tracks logs at r e4 Struck by.1.1.1.1.1.0
      (group_tracks logs at w e3 Released by.1.1.1.1.0
      (group_tracks logs at c e2 Wheels by.1.1.1.0
      (controls_track logs whole at p e0 by.1.0 by.1.1.0
      (group_tracks logs at h es Programs by.0 k)))))))

  channels_track : (logs : List Log) (whole : State) (h : Hearing) (es : List Entry) (channels : List ℕ) → AllFit (flat_map (λ at. in_order at logs) channels) → Follow h es →
      Follow (fold (channel_handed_on logs whole) h channels) (fold (enter channel) es (flat_map (λ at. in_order at logs) channels))
  channels_track logs whole h es [] fits k = k
  channels_track logs whole h es (at ∷ channels) fits k =
      let two = all_in_two (λ (log : Log). Fits channel known log.what) (in_order at logs) (flat_map (λ n. in_order n logs) channels) fits in
      subst (λ (e : List Entry). Follow (fold (channel_handed_on logs whole) (channel_handed_on logs whole h at) channels) e) (sym (fold-append (enter channel) es (in_order at logs) (flat_map (λ n. in_order n logs) channels)))
      (channels_track logs whole (channel_handed_on logs whole h at) (fold (enter channel) es (in_order at logs)) channels two.1 (channel_tracks logs whole h at es two.0 k))

  -- ## Messages and songs

  message_tracks : (reset : Bool) (before : ℕ) (h : Hearing) (es : List Entry) (log : LogKind) → counts reset before log ≡ true → Follow h es → Follow (message_handed_on h log) es
  unfolding handed_on
  message_tracks reset before h es (kinds.Sysex count octets) c k =
      let command = commands.Sysex octets in
      let none : is_reset_message octets ≡ false = not-true (is_reset_message octets) (and_parts (not (is_reset_message octets)) (reset || is_ahead before count) c).0 in
      untouched channel l known few real h.state (applied h.state command) es (applied_whole h.state command k.whole) ((by_part h.state command k.whole.state).entered channel l ∙ rw none refl) k
  message_tracks reset before h es log c k = absurd (let f : false ≡ true = c in cc)

  messages_track : (reset : Bool) (before : ℕ) (h : Hearing) (es : List Entry) (logs : List Log) → Follow h es → Follow (fold (message_handed_on_if_counting reset before) h logs) es
  messages_track reset before h es [] k = k
  messages_track reset before h es (log ∷ logs) k =
      messages_track reset before (message_handed_on_if_counting reset before h log) es logs
      (elim (cases_Bool (counts reset before log.what)) [ inl t ↦ rw t (message_tracks reset before h es log.what t k) | inr f ↦ rw f k ])

  song_tracks : (h : Hearing) (es : List Entry) (log : LogKind) → Follow h es → Follow (song_handed_on h log) es
  song_tracks h es (kinds.Song song) k = if_new_tracks channel l known few real h es (commands.SongSelect song) Repaired (λ is. (by_part h.state (commands.SongSelect song) is).entered channel l) k
  song_tracks h es log k = k

  songs_track : (h : Hearing) (es : List Entry) (logs : List Log) → Follow h es → Follow (fold (λ g log. song_handed_on g log.what) h logs) es
  songs_track h es [] k = k
  songs_track h es (log ∷ logs) k = songs_track (song_handed_on h log.what) es logs (song_tracks h es log.what k)

  -- ## Resets

  -- a whole state in whose channel no parameter has a half
  record IsEmpty (t : State) : Type 0 where
    whole : IsWhole t
    none : (p : Param) → halves_in (entered_of t channel) p ≡ no_halves

  absent : entered_of no_state channel ≡ []
  absent = ap (λ c. c.entered) (no_channel_at channel l)

  empty_if_new : (h : Hearing) (command : Command) → applied h.state command ≡ no_state → IsWhole h.state → IsEmpty (handed_on_if_new h command Repaired).state
  unfolding handed_on_if_new
  empty_if_new h command e is =
      let after = applied h.state command in
      let nothing : (p : Param) → halves_in (entered_of after channel) p ≡ no_halves = λ p. ap (λ (s : State). halves_in (entered_of s channel) p) e ∙ ap (λ (es : List Entry). halves_in es p) absent in
      elim (cases_Bool (same_states after h.state)) [
        | inl t ↦ rw t (record {
          whole = is;
          none = λ p.
              ap (halves_in (entered_of h.state channel)) (sym (param_again p))
              ∙ sym ((states_parts after h.state t).param channel p.nrpn p.high p.low l)
              ∙ ap (halves_in (entered_of after channel)) (param_again p)
              ∙ nothing p;
        })
        | inr f ↦ rw f (record { whole = applied_whole h.state command is; none = nothing })
      ]

  empty_by : (h : Hearing) (log : LogKind) → is_reset_log log ≡ true → IsWhole h.state → IsEmpty (reset_handed_on h log).state
  empty_by h (kinds.Reset count) r is = empty_if_new h commands.SystemReset refl is
  empty_by h (kinds.Sysex count octets) r is = rw r (empty_if_new h (commands.Sysex octets) (rw r refl) is)
  empty_by h log r is = absurd (let f : false ≡ true = r in cc)

  stays_empty : (h : Hearing) (logs : List Log) → IsEmpty h.state → IsEmpty (fold (λ g log. reset_handed_on g log.what) h logs).state
  stays_empty h [] k = k
  stays_empty h (log ∷ logs) k =
      stays_empty (reset_handed_on h log.what) logs
      (elim (cases_Bool (is_reset_log log.what)) [
        | inl t ↦ empty_by h log.what t k.whole
        | inr f ↦ subst (λ (g : Hearing). IsEmpty g.state) (sym (not_handed h log.what f)) k
      ])

  becomes_empty : (h : Hearing) (logs : List Log) → has_reset logs ≡ true → IsWhole h.state → IsEmpty (fold (λ g log. reset_handed_on g log.what) h logs).state
  becomes_empty h [] r is = absurd (let f : false ≡ true = r in cc)
  becomes_empty h (log ∷ logs) r is =
      elim (cases_Bool (is_reset_log log.what)) [
        | inl t ↦ stays_empty (reset_handed_on h log.what) logs (empty_by h log.what t is)
        | inr f ↦
            subst (λ (g : Hearing). IsEmpty (fold (λ x y. reset_handed_on x y.what) g logs).state) (sym (not_handed h log.what f))
            (becomes_empty h logs (rw f at r) is)
      ]

  resets_track : (h : Hearing) (logs : List Log) → IsWhole h.state → (has_reset logs ≡ false → Holds known (entered_of h.state channel)) → Follow (resets_handed_on logs h) (entered_of (cleared logs h.state) channel)
  unfolding resets_handed_on
  resets_track h logs is holds =
      elim (cases_Bool (has_reset logs)) [
        | inl t ↦
            let empty = becomes_empty h logs t is in
            let u = (fold (λ g log. reset_handed_on g log.what) h logs).state in
            rw t
            (subst (λ (es : List Entry). Tracks channel known u es) (sym absent) (record {
              whole = empty.whole;
              own = holds_too known (entered_of u channel) [] (empty.whole.entered channel l) (holds_none known) empty.none;
              meant = holds_none known;
              same = λ q half. ap (half_of half) (empty.none q);
            }))
        | inr f ↦
            rw f
            (subst (λ (g : Hearing). Follow g (entered_of h.state channel)) (sym (none_handed h logs f)) (record { whole = is; own = holds f; meant = holds f; same = λ q half. refl }))
      ]

  -- ## Repair

  all_track : (logs : List Log) (whole : State) (h : Hearing) → IsWhole h.state → AllFit (all_in_order logs) → (has_reset logs ≡ false → Holds known (entered_of h.state channel)) →
      Follow (repair_handed_on logs whole h) (fold (enter channel) (entered_of (cleared logs h.state) channel) (all_in_order logs))
  unfolding repair_handed_on messages_handed_on songs_handed_on
  all_track logs whole h is fits holds =
      let resets = resets_handed_on logs h in
      let es = entered_of (cleared logs h.state) channel in
      let messages = messages_handed_on logs resets in
      channels_track logs whole (songs_handed_on logs messages) es all_channels fits
      (songs_track messages es logs (messages_track (has_reset logs) resets.state.sysex_count resets es logs (resets_track h logs is holds)))

  params_told : (s : State) (logs : List Log) (time : ℕ) (nrpn : Bool) (high low : ℕ) → IsWhole s → AllFit (all_in_order logs) → (has_reset logs ≡ false → Holds known (entered_of s channel)) →
      param_of (repair_handed_on logs (repaired s logs) (listening s time)).state channel nrpn high low ≡ param_of (repaired s logs) channel nrpn high low
  params_told s logs time nrpn high low is fits holds =
      let p = param nrpn high low in
      let t = (repair_handed_on logs (repaired s logs) (listening s time)).state in
      let es = fold (enter channel) (entered_of (cleared logs s) channel) (all_in_order logs) in
      let k = all_track logs (repaired s logs) (listening s time) is fits holds in
      let entered : entered_of (repaired s logs) channel ≡ es = entered_repaired channel l known s logs is.state fits in
      same_halves (halves_in (entered_of t channel) p) (halves_in es p) (k.same p true) (k.same p false)
      ∙ sym (ap (λ (x : List Entry). halves_in x p) entered)

-- ## The law

all_told : (checkpoint next packet tick time : ℕ) (sent : List Sent) (s : State) → InOrder packet_of sent → checkpoint ≤ next → next ≤ packet → IsWhole s → Agrees s (below packet_of next sent) →
    ParamsAreTold (journal_logs checkpoint packet tick sent) s time (below packet_of packet sent)
all_told checkpoint next packet tick time sent s o early late is agrees channel nrpn high low l open_too =
    let seen = below packet_of packet sent in
    let known = params_entered channel seen in
    let logs = journal_logs checkpoint packet tick sent in
    let few = few_of channel seen open_too in
    let knows : Knows channel known (session_places channel seen) = knows_own channel [] (session_places channel seen) in
    subst (λ (t : State). param_of t channel nrpn high low ≡ param_of (repaired s logs) channel nrpn high low) (repair_listened s logs (repaired s logs) (listening s time) refl)
    (params_told channel l known few (params_real channel seen) s logs time nrpn high low is
    (journal_fits channel known checkpoint packet tick sent (m_fits channel known checkpoint packet sent knows))
    (λ f. holds_agrees channel l checkpoint next packet tick sent s o early late is agrees few (sym (reset_clears channel checkpoint packet tick sent o) ∙ f)))

fresh_told : (checkpoint last tick time : ℕ) (sent : List Sent) (s : State) → InOrder packet_of sent → checkpoint ≤ last → IsWhole s → Agrees s (below packet_of last sent) →
    ParamsAreTold (fresh_of (journal_logs checkpoint (last + 1) tick sent)) s time (below packet_of (last + 1) sent)
fresh_told checkpoint last tick time sent s o early is agrees channel nrpn high low l open_too =
    let seen = below packet_of (last + 1) sent in
    let known = params_entered channel seen in
    let logs = fresh_of (journal_logs checkpoint (last + 1) tick sent) in
    let few = few_of channel seen open_too in
    let knows : Knows channel known (session_places channel seen) = knows_own channel [] (session_places channel seen) in
    subst (λ (t : State). param_of t channel nrpn high low ≡ param_of (repaired s logs) channel nrpn high low) (repair_listened s logs (repaired s logs) (listening s time) refl)
    (params_told channel l known few (params_real channel seen) s logs time nrpn high low is
    (fresh_fit channel known checkpoint (last + 1) tick sent (m_fits channel known checkpoint (last + 1) sent knows))
    (λ f. holds_agrees channel l last last (last + 1) tick sent s o (omega arith) (omega arith) is agrees few
    (sym (reset_fresh checkpoint last sent early tick ∙ reset_clears channel last (last + 1) tick sent o) ∙ f)))

pub parameters_heard : ParametersAreHeard
parameters_heard = record { by_all = all_told; by_fresh = fresh_told }
