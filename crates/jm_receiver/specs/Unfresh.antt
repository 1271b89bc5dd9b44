-- Where the one lost packet had no commands, the next one's journal has no fresh logs, and nothing needless is heard.
use Rattle.std.proofs.Common.{◌≡◌, ℕ, Bool, true, false, ◌&&◌, ◌||◌, eqb, leb, ltb, List, [], ◌∷◌, ◌++◌, Option, Some, None, map, refl, ap, subst, ◌∙◌, inl, inr, arith}
use Rattle.std.specs.Prelude.{Ok}
use Rattle.std.specs.List.{flat_map, list_any, filter_map, cons_option, AllByRecursion, range_with_len}
use Rattle.std.proofs.lemmas.Bool.{cases_Bool, eqb-true}
use Rattle.std.proofs.lemmas.Bool.Decides.{nat_tests}
use Rattle.jm_cmds.specs.declared.history.Sent.{Sent}
use Rattle.jm_cmds.specs.declared.param.Param.{Param}
use Rattle.jm_cmds.specs.Frames.{time_code_after}
use Rattle.jm_cmds.specs.History.{standing, below, coded, scanned}
use Rattle.jm_cmds.specs.HistoryLaws.{AllByRecursion-filter, AllByRecursion-standing, AllByRecursion-scanned, AllByRecursion-append, all_unended}
use Rattle.jm_cmds.specs.Selection.{no_selection}
use Rattle.jm_cmds.specs.Sent.{packet_of, is_fresh}
use Rattle.jm_cmds.specs.Sequencing.{sequencer_after}
use Rattle.ch_voice.specs.Bank.{no_bank, bank_step}
use Rattle.ch_voice.specs.ChapterP.{banked_event, program_ends, coded_program}
use Rattle.ch_voice.specs.ChapterT.{coded_pressure}
use Rattle.ch_voice.specs.ChapterW.{coded_wheel}
use Rattle.ch_voice.specs.PressureEvent.{pressure_at, pressure_ends}
use Rattle.ch_voice.specs.WheelEvent.{wheel_at, wheel_ends}
use Rattle.ch_control.specs.ChapterC.{coded_controls}
use Rattle.ch_control.specs.ControlEvent.{control_ends}
use Rattle.ch_param.specs.ChapterM.{entered, entered_at, entered_by, event_param, session_places}
use Rattle.ch_param.specs.Event.{Place, packet_at, event_at as entry_at, param_ends, selection_step}
use Rattle.ch_notes.specs.ChapterA.{coded_presses}
use Rattle.ch_notes.specs.ChapterN.{coded_notes, is_released, released, released_fresh}
use Rattle.ch_notes.specs.NoteEvent.{event_at as note_at, note_ends}
use Rattle.ch_notes.specs.PolyEvent.{poly_ends}
use Rattle.ch_system.specs.declared.items.SystemItem.{SystemItem}
use Rattle.ch_system.specs.declared.items.SystemItem.TheVariants.{Reset, Tune, Song, Sensing, Sequence, Frames}
use Rattle.ch_system.specs.ChapterD.{song_of}
use Rattle.ch_system.specs.Items.{item_coded, item_count, item_ends, is_place_of}
use Rattle.ch_sysex.specs.ChapterX.{counted_ends, coded_counted}
use Rattle.ch_sysex.specs.SysexEvent.{event_at as message_at, data_of, count_step}
use Rattle.jm_journal.specs.Journal.{channels}
use Rattle.jm_reader.specs.declared.logs.Log.{Log}
use Rattle.jm_reader.specs.declared.logs.LogKind.TheVariants as kinds
use Rattle.jm_reader.specs.WrittenA.{a_said, place_said as a_place}
use Rattle.jm_reader.specs.WrittenC.{c_said, place_said as c_place}
use Rattle.jm_reader.specs.WrittenChannel.{channel_logs}
use Rattle.jm_reader.specs.WrittenD.{d_said, place_said as d_place}
use Rattle.jm_reader.specs.WrittenE.{e_said, place_said as e_place}
use Rattle.jm_reader.specs.WrittenF.{f_said, code_said}
use Rattle.jm_reader.specs.WrittenJournal.{journal_logs, channels_logs}
use Rattle.jm_reader.specs.WrittenListed.{all_logged}
use Rattle.jm_reader.specs.WrittenM.{m_said, entered_said}
use Rattle.jm_reader.specs.WrittenN.{n_said, struck_said, released_said, released_log, has_note}
use Rattle.jm_reader.specs.WrittenP.{p_said, place_said as p_place}
use Rattle.jm_reader.specs.WrittenQ.{q_said, position_said}
use Rattle.jm_reader.specs.WrittenSystem.{system_logs}
use Rattle.jm_reader.specs.WrittenT.{t_said, place_said as t_place}
use Rattle.jm_reader.specs.WrittenV.{v_said}
use Rattle.jm_reader.specs.WrittenW.{w_said, place_said as w_place}
use Rattle.jm_reader.specs.WrittenX.{x_said, sysex_said}
use Rattle.jm_receiver.specs.declared.receiver.Took.{Took}
use Rattle.jm_receiver.specs.Accept.{Contents, opened, accepted}
use Rattle.jm_receiver.specs.FreshLogs.{fresh_of, AreAll, kept, all_logged_fresh, program_fresh, wheel_fresh, note_fresh, pressure_fresh, position_fresh, code_fresh, message_fresh}
use Rattle.jm_receiver.specs.InStep.{IsOfStream}
use Rattle.jm_receiver.specs.Needless.{HearsJust, accepted_just, one_used}
use Rattle.jm_receiver.specs.Receiver.{Received}
use Rattle.jm_receiver.specs.SystemLogs.{all_flat}

-- Where just one packet was missed before it, and no command was sent in that one, just what its section holds is heard of a packet of
-- the stream that is taken, whatever the packets before left in its journal. This excludes that older logs are handed on
-- behind one lost packet, and that older released notes count as fresh where none is.
abbrev pub NothingNeedlessBehindAnEmptyPacket : Type 0
NothingNeedlessBehindAnEmptyPacket =
    (r : Received) (octets : List ℕ) (c : Contents) (checkpoint packet tick : ℕ) (sent own : List Sent) (after : Received) (took : Took) → opened r.ssrc octets ≡ Ok c → IsOfStream checkpoint packet tick sent own c →
    accepted r octets ≡ Ok (after, took) → took.gap ≡ 1 → list_any (is_fresh packet) sent ≡ false → HearsJust r c after took

-- ## Lists of logs

flat_unfresh : {X : Type 0} (test : X → Bool) (list : X → List Log) → ((x : X) → AreAll (test x) (list x)) → (xs : List X) → AllByRecursion (λ x. test x ≡ false) xs → AreAll false (flat_map list xs)
flat_unfresh test list h [] none = tt
flat_unfresh test list h (x ∷ xs) none =
    AllByRecursion-append (λ (log : Log). log.fresh ≡ false) (list x) (flat_map list xs) (subst (λ b. AreAll b (list x)) none.0 (h x)) (flat_unfresh test list h xs none.1)

map_unfresh : {X : Type 0} (log : X → Log) (xs : List X) → AllByRecursion (λ x. (log x).fresh ≡ false) xs → AreAll false (map log xs)
map_unfresh log [] none = tt
map_unfresh log (x ∷ xs) none = (none.0, map_unfresh log xs none.1)

any_none : {X : Type 0} (own test : X → Bool) (xs : List X) → AllByRecursion (λ x. test x ≡ false) xs → list_any (λ x. own x && test x) xs ≡ false
any_none own test [] none = refl
any_none own test (x ∷ xs) none = rw (none.0, any_none own test xs none.1) (last (own x))
  where
    last : (b : Bool) → (b && false || false) ≡ false
    last true = refl
    last false = refl

module _ (checkpoint packet tick : ℕ) (sent : List Sent) (none : list_any (is_fresh packet) sent ≡ false) where
  abbrev seen : List Sent
  seen = below packet_of packet sent

  abbrev IsUnfresh : Sent → Type 0
  IsUnfresh x = is_fresh packet x ≡ false

  seen_unfresh : AllByRecursion IsUnfresh seen
  seen_unfresh = AllByRecursion-filter IsUnfresh (λ x. ltb (packet_of x) packet) sent (all_unended (is_fresh packet) sent none)

  places_unfresh : (ends : Sent → Sent → Bool) → AllByRecursion IsUnfresh (coded ends packet_of checkpoint seen)
  places_unfresh ends = AllByRecursion-filter IsUnfresh (λ x. leb checkpoint (packet_of x)) (standing ends seen) (AllByRecursion-standing IsUnfresh ends seen seen_unfresh)

  scanned_unfresh : {S : Type 0} (ends : S × Sent → S × Sent → Bool) (step : S → Sent → S) (s : S) → AllByRecursion (λ (place : S × Sent). is_fresh packet place.1 ≡ false) (coded ends (λ place. packet_of place.1) checkpoint (scanned step s seen))
  scanned_unfresh {S = S} ends step s =
      let P : S × Sent → Type 0 = λ place. is_fresh packet place.1 ≡ false in
      AllByRecursion-filter P (λ place. leb checkpoint (packet_of place.1)) (standing ends (scanned step s seen)) (AllByRecursion-standing P ends (scanned step s seen) (AllByRecursion-scanned IsUnfresh step s seen seen_unfresh))

  -- ## A channel

  p_unfresh : (channel : ℕ) → AreAll false (p_said channel checkpoint packet sent)
  unfolding p_said
  p_unfresh channel =
      flat_unfresh (λ place. is_fresh packet place.1) (p_place channel packet) (λ x. program_fresh channel (is_fresh packet x.1) x.0 (banked_event channel x)) (coded_program channel checkpoint packet sent) (scanned_unfresh (program_ends channel) (bank_step channel) no_bank)

  c_unfresh : (channel : ℕ) → AreAll false (c_said channel checkpoint packet sent)
  unfolding c_said
  c_unfresh channel =
      flat_unfresh (is_fresh packet) (λ place. all_logged (is_fresh packet place) (c_place channel seen place)) (λ x. all_logged_fresh (is_fresh packet x) (c_place channel seen x)) (coded_controls channel checkpoint packet sent) (places_unfresh (control_ends channel))

  latest_unfresh : (channel : ℕ) (places : List Place) → AllByRecursion (λ (place : Place). is_fresh packet place.1 ≡ false) places → AllByRecursion (λ e. is_fresh packet e.latest ≡ false) (filter_map (entered_at channel) places)
  latest_unfresh channel [] h = tt
  latest_unfresh channel (place ∷ places) h = by_param (event_param (entry_at channel place)) (latest_unfresh channel places h.1)
    where
      by_param : (o : Option Param) → AllByRecursion (λ e. is_fresh packet e.latest ≡ false) (filter_map (entered_at channel) places) → AllByRecursion (λ e. is_fresh packet e.latest ≡ false) (cons_option (entered_by place.1 o) (filter_map (entered_at channel) places))
      by_param None rest = rest
      by_param (Some param) rest = (h.0, rest)

  m_unfresh : (channel : ℕ) → AreAll false (m_said channel checkpoint packet sent)
  unfolding m_said
  m_unfresh channel =
      let places = session_places channel seen in
      map_unfresh (entered_said channel checkpoint packet places) (entered channel checkpoint places)
      (latest_unfresh channel (coded (param_ends channel) packet_at checkpoint places) (scanned_unfresh (param_ends channel) (selection_step channel) no_selection))

  w_unfresh : (channel : ℕ) → AreAll false (w_said channel checkpoint packet sent)
  unfolding w_said
  w_unfresh channel =
      flat_unfresh (is_fresh packet) (w_place channel packet) (λ x. wheel_fresh channel (is_fresh packet x) (wheel_at channel x)) (coded_wheel channel checkpoint packet sent) (places_unfresh (wheel_ends channel))

  released_unfresh : (channel : ℕ) → AreAll false (released_said channel (released_fresh channel packet (coded_notes channel checkpoint packet sent)) (released channel (coded_notes channel checkpoint packet sent)))
  unfolding released_said
  released_unfresh channel =
      let places = coded_notes channel checkpoint packet sent in
      let old : released_fresh channel packet places ≡ false = any_none (λ place. is_released (note_at channel place)) (is_fresh packet) places (places_unfresh (note_ends channel)) in
      all_flat (λ log. log.fresh ≡ false) (released_log channel (released_fresh channel packet places) (released channel places))
      (λ n. elim (cases_Bool (has_note (released channel places) n)) [ inl t ↦ rw t (old, tt) | inr f ↦ rw f tt ]) (range_with_len 0 128)

  n_unfresh : (channel : ℕ) → AreAll false (n_said channel checkpoint packet tick sent)
  unfolding n_said
  n_unfresh channel =
      let places = coded_notes channel checkpoint packet sent in
      AllByRecursion-append (λ (log : Log). log.fresh ≡ false) (released_said channel (released_fresh channel packet places) (released channel places)) (flat_map (struck_said channel packet tick) places) (released_unfresh channel)
      (flat_unfresh (is_fresh packet) (struck_said channel packet tick) (λ x. note_fresh channel (is_fresh packet x) _ (note_at channel x)) places (places_unfresh (note_ends channel)))

  e_unfresh : (channel : ℕ) → AreAll false (e_said channel checkpoint packet sent)
  unfolding e_said
  e_unfresh channel =
      flat_unfresh (is_fresh packet) (λ place. all_logged (is_fresh packet place) (e_place channel seen place)) (λ x. all_logged_fresh (is_fresh packet x) (e_place channel seen x)) (coded_notes channel checkpoint packet sent) (places_unfresh (note_ends channel))

  t_unfresh : (channel : ℕ) → AreAll false (t_said channel checkpoint packet sent)
  unfolding t_said
  t_unfresh channel =
      flat_unfresh (is_fresh packet) (t_place channel packet) (λ x. pressure_fresh channel (is_fresh packet x) (pressure_at channel x)) (coded_pressure channel checkpoint packet sent) (places_unfresh (pressure_ends channel))

  a_unfresh : (channel : ℕ) → AreAll false (a_said channel checkpoint packet sent)
  unfolding a_said
  a_unfresh channel =
      flat_unfresh (is_fresh packet) (λ place. all_logged (is_fresh packet place) (a_place channel place)) (λ x. all_logged_fresh (is_fresh packet x) (a_place channel x)) (coded_presses channel checkpoint seen) (places_unfresh (poly_ends channel))

  channel_unfresh : (channel : ℕ) → AreAll false (channel_logs checkpoint packet tick sent channel)
  unfolding channel_logs
  channel_unfresh channel =
      let joined = AllByRecursion-append (λ (log : Log). log.fresh ≡ false) in
      let p = p_said channel checkpoint packet sent in
      let c = c_said channel checkpoint packet sent in
      let m = m_said channel checkpoint packet sent in
      let w = w_said channel checkpoint packet sent in
      let n = n_said channel checkpoint packet tick sent in
      let e = e_said channel checkpoint packet sent in
      let t = t_said channel checkpoint packet sent in
      let a = a_said channel checkpoint packet sent in
      joined (p ++ c ++ m ++ w ++ n ++ e ++ t) a
      (joined (p ++ c ++ m ++ w ++ n ++ e) t
      (joined (p ++ c ++ m ++ w ++ n) e
      (joined (p ++ c ++ m ++ w) n
      (joined (p ++ c ++ m) w (joined (p ++ c) m (joined p c (p_unfresh channel) (c_unfresh channel)) (m_unfresh channel)) (w_unfresh channel))
      (n_unfresh channel)) (e_unfresh channel)) (t_unfresh channel)) (a_unfresh channel)

  -- ## The whole session

  item_unfresh : (item : SystemItem) → AllByRecursion IsUnfresh (item_coded item checkpoint packet sent)
  unfolding item_coded
  item_unfresh item = AllByRecursion-filter IsUnfresh (is_place_of item) (coded (item_ends item) packet_of checkpoint seen) (places_unfresh (item_ends item))

  d_unfresh : AreAll false (d_said checkpoint packet sent)
  unfolding d_said
  d_unfresh =
      let joined = AllByRecursion-append (λ (log : Log). log.fresh ≡ false) in
      let resets = d_place packet (λ place. kinds.Reset (item_count Reset seen)) in
      let tunes = d_place packet (λ place. kinds.Tune (item_count Tune seen)) in
      let songs = d_place packet (λ place. kinds.Song (song_of place.command)) in
      let r = item_coded Reset checkpoint packet sent in
      let t = item_coded Tune checkpoint packet sent in
      let s = item_coded Song checkpoint packet sent in
      joined (map resets r ++ map tunes t) (map songs s)
      (joined (map resets r) (map tunes t) (map_unfresh resets r (item_unfresh Reset)) (map_unfresh tunes t (item_unfresh Tune)))
      (map_unfresh songs s (item_unfresh Song))

  v_unfresh : AreAll false (v_said checkpoint packet sent)
  unfolding v_said
  v_unfresh = map_unfresh (λ place. let log : Log = record { fresh = is_fresh packet place; what = kinds.Sensing (item_count Sensing seen) } in log) (item_coded Sensing checkpoint packet sent) (item_unfresh Sensing)

  q_unfresh : AreAll false (q_said checkpoint packet sent)
  unfolding q_said
  q_unfresh =
      flat_unfresh (is_fresh packet) (λ place. position_said (is_fresh packet place) (sequencer_after seen)) (λ x. position_fresh (is_fresh packet x) (sequencer_after seen)) (item_coded Sequence checkpoint packet sent) (item_unfresh Sequence)

  f_unfresh : AreAll false (f_said checkpoint packet sent)
  unfolding f_said
  f_unfresh =
      flat_unfresh (is_fresh packet) (λ place. code_said (is_fresh packet place) (time_code_after seen)) (λ x. code_fresh (is_fresh packet x) (time_code_after seen)) (item_coded Frames checkpoint packet sent) (item_unfresh Frames)

  x_unfresh : AreAll false (x_said checkpoint packet sent)
  unfolding x_said
  x_unfresh =
      flat_unfresh (λ place. is_fresh packet place.1) (sysex_said packet) (λ x. message_fresh (is_fresh packet x.1) x.0 (message_at x.1) (data_of x.1.command)) (coded_counted checkpoint 0 seen) (scanned_unfresh counted_ends count_step 0)

  system_unfresh : AreAll false (system_logs checkpoint packet sent)
  unfolding system_logs
  system_unfresh =
      let joined = AllByRecursion-append (λ (log : Log). log.fresh ≡ false) in
      let d = d_said checkpoint packet sent in
      let v = v_said checkpoint packet sent in
      let q = q_said checkpoint packet sent in
      let f = f_said checkpoint packet sent in
      let x = x_said checkpoint packet sent in
      joined (d ++ v ++ q ++ f) x (joined (d ++ v ++ q) f (joined (d ++ v) q (joined d v d_unfresh v_unfresh) q_unfresh) f_unfresh) x_unfresh

  -- A journal has no fresh logs where no command was sent in the packet before.
  pub none_fresh : fresh_of (journal_logs checkpoint packet tick sent) ≡ []
  unfolding journal_logs
  none_fresh =
      kept false (system_logs checkpoint packet sent ++ channels_logs checkpoint packet tick sent)
      (AllByRecursion-append (λ (log : Log). log.fresh ≡ false) (system_logs checkpoint packet sent) (channels_logs checkpoint packet tick sent) system_unfresh
      (all_flat (λ log. log.fresh ≡ false) (channel_logs checkpoint packet tick sent) channel_unfresh channels))

-- ## The packet

stream_fresh : (checkpoint packet tick : ℕ) (sent own : List Sent) (c : Contents) → IsOfStream checkpoint packet tick sent own c → list_any (is_fresh packet) sent ≡ false → fresh_of c.logs ≡ []
stream_fresh checkpoint packet tick sent own c stands none =
    elim (cases_Bool (eqb packet 0)) [
      | inl t ↦ ap fresh_of (stands.first (eqb-true packet 0 t))
      | inr f ↦ ap fresh_of (stands.later (grind (arith, nat_tests, f))) ∙ none_fresh checkpoint packet tick sent none
    ]

pub nothing_needless_behind : NothingNeedlessBehindAnEmptyPacket
nothing_needless_behind r octets c checkpoint packet tick sent own after took read stands e one none =
    accepted_just r octets c after took read e (one_used r.last c took one (stream_fresh checkpoint packet tick sent own c stands none))
