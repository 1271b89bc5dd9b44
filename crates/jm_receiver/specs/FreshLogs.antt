-- The fresh logs of a journal, which are of the packet before it, are those of a journal with that packet as its checkpoint. Only the
-- released notes have older ones among them, since one bit tells of all whether they are fresh, and so have the halves of a parameter.
use Rattle.std.proofs.Common.{◌≡◌, ℕ, ◌+◌, ◌<◌, ◌≤◌, Bool, true, false, cond, ◌||◌, eqb, leb, List, [], ◌∷◌, ◌++◌, Option, Some, None, map, refl, sym, ap, ◌∙◌, inl, inr, arith}
use Rattle.std.specs.List.{flat_map, list_any, filter, filter_map, cons_option, AllByRecursion}
use Rattle.std.proofs.lemmas.Bool.{cases_Bool}
use Rattle.std.proofs.lemmas.Bool.Decides.{nat_tests}
use Rattle.std.proofs.lemmas.List.Elements.{filter-append}
use Rattle.std.proofs.lemmas.List.Folds.{list_any-append}
use Rattle.jm_cmds.specs.declared.frames.TimePart.{TimePart}
use Rattle.jm_cmds.specs.declared.history.Sent.{Sent}
use Rattle.jm_cmds.specs.declared.param.Param.{Param}
use Rattle.jm_cmds.specs.declared.sequencing.SequencerPart.{SequencerPart}
use Rattle.jm_cmds.specs.Frames.{time_code_after}
use Rattle.jm_cmds.specs.History.{standing, below, since, coded, scanned, InOrder}
use Rattle.jm_cmds.specs.HistoryLaws.{AllByRecursion-filter, AllByRecursion-standing, AllByRecursion-scanned, All-below, coded-later, filter-swap}
use Rattle.jm_cmds.specs.Selection.{no_selection}
use Rattle.jm_cmds.specs.Sent.{packet_of, is_fresh}
use Rattle.jm_cmds.specs.Sequencing.{sequencer_after}
use Rattle.ch_voice.specs.declared.events.ProgramEvent.{ProgramEvent}
use Rattle.ch_voice.specs.declared.events.ProgramEvent.TheVariants as programs
use Rattle.ch_voice.specs.declared.events.PressureEvent.{PressureEvent}
use Rattle.ch_voice.specs.declared.events.PressureEvent.TheVariants as pressures
use Rattle.ch_voice.specs.declared.events.WheelEvent.{WheelEvent}
use Rattle.ch_voice.specs.declared.events.WheelEvent.TheVariants as wheels
use Rattle.ch_voice.specs.Bank.{no_bank, bank_step}
use Rattle.ch_voice.specs.ChapterP.{banked_event, program_ends, coded_program}
use Rattle.ch_voice.specs.ChapterT.{coded_pressure}
use Rattle.ch_voice.specs.ChapterW.{coded_wheel}
use Rattle.ch_voice.specs.PressureEvent.{pressure_at, pressure_ends}
use Rattle.ch_voice.specs.WheelEvent.{wheel_at, wheel_ends}
use Rattle.ch_control.specs.ChapterC.{coded_controls}
use Rattle.ch_control.specs.ControlEvent.{control_ends}
use Rattle.ch_param.specs.ChapterM.{entered, entered_at, entered_by, event_param, session_places}
use Rattle.ch_param.specs.Event.{Place, packet_at, event_at as entry_at, param_ends, selection_step}
use Rattle.ch_notes.specs.declared.events.NoteEvent.{NoteEvent}
use Rattle.ch_notes.specs.declared.events.NoteEvent.TheVariants as notes
use Rattle.ch_notes.specs.ChapterA.{coded_presses}
use Rattle.ch_notes.specs.ChapterN.{coded_notes}
use Rattle.ch_notes.specs.NoteEvent.{event_at as note_at, note_ends}
use Rattle.ch_notes.specs.PolyEvent.{poly_ends}
use Rattle.ch_system.specs.declared.items.SystemItem.{SystemItem}
use Rattle.ch_system.specs.declared.items.SystemItem.TheVariants.{Reset, Tune, Song, Sensing, Sequence, Frames}
use Rattle.ch_system.specs.ChapterD.{song_of}
use Rattle.ch_system.specs.Items.{item_coded, item_count, item_ends, is_place_of}
use Rattle.ch_sysex.specs.declared.events.SysexEvent.{SysexEvent}
use Rattle.ch_sysex.specs.declared.events.SysexEvent.TheVariants as messages
use Rattle.ch_sysex.specs.ChapterX.{counted_ends, coded_counted, sysex_logs}
use Rattle.ch_sysex.specs.SysexEvent.{event_at as message_at, data_of, count_step}
use Rattle.jm_state.specs.declared.state.State.{State}
use Rattle.jm_state.specs.Parts.{no_state, sysex_count_of}
use Rattle.jm_state.specs.ReplayLaws.{state_behind}
use Rattle.jm_reader.specs.declared.logs.Log.{Log}
use Rattle.jm_reader.specs.declared.logs.LogKind.{LogKind}
use Rattle.jm_reader.specs.declared.logs.LogKind.TheVariants as kinds
use Rattle.jm_reader.specs.Written.{AreCommands}
use Rattle.jm_reader.specs.WrittenA.{a_said, place_said as a_place}
use Rattle.jm_reader.specs.WrittenC.{c_said, place_said as c_place}
use Rattle.jm_reader.specs.WrittenD.{d_said, place_said as d_place}
use Rattle.jm_reader.specs.WrittenF.{f_said, code_said}
use Rattle.jm_reader.specs.WrittenListed.{all_logged}
use Rattle.jm_reader.specs.WrittenM.{m_said, entered_said}
use Rattle.jm_reader.specs.WrittenN.{struck_said, struck_log}
use Rattle.jm_reader.specs.WrittenP.{p_said, program_said, place_said as p_place, Bank}
use Rattle.jm_reader.specs.WrittenQ.{q_said, position_said}
use Rattle.jm_reader.specs.WrittenT.{t_said, pressure_said, place_said as t_place}
use Rattle.jm_reader.specs.WrittenV.{v_said}
use Rattle.jm_reader.specs.WrittenW.{w_said, wheel_said, place_said as w_place}
use Rattle.jm_reader.specs.WrittenX.{x_said, event_said, sysex_said}
use Rattle.jm_reader.specs.WrittenSystem.{system_logs}
use Rattle.jm_reader.specs.WrittenJournal.{journal_logs, channels_logs}
use Rattle.jm_receiver.specs.declared.group.Group.{Group}
use Rattle.jm_receiver.specs.declared.group.Group.TheVariants.{Programs, Params, Controls, Wheels, Released, Struck, Pressures, Polys}
use Rattle.jm_receiver.specs.Repair.{is_reset_log, has_reset, repaired}
use Rattle.jm_receiver.specs.Chapters.{struck_logs, group_logs, is_session, AreOfChannels, channels_of_channels}
use Rattle.jm_receiver.specs.Resets.{no_reset}

-- the logs of what came in the packet before
abbrev pub fresh_of : List Log → List Log
fresh_of logs = filter (λ log. log.fresh) logs

-- Repair of the state behind all packets before the last one, by the fresh logs of the journal of the packet behind that, leaves this
-- part as the state behind the last one has it, wherever the journal's checkpoint isn't later than the last one.
abbrev pub FreshRepairs : {V : Type 0} → (State → V) → Type 0
FreshRepairs part =
    (checkpoint last tick : ℕ) (sent : List Sent) → InOrder packet_of sent → checkpoint ≤ last →
    part (repaired (state_behind no_state (below packet_of last sent)) (fresh_of (journal_logs checkpoint (last + 1) tick sent))) ≡ part (state_behind no_state (below packet_of (last + 1) sent))

-- the same, of commands within their bounds
abbrev pub FreshRepairsCommands : {V : Type 0} → (State → V) → Type 0
FreshRepairsCommands part =
    (checkpoint last tick : ℕ) (sent : List Sent) → AreCommands sent → InOrder packet_of sent → checkpoint ≤ last →
    part (repaired (state_behind no_state (below packet_of last sent)) (fresh_of (journal_logs checkpoint (last + 1) tick sent))) ≡ part (state_behind no_state (below packet_of (last + 1) sent))

-- the same of the number of messages, where the journal has at most 128 logs of them, as the limits of a session ask (`KeepsLimits`)
abbrev pub FreshRepairsMessages : Type 0
FreshRepairsMessages =
    (checkpoint last tick : ℕ) (sent : List Sent) → InOrder packet_of sent → sysex_logs checkpoint (below packet_of (last + 1) sent) ≤ 128 → checkpoint ≤ last →
    sysex_count_of (repaired (state_behind no_state (below packet_of last sent)) (fresh_of (journal_logs checkpoint (last + 1) tick sent))) ≡ sysex_count_of (state_behind no_state (below packet_of (last + 1) sent))

-- ## Places

-- of places in packets up to the last one
fresh_since : {X : Type 0} (at : X → ℕ) (last : ℕ) (xs : List X) → AllByRecursion (λ x. at x < last + 1) xs → filter (λ x. eqb (at x + 1) (last + 1)) xs ≡ since at last xs
fresh_since at last [] h = refl
fresh_since at last (x ∷ xs) h =
    let ih = fresh_since at last xs h.1 in
    elim (cases_Bool (eqb (at x + 1) (last + 1))) [
      | inl t ↦ let l : leb last (at x) ≡ true = grind (arith, nat_tests, h.0) in rw (t, l) (ap (λ k. x ∷ k) ih)
      | inr f ↦ let l : leb last (at x) ≡ false = grind (arith, nat_tests, h.0) in rw (f, l) ih
    ]

fresh_coded : {X : Type 0} (at : X → ℕ) (ends : X → X → Bool) (checkpoint last : ℕ) (xs : List X) → checkpoint ≤ last → AllByRecursion (λ x. at x < last + 1) xs →
    filter (λ x. eqb (at x + 1) (last + 1)) (coded ends at checkpoint xs) ≡ coded ends at last xs
fresh_coded at ends checkpoint last xs l h =
    fresh_since at last (coded ends at checkpoint xs)
    (AllByRecursion-filter (λ x. at x < last + 1) (λ x. leb checkpoint (at x)) (standing ends xs) (AllByRecursion-standing (λ x. at x < last + 1) ends xs h))
    ∙ coded-later ends at checkpoint last xs l

-- ## Logs

abbrev pub AreAll : Bool → List Log → Type 0
AreAll fresh logs = AllByRecursion (λ log. log.fresh ≡ fresh) logs

one_kept : (fresh : Bool) (log : Log) (rest : List Log) → fresh ≡ true → cond fresh (log ∷ rest) rest ≡ log ∷ rest
one_kept true log rest h = refl
one_kept false log rest h = absurd (let f : false ≡ true = h in cc)

one_dropped : (fresh : Bool) (log : Log) (rest : List Log) → fresh ≡ false → cond fresh (log ∷ rest) rest ≡ rest
one_dropped true log rest h = absurd (let f : true ≡ false = h in cc)
one_dropped false log rest h = refl

pub kept : (fresh : Bool) (logs : List Log) → AreAll fresh logs → fresh_of logs ≡ cond fresh logs []
kept true [] h = refl
kept false [] h = refl
kept true (log ∷ logs) h = one_kept log.fresh log (fresh_of logs) h.0 ∙ ap (λ (l : List Log). log ∷ l) (kept true logs h.1)
kept false (log ∷ logs) h = one_dropped log.fresh log (fresh_of logs) h.0 ∙ kept false logs h.1

pub fresh_flat : {X : Type 0} (test : X → Bool) (list : X → List Log) → ((x : X) → AreAll (test x) (list x)) → (xs : List X) → fresh_of (flat_map list xs) ≡ flat_map list (filter test xs)
fresh_flat test list h [] = refl
fresh_flat test list h (x ∷ xs) =
    let ih = fresh_flat test list h xs in
    let first = kept (test x) (list x) (h x) in
    filter-append (λ (log : Log). log.fresh) (list x) (flat_map list xs)
    ∙ elim (cases_Bool (test x)) [
      | inl t ↦ rw (first, t) (ap (λ (l : List Log). list x ++ l) ih)
      | inr f ↦ rw (first, f) ih
    ]

fresh_map : {X : Type 0} (test : X → Bool) (log : X → Log) → ((x : X) → (log x).fresh ≡ test x) → (xs : List X) → fresh_of (map log xs) ≡ map log (filter test xs)
fresh_map test log h [] = refl
fresh_map test log h (x ∷ xs) =
    let ih = fresh_map test log h xs in
    let rest = fresh_of (map log xs) in
    elim (cases_Bool (test x)) [
      | inl t ↦ rw t (one_kept (log x).fresh (log x) rest (h x ∙ t) ∙ ap (λ (l : List Log). log x ∷ l) ih)
      | inr f ↦ rw f (one_dropped (log x).fresh (log x) rest (h x ∙ f) ∙ ih)
    ]

filter-filter_map : {X Y : Type 0} (p : X → Bool) (q : Y → Bool) (f : X → Option Y) → ((x : X) → AllByRecursion (λ y. q y ≡ p x) (cons_option (f x) [])) → (xs : List X) → filter q (filter_map f xs) ≡ filter_map f (filter p xs)
filter-filter_map p q f h [] = refl
filter-filter_map {X = X} {Y = Y} p q f h (x ∷ xs) = by_value (f x) refl (h x) (p x) refl (filter-filter_map p q f h xs)
  where
    by_value : (o : Option Y) → f x ≡ o → AllByRecursion (λ y. q y ≡ p x) (cons_option o []) → (b : Bool) → p x ≡ b → filter q (filter_map f xs) ≡ filter_map f (filter p xs) → filter q (cons_option o (filter_map f xs)) ≡ filter_map f (cond b (x ∷ filter p xs) (filter p xs))
    by_value None e own true t ih = rw e ih
    by_value None e own false t ih = ih
    by_value (Some y) e own true t ih = let here : q y ≡ true = own.0 ∙ t in rw (e, here) (ap (λ (l : List Y). y ∷ l) ih)
    by_value (Some y) e own false t ih = let here : q y ≡ false = own.0 ∙ t in rw here ih

pub all_logged_fresh : (fresh : Bool) (whats : List LogKind) → AreAll fresh (all_logged fresh whats)
all_logged_fresh fresh [] = tt
all_logged_fresh fresh (what ∷ whats) = (refl, all_logged_fresh fresh whats)

-- ## The chapters

pub program_fresh : (channel : ℕ) (fresh : Bool) (bank : Bank) (event : ProgramEvent) → AreAll fresh (program_said channel fresh bank event)
program_fresh channel fresh bank (programs.Chosen program) = (refl, tt)
program_fresh channel fresh bank (programs.BankHigh value) = tt
program_fresh channel fresh bank (programs.BankLow value) = tt
program_fresh channel fresh bank programs.SetBack = tt
program_fresh channel fresh bank programs.Reset = tt
program_fresh channel fresh bank programs.Other = tt

pub wheel_fresh : (channel : ℕ) (fresh : Bool) (event : WheelEvent) → AreAll fresh (wheel_said channel fresh event)
wheel_fresh channel fresh (wheels.Moved first second) = (refl, tt)
wheel_fresh channel fresh wheels.Cleared = tt
wheel_fresh channel fresh wheels.Other = tt

pub note_fresh : (channel : ℕ) (fresh soon : Bool) (event : NoteEvent) → AreAll fresh (struck_log channel fresh soon event)
note_fresh channel fresh soon (notes.Struck note velocity) = (refl, tt)
note_fresh channel fresh soon (notes.Released note velocity) = tt
note_fresh channel fresh soon notes.Cleared = tt
note_fresh channel fresh soon notes.Other = tt

pub pressure_fresh : (channel : ℕ) (fresh : Bool) (event : PressureEvent) → AreAll fresh (pressure_said channel fresh event)
pressure_fresh channel fresh (pressures.Pressed value) = (refl, tt)
pressure_fresh channel fresh pressures.Cleared = tt
pressure_fresh channel fresh pressures.Other = tt

pub position_fresh : (fresh : Bool) (state : Option SequencerPart) → AreAll fresh (position_said fresh state)
position_fresh fresh None = tt
position_fresh fresh (Some state) = (refl, tt)

pub code_fresh : (fresh : Bool) (state : Option TimePart) → AreAll fresh (code_said fresh state)
code_fresh fresh None = tt
code_fresh fresh (Some state) = (refl, tt)

pub message_fresh : (fresh : Bool) (count : ℕ) (event : SysexEvent) (octets : List ℕ) → AreAll fresh (event_said fresh count event octets)
message_fresh fresh count messages.Kept octets = (refl, tt)
message_fresh fresh count messages.ResetMessage octets = (refl, tt)
message_fresh fresh count messages.Reset octets = tt
message_fresh fresh count messages.Other octets = tt

-- the groups of which the fresh logs are just those
abbrev pub is_exact : Group → Bool
is_exact Programs = true
is_exact Params = false
is_exact Controls = true
is_exact Wheels = true
is_exact Released = false
is_exact Struck = true
is_exact Pressures = true
is_exact Polys = true

module _ (checkpoint last : ℕ) (sent : List Sent) (l : checkpoint ≤ last) where
  abbrev seen : List Sent
  seen = below packet_of (last + 1) sent

  all_seen : AllByRecursion (λ x. packet_of x < last + 1) seen
  all_seen = All-below packet_of (last + 1) sent

  pub places_fresh : (ends : Sent → Sent → Bool) → filter (is_fresh (last + 1)) (coded ends packet_of checkpoint seen) ≡ coded ends packet_of last seen
  places_fresh ends = fresh_coded packet_of ends checkpoint last seen l all_seen

  scanned_fresh : {S : Type 0} (ends : S × Sent → S × Sent → Bool) (step : S → Sent → S) (s : S) →
      filter (λ (place : S × Sent). is_fresh (last + 1) place.1) (coded ends (λ place. packet_of place.1) checkpoint (scanned step s seen)) ≡ coded ends (λ place. packet_of place.1) last (scanned step s seen)
  scanned_fresh ends step s =
      fresh_coded (λ place. packet_of place.1) ends checkpoint last (scanned step s seen) l (AllByRecursion-scanned (λ x. packet_of x < last + 1) step s seen all_seen)

  p_fresh : (channel : ℕ) → fresh_of (p_said channel checkpoint (last + 1) sent) ≡ p_said channel last (last + 1) sent
  unfolding p_said
  p_fresh channel =
      fresh_flat (λ place. is_fresh (last + 1) place.1) (p_place channel (last + 1)) (λ x. program_fresh channel (is_fresh (last + 1) x.1) x.0 (banked_event channel x)) (coded_program channel checkpoint (last + 1) sent)
      ∙ ap (flat_map (p_place channel (last + 1))) (scanned_fresh (program_ends channel) (bank_step channel) no_bank)

  pub c_fresh : (channel : ℕ) → fresh_of (c_said channel checkpoint (last + 1) sent) ≡ c_said channel last (last + 1) sent
  unfolding c_said
  c_fresh channel =
      let list : Sent → List Log = λ place. all_logged (is_fresh (last + 1) place) (c_place channel seen place) in
      fresh_flat (is_fresh (last + 1)) list (λ x. all_logged_fresh (is_fresh (last + 1) x) (c_place channel seen x)) (coded_controls channel checkpoint (last + 1) sent)
      ∙ ap (flat_map list) (places_fresh (control_ends channel))

  w_fresh : (channel : ℕ) → fresh_of (w_said channel checkpoint (last + 1) sent) ≡ w_said channel last (last + 1) sent
  unfolding w_said
  w_fresh channel =
      fresh_flat (is_fresh (last + 1)) (w_place channel (last + 1)) (λ x. wheel_fresh channel (is_fresh (last + 1) x) (wheel_at channel x)) (coded_wheel channel checkpoint (last + 1) sent)
      ∙ ap (flat_map (w_place channel (last + 1))) (places_fresh (wheel_ends channel))

  struck_fresh : (channel tick : ℕ) → fresh_of (struck_logs channel checkpoint (last + 1) tick sent) ≡ struck_logs channel last (last + 1) tick sent
  struck_fresh channel tick =
      fresh_flat (is_fresh (last + 1)) (struck_said channel (last + 1) tick) (λ x. note_fresh channel (is_fresh (last + 1) x) _ (note_at channel x)) (coded_notes channel checkpoint (last + 1) sent)
      ∙ ap (flat_map (struck_said channel (last + 1) tick)) (places_fresh (note_ends channel))

  t_fresh : (channel : ℕ) → fresh_of (t_said channel checkpoint (last + 1) sent) ≡ t_said channel last (last + 1) sent
  unfolding t_said
  t_fresh channel =
      fresh_flat (is_fresh (last + 1)) (t_place channel (last + 1)) (λ x. pressure_fresh channel (is_fresh (last + 1) x) (pressure_at channel x)) (coded_pressure channel checkpoint (last + 1) sent)
      ∙ ap (flat_map (t_place channel (last + 1))) (places_fresh (pressure_ends channel))

  a_fresh : (channel : ℕ) → fresh_of (a_said channel checkpoint (last + 1) sent) ≡ a_said channel last (last + 1) sent
  unfolding a_said
  a_fresh channel =
      let list : Sent → List Log = λ place. all_logged (is_fresh (last + 1) place) (a_place channel place) in
      fresh_flat (is_fresh (last + 1)) list (λ x. all_logged_fresh (is_fresh (last + 1) x) (a_place channel x)) (coded_presses channel checkpoint seen)
      ∙ ap (flat_map list) (places_fresh (poly_ends channel))

  latest_of : (channel : ℕ) (place : Place) → AllByRecursion (λ e. is_fresh (last + 1) e.latest ≡ is_fresh (last + 1) place.1) (cons_option (entered_at channel place) [])
  latest_of channel place = by_param (event_param (entry_at channel place))
    where
      by_param : (o : Option Param) → AllByRecursion (λ e. is_fresh (last + 1) e.latest ≡ is_fresh (last + 1) place.1) (cons_option (entered_by place.1 o) [])
      by_param None = tt
      by_param (Some param) = (refl, tt)

  -- Of parameters those are fresh that were entered in the last packet, each with all its coded halves.
  pub m_fresh : (channel : ℕ) →
      fresh_of (m_said channel checkpoint (last + 1) sent) ≡ map (entered_said channel checkpoint (last + 1) (session_places channel seen)) (entered channel last (session_places channel seen))
  unfolding m_said
  m_fresh channel =
      let places = session_places channel seen in
      let log = entered_said channel checkpoint (last + 1) places in
      fresh_map (λ e. is_fresh (last + 1) e.latest) log (λ e. refl) (entered channel checkpoint places)
      ∙ ap (map log)
      (filter-filter_map (λ place. is_fresh (last + 1) place.1) (λ e. is_fresh (last + 1) e.latest) (entered_at channel) (latest_of channel) (coded (param_ends channel) packet_at checkpoint places)
      ∙ ap (filter_map (entered_at channel)) (scanned_fresh (param_ends channel) (selection_step channel) no_selection))

  -- ## The system chapters

  item_fresh : (item : SystemItem) → filter (is_fresh (last + 1)) (item_coded item checkpoint (last + 1) sent) ≡ item_coded item last (last + 1) sent
  unfolding item_coded
  item_fresh item =
      filter-swap (is_fresh (last + 1)) (is_place_of item) (coded (item_ends item) packet_of checkpoint seen)
      ∙ ap (filter (is_place_of item)) (places_fresh (item_ends item))

  mapped_fresh : (item : SystemItem) (log : Sent → Log) → ((x : Sent) → (log x).fresh ≡ is_fresh (last + 1) x) → fresh_of (map log (item_coded item checkpoint (last + 1) sent)) ≡ map log (item_coded item last (last + 1) sent)
  mapped_fresh item log h = fresh_map (is_fresh (last + 1)) log h (item_coded item checkpoint (last + 1) sent) ∙ ap (map log) (item_fresh item)

  d_fresh : fresh_of (d_said checkpoint (last + 1) sent) ≡ d_said last (last + 1) sent
  unfolding d_said
  d_fresh =
      let split = filter-append (λ (log : Log). log.fresh) in
      let resets = d_place (last + 1) (λ place. kinds.Reset (item_count Reset seen)) in
      let tunes = d_place (last + 1) (λ place. kinds.Tune (item_count Tune seen)) in
      let songs = d_place (last + 1) (λ place. kinds.Song (song_of place.command)) in
      let r = map resets (item_coded Reset checkpoint (last + 1) sent) in
      let t = map tunes (item_coded Tune checkpoint (last + 1) sent) in
      let s = map songs (item_coded Song checkpoint (last + 1) sent) in
      split (r ++ t) s
      ∙ ap (λ (k : List Log). k ++ fresh_of s) (split r t)
      ∙ rw (mapped_fresh Reset resets (λ x. refl), mapped_fresh Tune tunes (λ x. refl), mapped_fresh Song songs (λ x. refl)) refl

  v_fresh : fresh_of (v_said checkpoint (last + 1) sent) ≡ v_said last (last + 1) sent
  unfolding v_said
  v_fresh = mapped_fresh Sensing (λ place. let log : Log = record { fresh = is_fresh (last + 1) place; what = kinds.Sensing (item_count Sensing seen) } in log) (λ x. refl)

  q_fresh : fresh_of (q_said checkpoint (last + 1) sent) ≡ q_said last (last + 1) sent
  unfolding q_said
  q_fresh =
      let list : Sent → List Log = λ place. position_said (is_fresh (last + 1) place) (sequencer_after seen) in
      fresh_flat (is_fresh (last + 1)) list (λ x. position_fresh (is_fresh (last + 1) x) (sequencer_after seen)) (item_coded Sequence checkpoint (last + 1) sent)
      ∙ ap (flat_map list) (item_fresh Sequence)

  f_fresh : fresh_of (f_said checkpoint (last + 1) sent) ≡ f_said last (last + 1) sent
  unfolding f_said
  f_fresh =
      let list : Sent → List Log = λ place. code_said (is_fresh (last + 1) place) (time_code_after seen) in
      fresh_flat (is_fresh (last + 1)) list (λ x. code_fresh (is_fresh (last + 1) x) (time_code_after seen)) (item_coded Frames checkpoint (last + 1) sent)
      ∙ ap (flat_map list) (item_fresh Frames)

  x_fresh : fresh_of (x_said checkpoint (last + 1) sent) ≡ x_said last (last + 1) sent
  unfolding x_said
  x_fresh =
      fresh_flat (λ place. is_fresh (last + 1) place.1) (sysex_said (last + 1)) (λ x. message_fresh (is_fresh (last + 1) x.1) x.0 (message_at x.1) (data_of x.1.command)) (coded_counted checkpoint 0 seen)
      ∙ ap (flat_map (sysex_said (last + 1))) (scanned_fresh counted_ends count_step 0)

  pub system_fresh : fresh_of (system_logs checkpoint (last + 1) sent) ≡ system_logs last (last + 1) sent
  unfolding system_logs
  system_fresh =
      let split = filter-append (λ (log : Log). log.fresh) in
      let d = d_said checkpoint (last + 1) sent in
      let v = v_said checkpoint (last + 1) sent in
      let q = q_said checkpoint (last + 1) sent in
      let f = f_said checkpoint (last + 1) sent in
      let x = x_said checkpoint (last + 1) sent in
      split (d ++ v ++ q ++ f) x
      ∙ rw (split (d ++ v ++ q) f, split (d ++ v) q, split d v, d_fresh, v_fresh, q_fresh, f_fresh, x_fresh) refl

  -- ## The journal

  pub group_fresh : (group : Group) (channel tick : ℕ) → is_exact group ≡ true → fresh_of (group_logs group channel checkpoint (last + 1) tick sent) ≡ group_logs group channel last (last + 1) tick sent
  group_fresh Programs channel tick h = p_fresh channel
  group_fresh Params channel tick h = absurd (let f : false ≡ true = h in cc)
  group_fresh Controls channel tick h = c_fresh channel
  group_fresh Wheels channel tick h = w_fresh channel
  group_fresh Released channel tick h = absurd (let f : false ≡ true = h in cc)
  group_fresh Struck channel tick h = struck_fresh channel tick
  group_fresh Pressures channel tick h = t_fresh channel
  group_fresh Polys channel tick h = a_fresh channel

  -- and of the whole session they are just those, too
  pub session_fresh : (tick : ℕ) → fresh_of (journal_logs checkpoint (last + 1) tick sent) ≡ system_logs last (last + 1) sent ++ fresh_of (channels_logs checkpoint (last + 1) tick sent)
  unfolding journal_logs
  session_fresh tick =
      filter-append (λ (log : Log). log.fresh) (system_logs checkpoint (last + 1) sent) (channels_logs checkpoint (last + 1) tick sent)
      ∙ ap (λ (k : List Log). k ++ fresh_of (channels_logs checkpoint (last + 1) tick sent)) system_fresh

  pub channels_fresh : (tick : ℕ) → AreOfChannels (fresh_of (channels_logs checkpoint (last + 1) tick sent))
  channels_fresh tick =
      AllByRecursion-filter (λ log. is_session log.what ≡ false) (λ log. log.fresh) (channels_logs checkpoint (last + 1) tick sent) (channels_of_channels checkpoint (last + 1) tick sent)

  no_resets : (logs : List Log) → AreOfChannels logs → has_reset logs ≡ false
  no_resets [] h = refl
  no_resets (log ∷ logs) h = rw (no_reset log.what h.0) (no_resets logs h.1)

  -- a reset among the fresh logs is one of that packet
  pub reset_fresh : (tick : ℕ) → has_reset (fresh_of (journal_logs checkpoint (last + 1) tick sent)) ≡ has_reset (journal_logs last (last + 1) tick sent)
  unfolding journal_logs
  reset_fresh tick =
      let test : Log → Bool = λ log. is_reset_log log.what in
      let system = system_logs last (last + 1) sent in
      ap has_reset (session_fresh tick)
      ∙ list_any-append test system (fresh_of (channels_logs checkpoint (last + 1) tick sent))
      ∙ ap (λ b. list_any test system || b) (no_resets (fresh_of (channels_logs checkpoint (last + 1) tick sent)) (channels_fresh tick) ∙ sym (no_resets (channels_logs last (last + 1) tick sent) (channels_of_channels last (last + 1) tick sent)))
      ∙ sym (list_any-append test system (channels_logs last (last + 1) tick sent))
