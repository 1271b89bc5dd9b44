-- The logs of a written journal in the order of repair: the logs of its chapters, one behind the other.
use Rattle.std.proofs.Common.{◌≡◌, ℕ, zero, suc, ◌+◌, ◌<◌, ◌≤◌, Bool, true, false, cond, eqb, List, [], ◌∷◌, ◌++◌, Option, Some, None, refl, sym, ap, ◌∙◌, inl, inr, arith, append-nil}
use Rattle.std.specs.List.{flat_map, filter, range_with_len, AllByRecursion}
use Rattle.std.proofs.lemmas.Bool.{cases_Bool, eqb-true, eq-eqb, ne_eqb}
use Rattle.std.proofs.lemmas.List.Elements.{filter-append}
use Rattle.jm_cmds.specs.declared.history.Sent.{Sent}
use Rattle.jm_cmds.specs.History.{below}
use Rattle.jm_cmds.specs.HistoryLaws.{AllByRecursion-append, AllByRecursion-weaker, filter-swap}
use Rattle.jm_cmds.specs.Control.{is_counted}
use Rattle.jm_cmds.specs.Sent.{packet_of, is_fresh}
use Rattle.ch_voice.specs.ChapterP.{coded_program, banked_event}
use Rattle.ch_voice.specs.declared.events.ProgramEvent.{ProgramEvent}
use Rattle.ch_voice.specs.declared.events.ProgramEvent.TheVariants as programs
use Rattle.ch_voice.specs.ChapterW.{coded_wheel}
use Rattle.ch_voice.specs.WheelEvent.{wheel_at}
use Rattle.ch_voice.specs.declared.events.WheelEvent.{WheelEvent}
use Rattle.ch_voice.specs.declared.events.WheelEvent.TheVariants as wheels
use Rattle.ch_voice.specs.ChapterT.{coded_pressure}
use Rattle.ch_voice.specs.PressureEvent.{pressure_at}
use Rattle.ch_voice.specs.declared.events.PressureEvent.{PressureEvent}
use Rattle.ch_voice.specs.declared.events.PressureEvent.TheVariants as pressures
use Rattle.ch_control.specs.ChapterC.{coded_controls}
use Rattle.ch_control.specs.ControlEvent.{event_at as control_at}
use Rattle.ch_control.specs.declared.events.ControlEvent.{ControlEvent}
use Rattle.ch_control.specs.declared.events.ControlEvent.TheVariants as controls
use Rattle.ch_param.specs.ChapterM.{entered, session_places}
use Rattle.ch_notes.specs.ChapterN.{released, released_fresh, coded_notes}
use Rattle.ch_notes.specs.ChapterA.{coded_presses}
use Rattle.ch_notes.specs.NoteEvent.{event_at as note_at}
use Rattle.ch_notes.specs.PolyEvent.{poly_at}
use Rattle.ch_notes.specs.declared.events.NoteEvent.{NoteEvent}
use Rattle.ch_notes.specs.declared.events.NoteEvent.TheVariants as notes
use Rattle.ch_notes.specs.declared.presses.PolyEvent.{PolyEvent}
use Rattle.ch_notes.specs.declared.presses.PolyEvent.TheVariants as presses
use Rattle.jm_journal.specs.Journal.{channels, channels_from}
use Rattle.jm_reader.specs.declared.logs.Log.{Log}
use Rattle.jm_reader.specs.declared.logs.LogKind.{LogKind}
use Rattle.jm_reader.specs.declared.logs.LogKind.TheVariants as kinds
use Rattle.jm_reader.specs.WrittenP.{p_said, program_said, place_said as p_place, Bank}
use Rattle.jm_reader.specs.WrittenC.{c_said, event_said as control_said, place_said as c_place}
use Rattle.jm_reader.specs.WrittenM.{m_said, entered_said}
use Rattle.jm_reader.specs.WrittenW.{w_said, wheel_said, place_said as w_place}
use Rattle.jm_reader.specs.WrittenN.{n_said, struck_said, struck_log, released_said, released_log, has_note}
use Rattle.jm_reader.specs.WrittenE.{e_said, event_said as extra_said, place_said as e_place, struck_said as count_said, released_said as velocity_said}
use Rattle.ch_notes.specs.ChapterE.{ref_count}
use Rattle.jm_reader.specs.WrittenT.{t_said, pressure_said, place_said as t_place}
use Rattle.jm_reader.specs.WrittenA.{a_said, event_said as poly_said, place_said as a_place}
use Rattle.jm_reader.specs.WrittenListed.{all_logged}
use Rattle.jm_reader.specs.WrittenChannel.{channel_logs}
use Rattle.jm_reader.specs.WrittenSystem.{system_logs}
use Rattle.jm_reader.specs.WrittenJournal.{journal_logs, channels_logs}
use Rattle.jm_receiver.specs.declared.group.Group.{Group}
use Rattle.jm_receiver.specs.declared.group.Group.TheVariants.{Programs, Params, Controls, Wheels, Released, Struck, Pressures, Polys}
use Rattle.jm_receiver.specs.Group.{is_of, all_groups}
use Rattle.jm_receiver.specs.Order.{of_group, in_order, tag, is_tagged, is_of-tag}
use Rattle.jm_receiver.specs.SystemLogs.{AreUntagged, system_untagged, all_flat, all_map}

-- the released notes of a channel that a journal codes
abbrev pub released_logs : (channel checkpoint packet tick : ℕ) → List Sent → List Log
released_logs channel checkpoint packet tick sent =
    released_said channel (released_fresh channel packet (coded_notes channel checkpoint packet sent)) (released channel (coded_notes channel checkpoint packet sent))

-- and the struck ones
abbrev pub struck_logs : (channel checkpoint packet tick : ℕ) → List Sent → List Log
struck_logs channel checkpoint packet tick sent = flat_map (struck_said channel packet tick) (coded_notes channel checkpoint packet sent)

-- the logs of each group in the journal of a packet: its chapter's, but that Chapter N has the released notes and the struck ones
abbrev pub group_logs : Group → (channel checkpoint packet tick : ℕ) → List Sent → List Log
group_logs Programs channel checkpoint packet tick sent = p_said channel checkpoint packet sent
group_logs Params channel checkpoint packet tick sent = m_said channel checkpoint packet sent
group_logs Controls channel checkpoint packet tick sent = c_said channel checkpoint packet sent
group_logs Wheels channel checkpoint packet tick sent = w_said channel checkpoint packet sent
group_logs Released channel checkpoint packet tick sent = released_logs channel checkpoint packet tick sent
group_logs Struck channel checkpoint packet tick sent = struck_logs channel checkpoint packet tick sent
group_logs Pressures channel checkpoint packet tick sent = t_said channel checkpoint packet sent
group_logs Polys channel checkpoint packet tick sent = a_said channel checkpoint packet sent

-- ## What the logs of a chapter are of

abbrev AreTagged : Group → ℕ → List Log → Type 0
AreTagged group channel logs = AllByRecursion (λ log. tag log.what ≡ Some (group, channel)) logs

all_logs : (P : Log → Type 0) (fresh : Bool) (whats : List LogKind) → AllByRecursion (λ what. P (record { fresh = fresh; what = what })) whats → AllByRecursion P (all_logged fresh whats)
all_logs P fresh [] h = tt
all_logs P fresh (what ∷ whats) h = (h.0, all_logs P fresh whats h.1)

program_tagged : (channel : ℕ) (fresh : Bool) (bank : Bank) (event : ProgramEvent) → AreTagged Programs channel (program_said channel fresh bank event)
program_tagged channel fresh bank (programs.Chosen program) = (refl, tt)
program_tagged channel fresh bank (programs.BankHigh value) = tt
program_tagged channel fresh bank (programs.BankLow value) = tt
program_tagged channel fresh bank programs.SetBack = tt
program_tagged channel fresh bank programs.Reset = tt
program_tagged channel fresh bank programs.Other = tt

p_tagged : (channel checkpoint packet : ℕ) (sent : List Sent) → AreTagged Programs channel (p_said channel checkpoint packet sent)
unfolding p_said
p_tagged channel checkpoint packet sent =
    all_flat (λ log. tag log.what ≡ Some (Programs, channel)) (p_place channel packet) (λ x. program_tagged channel (is_fresh packet x.1) x.0 (banked_event channel x)) (coded_program channel checkpoint packet sent)

value_tagged : (b : Bool) (channel number count value : ℕ) → tag (cond b (kinds.Count channel number count) (kinds.Control channel number value)) ≡ Some (Controls, channel)
value_tagged true channel number count value = refl
value_tagged false channel number count value = refl

control_tagged : (channel : ℕ) (session : List Sent) (event : ControlEvent) → AllByRecursion (λ what. tag what ≡ Some (Controls, channel)) (control_said channel session event)
control_tagged channel session (controls.Set number value) =
    elim (cases_Bool (eqb number 64)) [
      | inl t ↦ rw t (value_tagged (is_counted number) channel number _ value, (refl, tt))
      | inr f ↦ rw f (value_tagged (is_counted number) channel number _ value, tt)
    ]
control_tagged channel session controls.Dropped = tt
control_tagged channel session controls.Other = tt

c_tagged : (channel checkpoint packet : ℕ) (sent : List Sent) → AreTagged Controls channel (c_said channel checkpoint packet sent)
unfolding c_said
c_tagged channel checkpoint packet sent =
    let session = below packet_of packet sent in
    all_flat (λ log. tag log.what ≡ Some (Controls, channel)) (λ place. all_logged (is_fresh packet place) (c_place channel session place))
    (λ x. all_logs (λ log. tag log.what ≡ Some (Controls, channel)) (is_fresh packet x) (c_place channel session x) (control_tagged channel session (control_at channel x)))
    (coded_controls channel checkpoint packet sent)

m_tagged : (channel checkpoint packet : ℕ) (sent : List Sent) → AreTagged Params channel (m_said channel checkpoint packet sent)
unfolding m_said
m_tagged channel checkpoint packet sent =
    let places = session_places channel (below packet_of packet sent) in
    all_map (λ log. tag log.what ≡ Some (Params, channel)) (entered_said channel checkpoint packet places) (λ e. refl) (entered channel checkpoint places)

wheel_tagged : (channel : ℕ) (fresh : Bool) (event : WheelEvent) → AreTagged Wheels channel (wheel_said channel fresh event)
wheel_tagged channel fresh (wheels.Moved first second) = (refl, tt)
wheel_tagged channel fresh wheels.Cleared = tt
wheel_tagged channel fresh wheels.Other = tt

w_tagged : (channel checkpoint packet : ℕ) (sent : List Sent) → AreTagged Wheels channel (w_said channel checkpoint packet sent)
unfolding w_said
w_tagged channel checkpoint packet sent =
    all_flat (λ log. tag log.what ≡ Some (Wheels, channel)) (w_place channel packet) (λ x. wheel_tagged channel (is_fresh packet x) (wheel_at channel x)) (coded_wheel channel checkpoint packet sent)

released_tagged : (channel checkpoint packet tick : ℕ) (sent : List Sent) → AreTagged Released channel (released_logs channel checkpoint packet tick sent)
unfolding released_said
released_tagged channel checkpoint packet tick sent =
    let places = coded_notes channel checkpoint packet sent in
    all_flat (λ log. tag log.what ≡ Some (Released, channel)) (released_log channel (released_fresh channel packet places) (released channel places))
    (λ n. elim (cases_Bool (has_note (released channel places) n)) [ inl t ↦ rw t (refl, tt) | inr f ↦ rw f tt ]) (range_with_len 0 128)

note_tagged : (channel : ℕ) (fresh soon : Bool) (event : NoteEvent) → AreTagged Struck channel (struck_log channel fresh soon event)
note_tagged channel fresh soon (notes.Struck note velocity) = (refl, tt)
note_tagged channel fresh soon (notes.Released note velocity) = tt
note_tagged channel fresh soon notes.Cleared = tt
note_tagged channel fresh soon notes.Other = tt

struck_tagged : (channel checkpoint packet tick : ℕ) (sent : List Sent) → AreTagged Struck channel (struck_logs channel checkpoint packet tick sent)
struck_tagged channel checkpoint packet tick sent =
    all_flat (λ log. tag log.what ≡ Some (Struck, channel)) (struck_said channel packet tick) (λ x. note_tagged channel (is_fresh packet x) _ (note_at channel x)) (coded_notes channel checkpoint packet sent)

pressure_tagged : (channel : ℕ) (fresh : Bool) (event : PressureEvent) → AreTagged Pressures channel (pressure_said channel fresh event)
pressure_tagged channel fresh (pressures.Pressed value) = (refl, tt)
pressure_tagged channel fresh pressures.Cleared = tt
pressure_tagged channel fresh pressures.Other = tt

t_tagged : (channel checkpoint packet : ℕ) (sent : List Sent) → AreTagged Pressures channel (t_said channel checkpoint packet sent)
unfolding t_said
t_tagged channel checkpoint packet sent =
    all_flat (λ log. tag log.what ≡ Some (Pressures, channel)) (t_place channel packet) (λ x. pressure_tagged channel (is_fresh packet x) (pressure_at channel x)) (coded_pressure channel checkpoint packet sent)

poly_tagged : (channel : ℕ) (event : PolyEvent) → AllByRecursion (λ what. tag what ≡ Some (Polys, channel)) (poly_said channel event)
poly_tagged channel (presses.Pressed note value) = (refl, tt)
poly_tagged channel presses.Dropped = tt
poly_tagged channel presses.Other = tt

a_tagged : (channel checkpoint packet : ℕ) (sent : List Sent) → AreTagged Polys channel (a_said channel checkpoint packet sent)
unfolding a_said
a_tagged channel checkpoint packet sent =
    all_flat (λ log. tag log.what ≡ Some (Polys, channel)) (λ place. all_logged (is_fresh packet place) (a_place channel place))
    (λ x. all_logs (λ log. tag log.what ≡ Some (Polys, channel)) (is_fresh packet x) (a_place channel x) (poly_tagged channel (poly_at channel x)))
    (coded_presses channel checkpoint (below packet_of packet sent))

abbrev is_extra : LogKind → Bool
is_extra (kinds.Extra channel note release value) = true
is_extra log = false

abbrev AreExtras : List LogKind → Type 0
AreExtras whats = AllByRecursion (λ what. is_extra what ≡ true) whats

count_extra : (channel note count : ℕ) → AreExtras (count_said channel note count)
count_extra channel note count = elim (cases_Bool (eqb count 1)) [ inl t ↦ rw t tt | inr f ↦ rw f (refl, tt) ]

velocity_extra : (channel note velocity count : ℕ) → AreExtras (velocity_said channel note velocity count)
velocity_extra channel note velocity count =
    elim (cases_Bool (eqb count 0)) [
      | inl t ↦ elim (cases_Bool (eqb velocity 64)) [ inl v ↦ rw (t, v) tt | inr w ↦ rw (t, w) (refl, tt) ]
      | inr f ↦ rw f (refl, tt)
    ]

extra_event : (channel : ℕ) (session : List Sent) (event : NoteEvent) → AreExtras (extra_said channel session event)
extra_event channel session (notes.Struck note velocity) = count_extra channel note (ref_count channel note session)
extra_event channel session (notes.Released note velocity) = velocity_extra channel note velocity (ref_count channel note session)
extra_event channel session notes.Cleared = tt
extra_event channel session notes.Other = tt

e_extra : (channel checkpoint packet : ℕ) (sent : List Sent) → AllByRecursion (λ log. is_extra log.what ≡ true) (e_said channel checkpoint packet sent)
unfolding e_said
e_extra channel checkpoint packet sent =
    let session = below packet_of packet sent in
    all_flat (λ log. is_extra log.what ≡ true) (λ place. all_logged (is_fresh packet place) (e_place channel session place))
    (λ x. all_logs (λ log. is_extra log.what ≡ true) (is_fresh packet x) (e_place channel session x) (extra_event channel session (note_at channel x)))
    (coded_notes channel checkpoint packet sent)

extra_tag : (log : LogKind) → is_extra log ≡ true → tag log ≡ None
extra_tag (kinds.Extra channel note release value) h = refl
extra_tag log h = absurd (let f : false ≡ true = h in cc)

e_untagged : (channel checkpoint packet : ℕ) (sent : List Sent) → AreUntagged (e_said channel checkpoint packet sent)
e_untagged channel checkpoint packet sent =
    AllByRecursion-weaker (λ log. is_extra log.what ≡ true) (λ log. tag log.what ≡ None) (λ log h. extra_tag log.what h) (e_said channel checkpoint packet sent) (e_extra channel checkpoint packet sent)

-- ## The logs of a channel

untagged_none : (group : Group) (channel : ℕ) (logs : List Log) → AreUntagged logs → of_group group channel logs ≡ []
untagged_none group channel [] h = refl
untagged_none group channel (log ∷ more) h =
    let none : is_of group channel log.what ≡ false = is_of-tag group channel log.what ∙ ap (is_tagged group channel) h.0 in
    rw none (untagged_none group channel more h.1)

tagged_all : (group own : Group) (channel at : ℕ) (logs : List Log) → AreTagged own at logs → of_group group channel logs ≡ cond (is_tagged group channel (Some (own, at))) logs []
tagged_all group own channel at [] h = elim (cases_Bool (is_tagged group channel (Some (own, at)))) [ inl t ↦ rw t refl | inr f ↦ rw f refl ]
tagged_all group own channel at (log ∷ more) h =
    let here : is_of group channel log.what ≡ is_tagged group channel (Some (own, at)) = is_of-tag group channel log.what ∙ ap (is_tagged group channel) h.0 in
    let ih = tagged_all group own channel at more h.1 in
    elim (cases_Bool (is_tagged group channel (Some (own, at)))) [
      | inl t ↦ let is : is_of group channel log.what ≡ true = here ∙ t in rw (is, t) (ap (λ (l : List Log). log ∷ l) (rw t at ih))
      | inr f ↦ let isnt : is_of group channel log.what ≡ false = here ∙ f in rw (isnt, f) (rw f at ih)
    ]

of_group-append : (group : Group) (channel : ℕ) (a b : List Log) → of_group group channel (a ++ b) ≡ of_group group channel a ++ of_group group channel b
of_group-append group channel a b = filter-append (λ log. is_of group channel log.what) a b

-- of a channel's logs, those of one group
module _ (group : Group) (channel at checkpoint packet tick : ℕ) (sent : List Sent) where
  abbrev those : List Log → List Log
  those logs = of_group group channel logs

  abbrev kept : Group → List Log
  kept own = cond (is_tagged group channel (Some (own, at))) (group_logs own at checkpoint packet tick sent) []

  by_groups : those (channel_logs checkpoint packet tick sent at) ≡ kept Programs ++ kept Controls ++ kept Params ++ kept Wheels ++ (kept Released ++ kept Struck) ++ [] ++ kept Pressures ++ kept Polys
  unfolding channel_logs n_said
  by_groups =
      let p = p_said at checkpoint packet sent in
      let c = c_said at checkpoint packet sent in
      let m = m_said at checkpoint packet sent in
      let w = w_said at checkpoint packet sent in
      let r = released_logs at checkpoint packet tick sent in
      let s = struck_logs at checkpoint packet tick sent in
      let e = e_said at checkpoint packet sent in
      let t = t_said at checkpoint packet sent in
      let a = a_said at checkpoint packet sent in
      let split = of_group-append group channel in
      split (p ++ c ++ m ++ w ++ (r ++ s) ++ e ++ t) a
      ∙ rw (
        split (p ++ c ++ m ++ w ++ (r ++ s) ++ e) t,
        split (p ++ c ++ m ++ w ++ (r ++ s)) e,
        split (p ++ c ++ m ++ w) (r ++ s),
        split r s,
        split (p ++ c ++ m) w,
        split (p ++ c) m,
        split p c,
        tagged_all group Programs channel at p (p_tagged at checkpoint packet sent),
        tagged_all group Controls channel at c (c_tagged at checkpoint packet sent),
        tagged_all group Params channel at m (m_tagged at checkpoint packet sent),
        tagged_all group Wheels channel at w (w_tagged at checkpoint packet sent),
        tagged_all group Released channel at r (released_tagged at checkpoint packet tick sent),
        tagged_all group Struck channel at s (struck_tagged at checkpoint packet tick sent),
        untagged_none group channel e (e_untagged at checkpoint packet sent),
        tagged_all group Pressures channel at t (t_tagged at checkpoint packet sent),
        tagged_all group Polys channel at a (a_tagged at checkpoint packet sent),
      ) refl

  -- one of them is left
  abbrev all_kept : List Log
  all_kept = kept Programs ++ kept Controls ++ kept Params ++ kept Wheels ++ (kept Released ++ kept Struck) ++ [] ++ kept Pressures ++ kept Polys

one_left : (group : Group) (channel at checkpoint packet tick : ℕ) (sent : List Sent) →
    all_kept group channel at checkpoint packet tick sent ≡ cond (eqb at channel) (group_logs group at checkpoint packet tick sent) []
one_left Programs channel at checkpoint packet tick sent = elim (cases_Bool (eqb at channel)) [ inl t ↦ rw t (simp append-nil) | inr f ↦ rw f refl ]
one_left Params channel at checkpoint packet tick sent = elim (cases_Bool (eqb at channel)) [ inl t ↦ rw t (simp append-nil) | inr f ↦ rw f refl ]
one_left Controls channel at checkpoint packet tick sent = elim (cases_Bool (eqb at channel)) [ inl t ↦ rw t (simp append-nil) | inr f ↦ rw f refl ]
one_left Wheels channel at checkpoint packet tick sent = elim (cases_Bool (eqb at channel)) [ inl t ↦ rw t (simp append-nil) | inr f ↦ rw f refl ]
one_left Released channel at checkpoint packet tick sent = elim (cases_Bool (eqb at channel)) [ inl t ↦ rw t (simp append-nil) | inr f ↦ rw f refl ]
one_left Struck channel at checkpoint packet tick sent = elim (cases_Bool (eqb at channel)) [ inl t ↦ rw t (simp append-nil) | inr f ↦ rw f refl ]
one_left Pressures channel at checkpoint packet tick sent = elim (cases_Bool (eqb at channel)) [ inl t ↦ rw t (simp append-nil) | inr f ↦ rw f refl ]
one_left Polys channel at checkpoint packet tick sent = elim (cases_Bool (eqb at channel)) [ inl t ↦ rw t (refl) | inr f ↦ rw f refl ]

-- ## The logs of the journal

pub filter-flat : {X : Type 0} (p : Log → Bool) (list : X → List Log) (xs : List X) → filter p (flat_map list xs) ≡ flat_map (λ x. filter p (list x)) xs
filter-flat p list [] = refl
filter-flat p list (x ∷ xs) = filter-append p (list x) (flat_map list xs) ∙ ap (λ (l : List Log). filter p (list x) ++ l) (filter-flat p list xs)

pub flat-same : {X : Type 0} (a b : X → List Log) → ((x : X) → a x ≡ b x) → (xs : List X) → flat_map a xs ≡ flat_map b xs
flat-same a b h [] = refl
flat-same a b h (x ∷ xs) = ap (λ (l : List Log). l ++ flat_map a xs) (h x) ∙ ap (λ (l : List Log). b x ++ l) (flat-same a b h xs)

-- where only one number has logs
module _ (logs : ℕ → List Log) (k : ℕ) where
  abbrev only : ℕ → List Log
  only n = cond (eqb n k) (logs n) []

  above : (first n : ℕ) → k < first → flat_map only (range_with_len first n) ≡ []
  above first zero l = refl
  above first (suc n) l =
      let apart : eqb first k ≡ false = ne_eqb first k (λ e. omega (arith, e, l)) in
      rw apart (above (first + 1) n (omega (arith, l)))

  pub among : (first n : ℕ) → first ≤ k → k < first + n → flat_map only (range_with_len first n) ≡ logs k
  among first zero l u = absurd (omega (arith, l, u))
  among first (suc n) l u =
      elim (cases_Bool (eqb first k)) [
        | inl t ↦
            let same : first ≡ k = eqb-true first k t in
            rw (t, above (first + 1) n (omega (arith, same))) (append-nil (logs first) ∙ ap logs same)
        | inr f ↦
            let apart : first ≡ k → ⊥ = λ e. (let t : eqb first k ≡ true = eq-eqb first k e in let b : true ≡ false = sym t ∙ f in cc) in
            rw f (among (first + 1) n (omega (arith, l, apart)) (omega (arith, u)))
      ]

-- Of all logs of a journal, those of a group of a channel are the chapter's logs.
pub group_of_journal : (group : Group) (channel checkpoint packet tick : ℕ) (sent : List Sent) → channel < 16 →
    of_group group channel (journal_logs checkpoint packet tick sent) ≡ group_logs group channel checkpoint packet tick sent
unfolding journal_logs channels_from
group_of_journal group channel checkpoint packet tick sent l =
    of_group-append group channel (system_logs checkpoint packet sent) (channels_logs checkpoint packet tick sent)
    ∙ rw (untagged_none group channel (system_logs checkpoint packet sent) (system_untagged checkpoint packet sent))
    (filter-flat (λ log. is_of group channel log.what) (channel_logs checkpoint packet tick sent) channels
    ∙ flat-same (λ at. of_group group channel (channel_logs checkpoint packet tick sent at)) (λ at. cond (eqb at channel) (group_logs group at checkpoint packet tick sent) [])
    (λ at. by_groups group channel at checkpoint packet tick sent ∙ one_left group channel at checkpoint packet tick sent) channels
    ∙ among (λ at. group_logs group at checkpoint packet tick sent) channel 0 16 (omega arith) (omega (arith, l)))

-- The logs of a written journal in the order of repair are the logs of its chapters, one behind the other.
pub in_order_of_journal : (channel checkpoint packet tick : ℕ) (sent : List Sent) → channel < 16 →
    in_order channel (journal_logs checkpoint packet tick sent) ≡ flat_map (λ group. group_logs group channel checkpoint packet tick sent) all_groups
unfolding in_order
in_order_of_journal channel checkpoint packet tick sent l =
    flat-same (λ group. of_group group channel (journal_logs checkpoint packet tick sent)) (λ group. group_logs group channel checkpoint packet tick sent)
    (λ group. group_of_journal group channel checkpoint packet tick sent l) all_groups

-- and so are the fresh ones
pub in_order_of_fresh : (channel checkpoint packet tick : ℕ) (sent : List Sent) → channel < 16 →
    in_order channel (filter (λ log. log.fresh) (journal_logs checkpoint packet tick sent)) ≡ flat_map (λ group. filter (λ log. log.fresh) (group_logs group channel checkpoint packet tick sent)) all_groups
unfolding in_order
in_order_of_fresh channel checkpoint packet tick sent l =
    flat-same (λ group. of_group group channel (filter (λ log. log.fresh) (journal_logs checkpoint packet tick sent))) (λ group. filter (λ log. log.fresh) (group_logs group channel checkpoint packet tick sent))
    (λ group. filter-swap (λ log. is_of group channel log.what) (λ log. log.fresh) (journal_logs checkpoint packet tick sent)
    ∙ ap (filter (λ log. log.fresh)) (group_of_journal group channel checkpoint packet tick sent l)) all_groups

-- ## What is of no channel

-- whether a log is of the whole session
abbrev pub is_session : LogKind → Bool
is_session (kinds.Reset count) = true
is_session (kinds.Tune count) = true
is_session (kinds.Song song) = true
is_session (kinds.Sensing count) = true
is_session (kinds.Sequencer running downbeat position) = true
is_session (kinds.TimeCode complete partial backward point) = true
is_session (kinds.Sysex count octets) = true
is_session log = false

abbrev pub AreOfChannels : List Log → Type 0
AreOfChannels logs = AllByRecursion (λ log. is_session log.what ≡ false) logs

abbrev is_tag : Option (Group × ℕ) → Bool
is_tag None = false
is_tag (Some t) = true

tagged_channel : (log : LogKind) → is_tag (tag log) ≡ true → is_session log ≡ false
tagged_channel (kinds.Program channel program bank) h = refl
tagged_channel (kinds.Param channel nrpn high low entry_high entry_low) h = refl
tagged_channel (kinds.Control channel number value) h = refl
tagged_channel (kinds.Toggle channel count) h = refl
tagged_channel (kinds.Count channel number count) h = refl
tagged_channel (kinds.Wheel channel first second) h = refl
tagged_channel (kinds.NoteOff channel note) h = refl
tagged_channel (kinds.NoteOn channel note velocity soon) h = refl
tagged_channel (kinds.Pressure channel value) h = refl
tagged_channel (kinds.Poly channel note value) h = refl
tagged_channel log h = absurd (let f : false ≡ true = h in cc)

extra_channel : (log : LogKind) → is_extra log ≡ true → is_session log ≡ false
extra_channel (kinds.Extra channel note release value) h = refl
extra_channel log h = absurd (let f : false ≡ true = h in cc)

of_channel : (group : Group) (channel : ℕ) (logs : List Log) → AreTagged group channel logs → AreOfChannels logs
of_channel group channel logs h =
    AllByRecursion-weaker (λ log. tag log.what ≡ Some (group, channel)) (λ log. is_session log.what ≡ false) (λ log e. tagged_channel log.what (ap is_tag e)) logs h

pub channels_of_channels : (checkpoint packet tick : ℕ) (sent : List Sent) → AreOfChannels (channels_logs checkpoint packet tick sent)
unfolding channel_logs n_said
channels_of_channels checkpoint packet tick sent = all_flat (λ log. is_session log.what ≡ false) (channel_logs checkpoint packet tick sent) one channels
  where
    one : (at : ℕ) → AreOfChannels (channel_logs checkpoint packet tick sent at)
    one at =
        let joined = AllByRecursion-append (λ (log : Log). is_session log.what ≡ false) in
        let p = p_said at checkpoint packet sent in
        let c = c_said at checkpoint packet sent in
        let m = m_said at checkpoint packet sent in
        let w = w_said at checkpoint packet sent in
        let r = released_logs at checkpoint packet tick sent in
        let s = struck_logs at checkpoint packet tick sent in
        let e = e_said at checkpoint packet sent in
        let t = t_said at checkpoint packet sent in
        let a = a_said at checkpoint packet sent in
        let extras = AllByRecursion-weaker (λ (log : Log). is_extra log.what ≡ true) (λ log. is_session log.what ≡ false) (λ log h. extra_channel log.what h) e (e_extra at checkpoint packet sent) in
        joined (p ++ c ++ m ++ w ++ (r ++ s) ++ e ++ t) a
        (joined (p ++ c ++ m ++ w ++ (r ++ s) ++ e) t
        (joined (p ++ c ++ m ++ w ++ (r ++ s)) e
        (joined (p ++ c ++ m ++ w) (r ++ s)
        (joined (p ++ c ++ m) w (joined (p ++ c) m (joined p c (of_channel Programs at p (p_tagged at checkpoint packet sent)) (of_channel Controls at c (c_tagged at checkpoint packet sent))) (of_channel Params at m (m_tagged at checkpoint packet sent))) (of_channel Wheels at w (w_tagged at checkpoint packet sent)))
        (joined r s (of_channel Released at r (released_tagged at checkpoint packet tick sent)) (of_channel Struck at s (struck_tagged at checkpoint packet tick sent))))
        extras)
        (of_channel Pressures at t (t_tagged at checkpoint packet sent)))
        (of_channel Polys at a (a_tagged at checkpoint packet sent))

-- the logs of a group are of it and its channel
pub group_tagged : (group : Group) (channel checkpoint packet tick : ℕ) (sent : List Sent) → AllByRecursion (λ log. tag log.what ≡ Some (group, channel)) (group_logs group channel checkpoint packet tick sent)
group_tagged Programs channel checkpoint packet tick sent = p_tagged channel checkpoint packet sent
group_tagged Params channel checkpoint packet tick sent = m_tagged channel checkpoint packet sent
group_tagged Controls channel checkpoint packet tick sent = c_tagged channel checkpoint packet sent
group_tagged Wheels channel checkpoint packet tick sent = w_tagged channel checkpoint packet sent
group_tagged Released channel checkpoint packet tick sent = released_tagged channel checkpoint packet tick sent
group_tagged Struck channel checkpoint packet tick sent = struck_tagged channel checkpoint packet tick sent
group_tagged Pressures channel checkpoint packet tick sent = t_tagged channel checkpoint packet sent
group_tagged Polys channel checkpoint packet tick sent = a_tagged channel checkpoint packet sent
