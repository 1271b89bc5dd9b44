-- The law of repair after one lost packet, by the fresh logs alone.
use Rattle.std.proofs.Common.{◌≡◌, ℕ, ◌+◌, ◌<◌, ◌≤◌, Bool, true, false, cond, ◌&&◌, ◌||◌, eqb, List, [], ◌∷◌, Option, Some, None, fold, refl, sym, ap, ◌∙◌, ◌⊎◌, inl, inr, arith}
use Rattle.std.specs.List.{flat_map, list_any, filter, range_with_len}
use Rattle.std.proofs.lemmas.Bool.{cases_Bool}
use Rattle.std.proofs.lemmas.List.Sums.{fold-append}
use Rattle.jm_cmds.specs.declared.history.Sent.{Sent}
use Rattle.jm_cmds.specs.declared.pedal.Pedal.{Pedal}
use Rattle.jm_cmds.specs.declared.selection.ParamCommand.{ParamCommand}
use Rattle.jm_cmds.specs.declared.selection.Selection.{Selection}
use Rattle.jm_cmds.specs.History.{below, InOrder, Unended}
use Rattle.jm_cmds.specs.HistoryLaws.{AllByRecursion-weaker, AllByRecursion-filter, Unended-coded, filter-swap, any_weaker}
use Rattle.jm_cmds.specs.Sent.{packet_of, is_fresh}
use Rattle.ch_notes.specs.declared.events.NoteEvent.{NoteEvent}
use Rattle.ch_notes.specs.declared.events.NoteEvent.TheVariants as notes
use Rattle.ch_notes.specs.ChapterN.{is_released, released, released_fresh, coded_notes}
use Rattle.ch_notes.specs.NoteEvent.{event_at, event_ends, note_ends}
use Rattle.ch_sysex.specs.Limits.{sysex_logs-later}
use Rattle.jm_state.specs.declared.state.State.{State}
use Rattle.jm_state.specs.Parts.{no_state, song_of, sequencer_of, time_code_of, program_of, control_of, toggles_of, pedal_of, selection_of, wheel_of, note_of, pressure_of, poly_of, sysex_count_of}
use Rattle.jm_state.specs.Apply.{sounding}
use Rattle.jm_state.specs.Says.{said, ended}
use Rattle.jm_state.specs.Kept.{IsState}
use Rattle.jm_state.specs.KeptLaws.{no_state_is}
use Rattle.jm_state.specs.Replay.{over}
use Rattle.jm_state.specs.ReplayLaws.{state_behind, behind_is}
use Rattle.jm_state.specs.Final.{final, speaks, silent, final-append, final-flat_map, final-filter, final-none, final-same}
use Rattle.jm_reader.specs.declared.logs.Log.{Log}
use Rattle.jm_reader.specs.declared.logs.LogKind.{LogKind}
use Rattle.jm_reader.specs.declared.logs.LogKind.TheVariants as kinds
use Rattle.jm_reader.specs.WrittenN.{released_said, released_log, has_note}
use Rattle.jm_reader.specs.WrittenSystem.{system_logs}
use Rattle.jm_reader.specs.WrittenJournal.{journal_logs, channels_logs}
use Rattle.jm_receiver.specs.declared.group.Group.{Group}
use Rattle.jm_receiver.specs.declared.group.Group.TheVariants.{Params, Controls, Released}
use Rattle.jm_receiver.specs.Group.{is_of, all_groups}
use Rattle.jm_receiver.specs.Repair.{has_reset, cleared, counts, with_message, messages_repaired, with_session_log, session_repaired, repaired}
use Rattle.jm_receiver.specs.Order.{of_group, in_order, tag, IsPart, log_says, part_repaired}
use Rattle.jm_receiver.specs.Chapters.{group_logs, group_tagged, group_of_journal, in_order_of_journal, in_order_of_fresh, is_session, AreOfChannels, channels_of_channels, released_logs, struck_logs}
use Rattle.jm_receiver.specs.SystemLogs.{all_flat}
use Rattle.jm_receiver.specs.Repairs.{Repairs, group_silent, groups_heard}
use Rattle.jm_receiver.specs.Resets.{any-filter, any-none}
use Rattle.jm_receiver.specs.Session.{IsSessionPart, session_part, system_heard, session_stays}
use Rattle.jm_receiver.specs.KnownLaw.{later_none, sequencer_log_says, sequencer_is, sequencer_repaired, time_log_says, time_is, time_code_repaired}
use Rattle.jm_receiver.specs.ProgramLaw.{program_groups, program_log_says, program_is, program_repaired}
use Rattle.jm_receiver.specs.ControlLaw.{control_groups, control_log_says, control_is, control_repaired}
use Rattle.jm_receiver.specs.ToggleLaw.{pedal_logged, pedal_repaired, toggles_repaired}
use Rattle.jm_receiver.specs.SelectionLaw.{Key, selection_groups, key_log_says, key_is, key_repaired, half_in, half_says, half_key, kind_in, kind_says, kind_key, same_selection}
use Rattle.jm_receiver.specs.WheelLaw.{wheel_groups, wheel_log_says, wheel_is, wheel_repaired}
use Rattle.jm_receiver.specs.NoteLaw.{note_groups, note_log_says, note_is, note_repaired, releases, strikes, released_list, any-filter_map, struck_heard, struck_ended, two_notes, spoken}
use Rattle.jm_receiver.specs.PressureLaw.{pressure_groups, pressure_log_says, pressure_is, pressure_repaired}
use Rattle.jm_receiver.specs.PolyLaw.{poly_groups, poly_log_says, poly_is, poly_repaired}
use Rattle.jm_receiver.specs.SongLaw.{song_log_says, song_is, song_repaired}
use Rattle.jm_receiver.specs.Laws.{FreshLogsRepair}
use Rattle.jm_receiver.specs.MessageLaw.{number_of_messages_repaired}
use Rattle.jm_receiver.specs.FreshParams.{param_by_fresh}
use Rattle.jm_receiver.specs.FreshLogs.{fresh_of, FreshRepairs, FreshRepairsCommands, FreshRepairsMessages, kept, is_exact, places_fresh, c_fresh, group_fresh, session_fresh, channels_fresh, reset_fresh}

-- ## A part of a channel

module _ {V : Type 0} (channel : ℕ) (groups : Group → Bool) (part : State → Option V) (says : LogKind → Option (Option V)) (is_part : IsPart channel groups part says) (checkpoint last tick : ℕ) (sent : List Sent) (early : checkpoint ≤ last) where
  -- what a group's fresh logs say, and what those of a journal say that has the last packet as its checkpoint
  abbrev fresh_say : Group → Option (Option V)
  fresh_say group = final (log_says says) (fresh_of (group_logs group channel checkpoint (last + 1) tick sent))

  abbrev last_say : Group → Option (Option V)
  last_say group = final (log_says says) (group_logs group channel last (last + 1) tick sent)

  fresh_silent : (group : Group) → groups group ≡ false → fresh_say group ≡ None
  fresh_silent group none =
      group_silent channel groups part says is_part group none (fresh_of (group_logs group channel checkpoint (last + 1) tick sent))
      (AllByRecursion-filter (λ log. tag log.what ≡ Some (group, channel)) (λ log. log.fresh) (group_logs group channel checkpoint (last + 1) tick sent) (group_tagged group channel checkpoint (last + 1) tick sent))

  last_silent : (group : Group) → groups group ≡ false → last_say group ≡ None
  last_silent group none = group_silent channel groups part says is_part group none (group_logs group channel last (last + 1) tick sent) (group_tagged group channel last (last + 1) tick sent)

  pub exact_same : ((group : Group) → groups group ≡ true → is_exact group ≡ true) → (group : Group) → groups group ≡ true → fresh_say group ≡ last_say group
  exact_same exact group g = ap (final (log_says says)) (group_fresh checkpoint last sent early group channel tick (exact group g))

  fresh_heard : channel < 16 → final (log_says says) (in_order channel (fresh_of (journal_logs checkpoint (last + 1) tick sent))) ≡ final fresh_say all_groups
  fresh_heard l =
      ap (final (log_says says)) (in_order_of_fresh channel checkpoint (last + 1) tick sent l)
      ∙ final-flat_map (log_says says) (λ group. fresh_of (group_logs group channel checkpoint (last + 1) tick sent)) all_groups

  heard_same : channel < 16 → ((group : Group) → groups group ≡ true → fresh_say group ≡ last_say group) →
      final (log_says says) (in_order channel (fresh_of (journal_logs checkpoint (last + 1) tick sent))) ≡ final (log_says says) (in_order channel (journal_logs last (last + 1) tick sent))
  heard_same l same =
      fresh_heard l
      ∙ final-same fresh_say last_say
      (λ group. elim (cases_Bool (groups group)) [
        | inl t ↦ same group t
        | inr f ↦ fresh_silent group f ∙ sym (last_silent group f)
      ]) all_groups
      ∙ sym (final-flat_map (log_says says) (λ group. group_logs group channel last (last + 1) tick sent) all_groups)
      ∙ sym (ap (final (log_says says)) (in_order_of_journal channel last (last + 1) tick sent l))

  -- where the groups' fresh logs say what they are to, they do to any state what the journal does that has the last packet as its checkpoint
  pub part_as_last : channel < 16 → ((group : Group) → groups group ≡ true → fresh_say group ≡ last_say group) → (s : State) → IsState s →
      part (repaired s (fresh_of (journal_logs checkpoint (last + 1) tick sent))) ≡ part (repaired s (journal_logs last (last + 1) tick sent))
  part_as_last l same s is =
      let fresh = fresh_of (journal_logs checkpoint (last + 1) tick sent) in
      let others = journal_logs last (last + 1) tick sent in
      part_repaired channel groups part says is_part s fresh l is
      ∙ ap (λ (a : Option (Option V)). said (over a (ended (has_reset fresh))) (part s)) (heard_same l same)
      ∙ ap (λ b. said (over (final (log_says says) (in_order channel others)) (ended b)) (part s)) (reset_fresh checkpoint last sent early tick)
      ∙ sym (part_repaired channel groups part says is_part s others l is)

  -- and so repair the state before that packet
  part_same : channel < 16 → ((group : Group) → groups group ≡ true → fresh_say group ≡ last_say group) → Repairs part → InOrder packet_of sent →
      part (repaired (state_behind no_state (below packet_of last sent)) (fresh_of (journal_logs checkpoint (last + 1) tick sent))) ≡ part (state_behind no_state (below packet_of (last + 1) sent))
  part_same l same law o =
      let before = below packet_of last sent in
      part_as_last l same (state_behind no_state before) (behind_is no_state before no_state_is) ∙ law last last (last + 1) tick sent o (omega arith) (omega arith)

part_fresh : {V : Type 0} (channel : ℕ) (groups : Group → Bool) (part : State → Option V) (says : LogKind → Option (Option V)) → IsPart channel groups part says →
    ((group : Group) → groups group ≡ true → is_exact group ≡ true) → channel < 16 → Repairs part → FreshRepairs part
part_fresh channel groups part says is_part exact l law checkpoint last tick sent o early =
    part_same channel groups part says is_part checkpoint last tick sent early l (exact_same channel groups part says is_part checkpoint last tick sent early exact) law o

-- ## A part of the session

module _ {V : Type 0} (part : State → Option V) (says : LogKind → Option (Option V)) (is_part : IsSessionPart part says) (checkpoint last tick : ℕ) (sent : List Sent) (early : checkpoint ≤ last) where
  session_same : final (log_says says) (fresh_of (journal_logs checkpoint (last + 1) tick sent)) ≡ final (log_says says) (journal_logs last (last + 1) tick sent)
  session_same =
      let system = system_logs last (last + 1) sent in
      let rest = fresh_of (channels_logs checkpoint (last + 1) tick sent) in
      let none : final (log_says says) rest ≡ None =
      final-none (log_says says) rest (AllByRecursion-weaker (λ log. is_session log.what ≡ false) (λ log. log_says says log ≡ None) (λ log h. is_part.silent log.what h) rest (channels_fresh checkpoint last sent early tick)) in
      ap (final (log_says says)) (session_fresh checkpoint last sent early tick)
      ∙ final-append (log_says says) system rest
      ∙ ap (λ (a : Option (Option V)). over a (final (log_says says) system)) none
      ∙ sym (system_heard part says is_part last (last + 1) tick sent)

  session_by : (s : State) → part (repaired s (fresh_of (journal_logs checkpoint (last + 1) tick sent))) ≡ part (repaired s (journal_logs last (last + 1) tick sent))
  session_by s =
      let fresh = fresh_of (journal_logs checkpoint (last + 1) tick sent) in
      let others = journal_logs last (last + 1) tick sent in
      session_part part says is_part s fresh
      ∙ ap (λ (a : Option (Option V)). said (over a (ended (has_reset fresh))) (part s)) session_same
      ∙ ap (λ b. said (over (final (log_says says) others) (ended b)) (part s)) (reset_fresh checkpoint last sent early tick)
      ∙ sym (session_part part says is_part s others)

pub song_by_fresh : FreshRepairs song_of
song_by_fresh checkpoint last tick sent o early =
    session_by song_of song_log_says song_is checkpoint last tick sent early (state_behind no_state (below packet_of last sent))
    ∙ song_repaired last last (last + 1) tick sent o (omega arith) (omega arith)

pub sequencer_by_fresh : FreshRepairsCommands sequencer_of
sequencer_by_fresh checkpoint last tick sent h o early =
    session_by sequencer_of sequencer_log_says sequencer_is checkpoint last tick sent early (state_behind no_state (below packet_of last sent))
    ∙ sequencer_repaired last last (last + 1) tick sent h o (omega arith) (omega arith)

pub time_code_by_fresh : FreshRepairsCommands time_code_of
time_code_by_fresh checkpoint last tick sent h o early =
    session_by time_code_of time_log_says time_is checkpoint last tick sent early (state_behind no_state (below packet_of last sent))
    ∙ time_code_repaired last last (last + 1) tick sent h o (omega arith) (omega arith)

-- ## Each part of a channel

-- all groups but those of parameters and of released notes
pub exact_of : (groups : Group → Bool) → groups Params ≡ false → groups Released ≡ false → (group : Group) → groups group ≡ true → is_exact group ≡ true
exact_of groups p r Params h = absurd (let f : true ≡ false = sym h ∙ p in cc)
exact_of groups p r Released h = absurd (let f : true ≡ false = sym h ∙ r in cc)
exact_of groups p r group h = refl

pub program_by_fresh : (channel : ℕ) → channel < 16 → FreshRepairs (λ s. program_of s channel)
program_by_fresh channel l = part_fresh channel program_groups (λ s. program_of s channel) (program_log_says channel) (program_is channel l) (exact_of program_groups refl refl) l (program_repaired channel l)

pub control_by_fresh : (channel control : ℕ) → channel < 16 → control < 128 → FreshRepairs (λ s. control_of s channel control)
control_by_fresh channel control l m =
    part_fresh channel control_groups (λ s. control_of s channel control) (control_log_says channel control) (control_is channel control l m) (exact_of control_groups refl refl) l (control_repaired channel control l m)

pub wheel_by_fresh : (channel : ℕ) → channel < 16 → FreshRepairs (λ s. wheel_of s channel)
wheel_by_fresh channel l = part_fresh channel wheel_groups (λ s. wheel_of s channel) (wheel_log_says channel) (wheel_is channel l) (exact_of wheel_groups refl refl) l (wheel_repaired channel l)

pub pressure_by_fresh : (channel : ℕ) → channel < 16 → FreshRepairs (λ s. pressure_of s channel)
pressure_by_fresh channel l = part_fresh channel pressure_groups (λ s. pressure_of s channel) (pressure_log_says channel) (pressure_is channel l) (exact_of pressure_groups refl refl) l (pressure_repaired channel l)

pub poly_by_fresh : (channel note : ℕ) → channel < 16 → note < 128 → FreshRepairs (λ s. poly_of s channel note)
poly_by_fresh channel note l m =
    part_fresh channel poly_groups (λ s. poly_of s channel note) (poly_log_says channel note) (poly_is channel note l m) (exact_of poly_groups refl refl) l (poly_repaired channel note l m)

key_by_fresh : {V : Type 0} (part : Option Selection → Option V) (says : ParamCommand → Option (Option V)) → Key part says → (channel : ℕ) → channel < 16 → FreshRepairs (λ s. part (selection_of s channel))
key_by_fresh part says key channel l =
    part_fresh channel selection_groups (λ s. part (selection_of s channel)) (key_log_says part says key channel) (key_is part says key channel l) (exact_of selection_groups refl refl) l (key_repaired part says key channel l)

pub selection_by_fresh : (channel : ℕ) → channel < 16 → FreshRepairs (λ s. selection_of s channel)
selection_by_fresh channel l checkpoint last tick sent o early =
    let after = selection_of (repaired (state_behind no_state (below packet_of last sent)) (fresh_of (journal_logs checkpoint (last + 1) tick sent))) channel in
    let meant = selection_of (state_behind no_state (below packet_of (last + 1) sent)) channel in
    same_selection after meant (key_by_fresh kind_in kind_says kind_key channel l checkpoint last tick sent o early)
    (λ nrpn high. key_by_fresh (half_in nrpn high) (half_says nrpn high) (half_key nrpn high) channel l checkpoint last tick sent o early)

-- the fresh logs of Chapter C are those of the last packet
own_fresh : (channel checkpoint last tick : ℕ) (sent : List Sent) → channel < 16 → checkpoint ≤ last → of_group Controls channel (fresh_of (journal_logs checkpoint (last + 1) tick sent)) ≡ of_group Controls channel (journal_logs last (last + 1) tick sent)
own_fresh channel checkpoint last tick sent l early =
    filter-swap (λ (log : Log). is_of Controls channel log.what) (λ log. log.fresh) (journal_logs checkpoint (last + 1) tick sent)
    ∙ ap fresh_of (group_of_journal Controls channel checkpoint (last + 1) tick sent l)
    ∙ c_fresh checkpoint last sent early channel
    ∙ sym (group_of_journal Controls channel last (last + 1) tick sent l)

pub toggles_by_fresh : (channel : ℕ) → channel < 16 → FreshRepairs (λ s. toggles_of s channel)
toggles_by_fresh channel l checkpoint last tick sent o early =
    let before = below packet_of last sent in
    let old = state_behind no_state before in
    let is = behind_is no_state before no_state_is in
    let fresh = fresh_of (journal_logs checkpoint (last + 1) tick sent) in
    let others = journal_logs last (last + 1) tick sent in
    let toggles : Pedal → ℕ = λ p. p.toggles in
    ap toggles (pedal_repaired channel old fresh l is)
    ∙ ap (λ (k : List Log). toggles (fold (pedal_logged channel) (pedal_of (cleared fresh old) channel) k)) (own_fresh channel checkpoint last tick sent l early)
    ∙ ap (λ b. toggles (fold (pedal_logged channel) (pedal_of (cond b no_state old) channel) (of_group Controls channel others))) (reset_fresh checkpoint last sent early tick)
    ∙ sym (ap toggles (pedal_repaired channel old others l is))
    ∙ toggles_repaired channel l last last (last + 1) tick sent o (omega arith) (omega arith)

-- ## Notes

-- Where one released note is fresh, all that are coded are among the fresh logs. What an older one sets is so already.
none_kept : (says : Log → Option (Option ℕ)) (p : Log → Bool) (logs : List Log) → final says logs ≡ None → final says (filter p logs) ≡ None
none_kept says p [] h = refl
none_kept says p (log ∷ logs) h =
    let parts = later_none (final says logs) (says log) h in
    let ih = none_kept says p logs parts.0 in
    elim (cases_Bool (p log)) [ inl t ↦ rw (t, ih) parts.1 | inr f ↦ rw f ih ]

all_as_fresh : (channel : ℕ) (fresh : Bool) (numbers : List ℕ) → fresh_of (released_said channel fresh numbers) ≡ cond fresh (released_said channel fresh numbers) []
unfolding released_said
all_as_fresh channel fresh numbers =
    kept fresh (flat_map (released_log channel fresh numbers) (range_with_len 0 128))
    (all_flat (λ log. log.fresh ≡ fresh) (released_log channel fresh numbers) (λ n. elim (cases_Bool (has_note numbers n)) [ inl t ↦ rw t (refl, tt) | inr f ↦ rw f tt ]) (range_with_len 0 128))

released_silent : (note : ℕ) (event : NoteEvent) → releases note event ≡ true → strikes note event ≡ None
released_silent note (notes.Struck n velocity) h = absurd (let f : false ≡ true = h in cc)
released_silent note (notes.Released n velocity) h = refl
released_silent note notes.Cleared h = refl
released_silent note notes.Other h = refl

released_ended : (note : ℕ) (event later : NoteEvent) → releases note event ≡ true → speaks (strikes note later) ≡ true → event_ends event later ≡ true
released_ended note (notes.Released n velocity) (notes.Struck k other) h s = two_notes n k note h (spoken (eqb k note) (sounding other) s)
released_ended note (notes.Struck n velocity) later h s = absurd (let f : false ≡ true = h in cc)
released_ended note notes.Cleared later h s = absurd (let f : false ≡ true = h in cc)
released_ended note notes.Other later h s = absurd (let f : false ≡ true = h in cc)
released_ended note event later h s = absurd (let f : false ≡ true = s in cc)

is_ended : (b : Bool) → b ≡ true → speaks (ended {X = ℕ} b) ≡ true
is_ended true h = refl
is_ended false h = cc

-- a note that is coded as released isn't coded as struck
no_strike : (channel note : ℕ) (places : List Sent) → Unended (note_ends channel) places → list_any (λ place. releases note (event_at channel place)) places ≡ true → final (λ place. strikes note (event_at channel place)) places ≡ None
no_strike channel note [] u h = refl
no_strike channel note (x ∷ xs) u h =
    let off : Sent → Bool = λ place. releases note (event_at channel place) in
    let strike : Sent → Option (Option ℕ) = λ place. strikes note (event_at channel place) in
    elim (cases_Bool (list_any off xs)) [
      | inl t ↦
          let silent_here : strike x ≡ None =
          silent (strike x) (λ s. let later : list_any (note_ends channel x) xs ≡ true = any_weaker off (note_ends channel x) (λ y e. struck_ended note (event_at channel x) (event_at channel y) s (is_ended (off y) e)) xs t in
          let never : list_any (note_ends channel x) xs ≡ false = any-none (note_ends channel x) xs u.0 in
          let both : true ≡ false = sym later ∙ never in cc) in
          rw (no_strike channel note xs u.1 t) silent_here
      | inr f ↦
          let here : off x ≡ true = first (off x) (list_any off xs) h f in
          let later : final strike xs ≡ None =
          final-none strike xs (AllByRecursion-weaker (λ y. note_ends channel x y ≡ false) (λ y. strike y ≡ None)
          (λ y e. silent (strike y) (λ s. let ends : note_ends channel x y ≡ true = released_ended note (event_at channel x) (event_at channel y) here s in let both : true ≡ false = sym ends ∙ e in cc)) xs u.0) in
          rw later (released_silent note (event_at channel x) here)
    ]
  where
    first : (a b : Bool) → (a || b) ≡ true → b ≡ false → a ≡ true
    first true b h f = refl
    first false b h f = absurd (let g : true ≡ false = sym h ∙ f in cc)

module _ (channel note : ℕ) (l : channel < 16) (m : note < 128) (checkpoint last tick : ℕ) (sent : List Sent) (o : InOrder packet_of sent) (early : checkpoint ≤ last) where
  abbrev places : List Sent
  places = coded_notes channel checkpoint (last + 1) sent

  abbrev is_fresh_off : Bool
  is_fresh_off = released_fresh channel (last + 1) places

  abbrev is_off : Bool
  is_off = has_note (released channel places) note

  abbrev note_heard : List Log → Option (Option ℕ)
  note_heard logs = final (log_says (note_log_says channel note)) logs

  -- what is released in the last packet
  released_last : list_any (λ place. releases note (event_at channel place)) (coded_notes channel last (last + 1) sent) ≡ true → (is_fresh_off && is_off) ≡ true
  released_last h =
      let off : Sent → Bool = λ place. releases note (event_at channel place) in
      let both : Sent → Bool = λ place. is_fresh (last + 1) place && off place in
      let among : list_any both places ≡ true =
      sym (any-filter off (is_fresh (last + 1)) places) ∙ ap (list_any off) (places_fresh checkpoint last sent early (note_ends channel)) ∙ h in
      let fresh : is_fresh_off ≡ true =
      any_weaker both (λ place. is_released (event_at channel place) && is_fresh (last + 1) place) (λ x e. turned (is_fresh (last + 1) x) (event_at channel x) e) places among in
      let some : is_off ≡ true = any-filter_map channel note places ∙ any_weaker both off (λ x e. second (is_fresh (last + 1) x) (off x) e) places among in
      rw (fresh, some) refl
    where
      second : (a b : Bool) → (a && b) ≡ true → b ≡ true
      second true b h = h
      second false b h = cc

      turned : (a : Bool) (event : NoteEvent) → (a && releases note event) ≡ true → (is_released event && a) ≡ true
      turned true (notes.Released n velocity) h = refl
      turned true (notes.Struck n velocity) h = absurd (let f : false ≡ true = h in cc)
      turned true notes.Cleared h = absurd (let f : false ≡ true = h in cc)
      turned true notes.Other h = absurd (let f : false ≡ true = h in cc)
      turned false event h = absurd (let f : false ≡ true = h in cc)

  off_heard : note_heard (fresh_of (released_logs channel checkpoint (last + 1) tick sent)) ≡ ended (is_fresh_off && is_off)
  off_heard =
      ap note_heard (all_as_fresh channel is_fresh_off (released channel places))
      ∙ elim (cases_Bool is_fresh_off) [
        | inl t ↦ rw t (released_list channel note true (released channel places) m)
        | inr f ↦ rw f refl
      ]

  off_last : (fresh : Bool) → note_heard (released_said channel fresh (released channel (coded_notes channel last (last + 1) sent))) ≡ ended (list_any (λ place. releases note (event_at channel place)) (coded_notes channel last (last + 1) sent))
  off_last fresh =
      released_list channel note fresh (released channel (coded_notes channel last (last + 1) sent)) m
      ∙ ap (λ b. ended b) (any-filter_map channel note (coded_notes channel last (last + 1) sent))

  -- no released note among the fresh logs is of this one
  without : (is_fresh_off && is_off) ≡ false → (group : Group) → note_groups group ≡ true → note_heard (fresh_of (group_logs group channel checkpoint (last + 1) tick sent)) ≡ note_heard (group_logs group channel last (last + 1) tick sent)
  without none Released h =
      let test = list_any (λ place. releases note (event_at channel place)) (coded_notes channel last (last + 1) sent) in
      let neither : test ≡ false = elim (cases_Bool test) [ inl t ↦ absurd (let some = released_last t in let both : true ≡ false = sym some ∙ none in cc) | inr f ↦ f ] in
      off_heard ∙ ap (λ b. ended b) (none ∙ sym neither) ∙ sym (off_last (released_fresh channel (last + 1) (coded_notes channel last (last + 1) sent)))
  without none Params h = absurd (let f : false ≡ true = h in cc)
  without none group h = ap note_heard (group_fresh checkpoint last sent early group channel tick refl)

  -- one is
  struck_none : is_off ≡ true → note_heard (struck_logs channel checkpoint (last + 1) tick sent) ≡ None
  struck_none h =
      struck_heard channel note checkpoint (last + 1) tick sent
      ∙ no_strike channel note places (Unended-coded (note_ends channel) packet_of checkpoint (below packet_of (last + 1) sent)) (sym (any-filter_map channel note places) ∙ h)

  abbrev old : State
  old = state_behind no_state (below packet_of last sent)

  ends_by_fresh : (s : State) → IsState s → (is_fresh_off && is_off) ≡ true → note_of (repaired s (fresh_of (journal_logs checkpoint (last + 1) tick sent))) channel note ≡ None
  unfolding all_groups
  ends_by_fresh s is h =
      let fresh = fresh_of (journal_logs checkpoint (last + 1) tick sent) in
      let says = note_log_says channel note in
      let is_part = note_is channel note l m in
      let part : State → Option ℕ = λ s. note_of s channel note in
      let heard : Group → Option (Option ℕ) = λ group. note_heard (fresh_of (group_logs group channel checkpoint (last + 1) tick sent)) in
      let alone : final heard all_groups ≡ final heard (filter note_groups all_groups) =
      final-same heard (λ group. cond (note_groups group) (heard group) None)
      (λ group. elim (cases_Bool (note_groups group)) [
        | inl t ↦ rw t refl
        | inr f ↦ rw f (fresh_silent channel note_groups part says is_part checkpoint last tick sent early group f)
      ]) all_groups
      ∙ sym (final-filter heard note_groups all_groups) in
      let struck : note_heard (fresh_of (struck_logs channel checkpoint (last + 1) tick sent)) ≡ None =
      none_kept (log_says says) (λ log. log.fresh) (struck_logs channel checkpoint (last + 1) tick sent) (struck_none (parts h)) in
      let off : note_heard (fresh_of (released_logs channel checkpoint (last + 1) tick sent)) ≡ Some None = off_heard ∙ ap (λ b. ended b) h in
      let dropped : final heard (filter note_groups all_groups) ≡ Some None = rw (struck, off) refl in
      part_repaired channel note_groups part says is_part s fresh l is
      ∙ ap (λ (a : Option (Option ℕ)). said (over a (ended (has_reset fresh))) (part s))
      (fresh_heard channel note_groups part says is_part checkpoint last tick sent early l ∙ alone ∙ dropped)
    where
      parts : (is_fresh_off && is_off) ≡ true → is_off ≡ true
      parts h = second is_fresh_off is_off h
        where
          second : (a b : Bool) → (a && b) ≡ true → b ≡ true
          second true b h = h
          second false b h = cc

  ends_meant : is_off ≡ true → note_of (state_behind no_state (below packet_of (last + 1) sent)) channel note ≡ None
  unfolding all_groups
  ends_meant h =
      let logs = journal_logs checkpoint (last + 1) tick sent in
      let says = note_log_says channel note in
      let is_part = note_is channel note l m in
      let part : State → Option ℕ = λ s. note_of s channel note in
      let off : note_heard (released_logs channel checkpoint (last + 1) tick sent) ≡ Some None =
      released_list channel note is_fresh_off (released channel places) m ∙ ap (λ b. ended b) h in
      let heard : Group → Option (Option ℕ) = λ group. note_heard (group_logs group channel checkpoint (last + 1) tick sent) in
      let dropped : final heard (filter note_groups all_groups) ≡ Some None = rw (struck_none h, off) refl in
      sym (note_repaired channel note l m checkpoint last (last + 1) tick sent o early (omega arith))
      ∙ part_repaired channel note_groups part says is_part old logs l (behind_is no_state (below packet_of last sent) no_state_is)
      ∙ ap (λ (a : Option (Option ℕ)). said (over a (ended (has_reset logs))) (part old))
      (groups_heard channel note_groups part says l is_part checkpoint (last + 1) tick sent ∙ dropped)

  one_note : note_of (repaired old (fresh_of (journal_logs checkpoint (last + 1) tick sent))) channel note ≡ note_of (state_behind no_state (below packet_of (last + 1) sent)) channel note
  one_note =
      elim (cases_Bool (is_fresh_off && is_off)) [
        | inl t ↦ ends_by_fresh old (behind_is no_state (below packet_of last sent) no_state_is) t ∙ sym (ends_meant (second is_fresh_off is_off t))
        | inr f ↦ part_same channel note_groups (λ s. note_of s channel note) (note_log_says channel note) (note_is channel note l m) checkpoint last tick sent early l (without f) (note_repaired channel note l m) o
      ]
    where
      second : (a b : Bool) → (a && b) ≡ true → b ≡ true
      second true b h = h
      second false b h = cc

-- On any state the fresh logs do to a note what the logs of a journal do that has the last packet as its checkpoint, or leave it as all
-- commands do.
pub note_as_last : (channel note : ℕ) (l : channel < 16) (m : note < 128) (checkpoint last tick : ℕ) (sent : List Sent) → InOrder packet_of sent → checkpoint ≤ last → (s : State) → IsState s →
    (note_of (repaired s (fresh_of (journal_logs checkpoint (last + 1) tick sent))) channel note ≡ note_of (repaired s (journal_logs last (last + 1) tick sent)) channel note)
    ⊎ (note_of (repaired s (fresh_of (journal_logs checkpoint (last + 1) tick sent))) channel note ≡ note_of (state_behind no_state (below packet_of (last + 1) sent)) channel note)
note_as_last channel note l m checkpoint last tick sent o early s is =
    let fresh_off = is_fresh_off channel note l m checkpoint last tick sent o early in
    let off = is_off channel note l m checkpoint last tick sent o early in
    elim (cases_Bool (fresh_off && off)) [
      | inl t ↦ inr (ends_by_fresh channel note l m checkpoint last tick sent o early s is t ∙ sym (ends_meant channel note l m checkpoint last tick sent o early (second fresh_off off t)))
      | inr f ↦ inl (part_as_last channel note_groups (λ s. note_of s channel note) (note_log_says channel note) (note_is channel note l m) checkpoint last tick sent early l (without channel note l m checkpoint last tick sent o early f) s is)
    ]
  where
    second : (a b : Bool) → (a && b) ≡ true → b ≡ true
    second true b h = h
    second false b h = cc

pub note_by_fresh : (channel note : ℕ) → channel < 16 → note < 128 → FreshRepairs (λ s. note_of s channel note)
note_by_fresh channel note l m checkpoint last tick sent o early = one_note channel note l m checkpoint last tick sent o early

-- ## The number of messages

no_message : (reset : Bool) (before : ℕ) (log : LogKind) → is_session log ≡ false → counts reset before log ≡ false
no_message reset before (kinds.Sysex count octets) h = absurd (let f : true ≡ false = h in cc)
no_message reset before log h = refl

not_counted : (reset : Bool) (before : ℕ) (s : State) (logs : List Log) → AreOfChannels logs → fold (with_message reset before) s logs ≡ s
not_counted reset before s [] h = refl
not_counted reset before s (log ∷ logs) h = rw (no_message reset before log.what h.0) (not_counted reset before s logs h.1)

count_kept : (s : State) (log : LogKind) → sysex_count_of (with_session_log s log) ≡ sysex_count_of s
count_kept s (kinds.Song song) = refl
count_kept s (kinds.Sequencer running downbeat position) = refl
count_kept s (kinds.TimeCode complete partial backward point) = refl
count_kept s log = refl

count_left : (s : State) (logs : List Log) → sysex_count_of (session_repaired logs s) ≡ sysex_count_of s
count_left s [] = refl
count_left s (log ∷ logs) = count_left (with_session_log s log.what) logs ∙ count_kept s log.what

module _ (checkpoint last tick : ℕ) (sent : List Sent) (early : checkpoint ≤ last) where
  messages_same : (s : State) → messages_repaired (fresh_of (journal_logs checkpoint (last + 1) tick sent)) s ≡ messages_repaired (journal_logs last (last + 1) tick sent) s
  unfolding journal_logs
  messages_same s =
      let fresh = fresh_of (journal_logs checkpoint (last + 1) tick sent) in
      let system = system_logs last (last + 1) sent in
      let reset = has_reset (journal_logs last (last + 1) tick sent) in
      let step : State → Log → State = with_message reset s.sysex_count in
      let rest = fresh_of (channels_logs checkpoint (last + 1) tick sent) in
      let others = channels_logs last (last + 1) tick sent in
      ap (λ b. fold (with_message b s.sysex_count) s fresh) (reset_fresh checkpoint last sent early tick)
      ∙ ap (fold step s) (session_fresh checkpoint last sent early tick)
      ∙ fold-append step s system rest
      ∙ not_counted reset s.sysex_count (fold step s system) rest (channels_fresh checkpoint last sent early tick)
      ∙ sym (fold-append step s system others ∙ not_counted reset s.sysex_count (fold step s system) others (channels_of_channels last (last + 1) tick sent))

  -- The fresh logs count as many messages as the logs of a journal that has the last packet as its checkpoint.
  pub count_by_fresh : (s : State) → sysex_count_of (repaired s (fresh_of (journal_logs checkpoint (last + 1) tick sent))) ≡ sysex_count_of (repaired s (journal_logs last (last + 1) tick sent))
  count_by_fresh s =
      let fresh = fresh_of (journal_logs checkpoint (last + 1) tick sent) in
      let others = journal_logs last (last + 1) tick sent in
      (session_stays s fresh).sysex_count
      ∙ count_left (messages_repaired fresh (cleared fresh s)) fresh
      ∙ ap sysex_count_of (ap (λ b. messages_repaired fresh (cond b no_state s)) (reset_fresh checkpoint last sent early tick) ∙ messages_same (cleared others s))
      ∙ sym ((session_stays s others).sysex_count ∙ count_left (messages_repaired others (cleared others s)) others)

pub messages_by_fresh : FreshRepairsMessages
messages_by_fresh checkpoint last tick sent o few early =
    count_by_fresh checkpoint last tick sent early (state_behind no_state (below packet_of last sent))
    ∙ number_of_messages_repaired last last (last + 1) tick sent o (let fewer = sysex_logs-later checkpoint last (below packet_of (last + 1) sent) early in omega (arith, few, fewer)) (omega arith) (omega arith)

-- ## All of them

-- The fresh logs alone repair what they are to.
pub fresh_repair : FreshLogsRepair
fresh_repair = record {
  program = program_by_fresh;
  control = control_by_fresh;
  toggles = toggles_by_fresh;
  selection = selection_by_fresh;
  wheel = wheel_by_fresh;
  note = note_by_fresh;
  pressure = pressure_by_fresh;
  poly = poly_by_fresh;
  song = song_by_fresh;
  sequencer = sequencer_by_fresh;
  time_code = time_code_by_fresh;
  messages = messages_by_fresh;
  param = param_by_fresh;
}
