-- The law of repair for the song position and the time code, whose log is the whole of what the session says.
use Rattle.std.proofs.Common.{◌≡◌, ℕ, ◌≤◌, ◌<◌, ◌%◌, Bool, true, false, cond, ◌&&◌, ◌||◌, ltb, leb, List, [], ◌∷◌, ◌++◌, Option, Some, None, fold, refl, sym, ap, ◌∙◌, ◌⊎◌, inl, inr, arith}
use Rattle.std.specs.List.{list_any}
use Rattle.std.proofs.lemmas.Bool.{cases_Bool}
use Rattle.std.proofs.lemmas.List.Sums.{fold-append}
use Rattle.jm_cmds.specs.declared.commands.Command.{Command}
use Rattle.jm_cmds.specs.declared.commands.Command.TheVariants as commands
use Rattle.jm_cmds.specs.declared.frames.TimePart.{TimePart}
use Rattle.jm_cmds.specs.declared.history.Sent.{Sent}
use Rattle.jm_cmds.specs.declared.sequencing.SequencerPart.{SequencerPart}
use Rattle.jm_cmds.specs.Control.{is_reset}
use Rattle.jm_cmds.specs.Frames.{frame_event, time_code_step, time_code_along, time_code_after}
use Rattle.jm_cmds.specs.History.{below, since, coded, InOrder}
use Rattle.jm_cmds.specs.HistoryLaws.{InOrder-filter, filter-swap}
use Rattle.jm_cmds.specs.Sent.{packet_of}
use Rattle.jm_cmds.specs.Sequencing.{sequencer_event, sequencer_step, sequencer_along, sequencer_after}
use Rattle.jm_cmds.specs.declared.sequencing.SequencerEvent.TheVariants.{Cleared, Other}
use Rattle.jm_cmds.specs.declared.frames.FrameEvent.TheVariants as frames
use Rattle.ch_system.specs.declared.items.SystemItem.{SystemItem}
use Rattle.ch_system.specs.declared.items.SystemItem.TheVariants.{Sequence, Frames}
use Rattle.ch_system.specs.Items.{item_coded, item_ends, is_of, is_place_of}
use Rattle.ch_system.specs.ItemLaws.{none, one, one-coded}
use Rattle.ch_system.specs.StateLaws.{value_of}
use Rattle.ch_system.specs.SequencingLaws.{position_there, IsSequencer-after}
use Rattle.ch_system.specs.FrameLaws.{time_code_there, IsTimeCode-after}
use Rattle.ch_sysex.specs.SysexEvent.{resets}
use Rattle.jm_state.specs.declared.state.State.{State}
use Rattle.jm_state.specs.Apply.{applied}
use Rattle.jm_state.specs.Parts.{no_state, sequencer_of, time_code_of}
use Rattle.jm_state.specs.Says.{said, ended}
use Rattle.jm_state.specs.PartLaws.{sequencer_behind, time_code_behind}
use Rattle.jm_state.specs.Replay.{over, in_two}
use Rattle.jm_state.specs.ReplayLaws.{state_behind}
use Rattle.jm_state.specs.Final.{final, speaks, over_none, final-append, final-filter, final-none, final-coded, final-ended}
use Rattle.jm_reader.specs.declared.logs.LogKind.{LogKind}
use Rattle.jm_reader.specs.declared.logs.LogKind.TheVariants as kinds
use Rattle.jm_reader.specs.Written.{AreCommands}
use Rattle.jm_reader.specs.WrittenD.{d_said}
use Rattle.jm_reader.specs.WrittenV.{v_said}
use Rattle.jm_reader.specs.WrittenQ.{q_said}
use Rattle.jm_reader.specs.WrittenF.{f_said}
use Rattle.jm_reader.specs.WrittenX.{x_said}
use Rattle.jm_reader.specs.WrittenJournal.{journal_logs}
use Rattle.jm_receiver.specs.Repair.{has_reset, with_session_log, repaired}
use Rattle.jm_receiver.specs.Order.{log_says}
use Rattle.jm_receiver.specs.Chapters.{is_session}
use Rattle.jm_receiver.specs.SystemLogs.{d_all, v_all, q_all, f_all, x_all}
use Rattle.jm_receiver.specs.Repairs.{seen_since, below_next}
use Rattle.jm_receiver.specs.Resets.{reset_of_journal}
use Rattle.jm_receiver.specs.Session.{IsSessionPart, session_part, system_heard, chapters_heard}

-- As `Repairs`, of commands within their bounds.
abbrev pub RepairsCommands : {V : Type 0} → (State → V) → Type 0
RepairsCommands part =
    (checkpoint next packet tick : ℕ) (sent : List Sent) → AreCommands sent → InOrder packet_of sent → checkpoint ≤ next → next ≤ packet →
    part (repaired (state_behind no_state (below packet_of next sent)) (journal_logs checkpoint packet tick sent)) ≡ part (state_behind no_state (below packet_of packet sent))

-- ## A part that one item moves on

-- whether a place moves the part on, or ends it
abbrev moves : SystemItem → Sent → Option (Option ℕ)
moves item place = cond (is_place_of item place) (Some (Some 0)) None

abbrev moves_or_ends : SystemItem → Sent → Option (Option ℕ)
moves_or_ends item place = over (moves item place) (ended (resets place))

-- The item's commands move it on, a Reset State command ends it, and others leave it.
pub record Moves {S : Type 0} (item : SystemItem) (step : Option S → Sent → Option S) : Type 0 where
  pub passes : (s : Option S) (x : Sent) → moves_or_ends item x ≡ None → step s x ≡ s
  pub ends : (s : Option S) (x : Sent) → moves_or_ends item x ≡ Some None → step s x ≡ None

pub later_none : (a b : Option (Option ℕ)) → over a b ≡ None → (a ≡ None) × (b ≡ None)
later_none None None h = (refl, refl)
later_none None (Some b) h = absurd (let f : Some b ≡ None = h in cc)
later_none (Some a) b h = absurd (let f : Some a ≡ None = h in cc)

pub ended_last : (a b : Option (Option ℕ)) → over a b ≡ Some None → (a ≡ Some None) ⊎ ((a ≡ None) × (b ≡ Some None))
ended_last None b h = inr (refl, h)
ended_last (Some a) b h = inl h

module _ {S : Type 0} (item : SystemItem) (step : Option S → Sent → Option S) (m : Moves item step) where
  still : (s : Option S) (xs : List Sent) → final (moves_or_ends item) xs ≡ None → fold step s xs ≡ s
  still s [] h = refl
  still s (x ∷ xs) h =
      let parts = later_none (final (moves_or_ends item) xs) (moves_or_ends item x) h in
      ap (λ (t : Option S). fold step t xs) (m.passes s x parts.1) ∙ still s xs parts.0

  gone : (s : Option S) (xs : List Sent) → final (moves_or_ends item) xs ≡ Some None → fold step s xs ≡ None
  gone s [] h = absurd (let f : ◌≡◌ {A = Option (Option ℕ)} None (Some None) = h in cc)
  gone s (x ∷ xs) h =
      elim (ended_last (final (moves_or_ends item) xs) (moves_or_ends item x) h) [
        | inl e ↦ gone (step s x) xs e
        | inr p ↦ ap (λ (t : Option S). fold step t xs) (m.ends s x p.1) ∙ still None xs p.0
      ]

spoken : (b : Bool) → speaks (cond {A = Option (Option ℕ)} b (Some (Some 0)) None) ≡ true → b ≡ true
spoken true h = refl
spoken false h = cc

spoken_end : (b : Bool) → speaks (ended {X = ℕ} b) ≡ true → b ≡ true
spoken_end true h = refl
spoken_end false h = cc

covered : (a b c : Bool) → (a && (b || c)) ≡ true → speaks (over (cond {A = Option (Option ℕ)} b (Some (Some 0)) None) (ended c)) ≡ true
covered true true c h = refl
covered true false true h = refl
covered true false false h = cc
covered false b c h = cc

touched : (a b c : Bool) → a ≡ true → c ≡ true → (a && (b || c)) ≡ true
touched true true true h k = refl
touched true false true h k = refl
touched true b false h k = cc
touched false b c h k = cc

-- where nothing of the item is coded, the last that came of it or of resets is a reset, if there is one
uncoded : (item : SystemItem) (checkpoint packet : ℕ) (sent : List Sent) → InOrder packet_of sent → item_coded item checkpoint packet sent ≡ [] →
    final (moves_or_ends item) (seen_since checkpoint packet sent) ≡ ended (list_any resets (seen_since checkpoint packet sent))
unfolding item_coded
uncoded item checkpoint packet sent o e =
    let seen = below packet_of packet sent in
    let places = coded (item_ends item) packet_of checkpoint seen in
    let none : final (moves item) places ≡ None =
    sym (final-filter (λ place. Some (Some 0)) (is_place_of item) places) ∙ ap (final (λ (place : Sent). Some (Some 0))) e in
    sym (final-coded (item_ends item) (moves item) (λ place. ended (resets place))
    (λ a b s h. covered (is_place_of item a) (is_place_of item b) (is_reset b.command) h)
    (λ a b s r. touched (is_place_of item a) (is_place_of item b) (is_reset b.command) (spoken (is_place_of item a) s) (spoken_end (resets b) r))
    packet_of checkpoint seen (InOrder-filter packet_of _ sent o))
    ∙ ap (λ (a : Option (Option ℕ)). over a (final (λ (place : Sent). ended (resets place)) (seen_since checkpoint packet sent))) none
    ∙ final-ended resets (seen_since checkpoint packet sent)

module _ {S : Type 0} (item : SystemItem) (step : Option S → Sent → Option S) (m : Moves item step) (part : State → Option S) (says : LogKind → Option (Option S)) (is_part : IsSessionPart part says)
    (along : (s : State) (place : Sent) → part (applied s place.command) ≡ step (part s) place)
    (uncoded_says : (checkpoint packet tick : ℕ) (sent : List Sent) → item_coded item checkpoint packet sent ≡ [] → final (log_says says) (journal_logs checkpoint packet tick sent) ≡ None)
    (coded_says : (checkpoint packet tick : ℕ) (sent : List Sent) (x : Sent) → AreCommands sent → item_coded item checkpoint packet sent ≡ x ∷ [] → final (log_says says) (journal_logs checkpoint packet tick sent) ≡ Some (fold step None (below packet_of packet sent))) where
  behind : (s : State) (xs : List Sent) → part (state_behind s xs) ≡ fold step (part s) xs
  behind s [] = refl
  behind s (x ∷ xs) = behind (applied s x.command) xs ∙ ap (λ (t : Option S). fold step t xs) (along s x)

  from_none : (xs : List Sent) → part (state_behind no_state xs) ≡ fold step None xs
  from_none xs = behind no_state xs ∙ ap (λ (t : Option S). fold step t xs) is_part.absent

  -- nothing of the item is coded
  left : (checkpoint next packet tick : ℕ) (sent : List Sent) → InOrder packet_of sent → checkpoint ≤ next → next ≤ packet → item_coded item checkpoint packet sent ≡ [] →
      said (ended (has_reset (journal_logs checkpoint packet tick sent))) (fold step None (below packet_of next sent)) ≡ fold step None (below packet_of packet sent)
  left checkpoint next packet tick sent o early late e =
      let seen = below packet_of packet sent in
      let ordered : InOrder packet_of seen = InOrder-filter packet_of _ sent o in
      let ys = seen_since checkpoint packet sent in
      let front = below packet_of checkpoint seen in
      let before = below packet_of next seen in
      let last = uncoded item checkpoint packet sent o e in
      let all : fold step None seen ≡ fold step (fold step None front) ys = ap (fold step None) (in_two packet_of checkpoint seen ordered) ∙ fold-append step None front ys in
      let same_reset = reset_of_journal checkpoint packet tick sent o in
      elim (cases_Bool (list_any resets ys)) [
        | inl t ↦
            let dropped : final (moves_or_ends item) ys ≡ Some None = last ∙ rw t refl in
            rw (same_reset, t) (sym (all ∙ gone item step m (fold step None front) ys dropped))
        | inr f ↦
            let silent : final (moves_or_ends item) ys ≡ None = last ∙ rw f refl in
            let between = below packet_of next ys in
            let two : ys ≡ between ++ since packet_of next ys = in_two packet_of next ys (InOrder-filter packet_of _ seen ordered) in
            let none_between : final (moves_or_ends item) between ≡ None =
            (later_none (final (moves_or_ends item) (since packet_of next ys)) (final (moves_or_ends item) between)
            (sym (final-append (moves_or_ends item) between (since packet_of next ys)) ∙ ap (final (moves_or_ends item)) (sym two) ∙ silent)).1 in
            let front_two : before ≡ below packet_of checkpoint before ++ since packet_of checkpoint before = in_two packet_of checkpoint before (InOrder-filter packet_of _ seen ordered) in
            let front_same : below packet_of checkpoint before ≡ front = below_next checkpoint next seen early in
            let between_same : since packet_of checkpoint before ≡ between = filter-swap (λ x. leb checkpoint (packet_of x)) (λ x. ltb (packet_of x) next) seen in
            let begins : fold step None before ≡ fold step None front =
            ap (fold step None) front_two ∙ fold-append step None (below packet_of checkpoint before) (since packet_of checkpoint before)
            ∙ rw (front_same, between_same) (still item step m (fold step None front) between none_between) in
            rw (same_reset, f)
            (ap (fold step None) (sym (below_next next packet sent late)) ∙ begins ∙ sym (all ∙ still item step m (fold step None front) ys silent))
      ]

  pub known_repaired : RepairsCommands part
  known_repaired checkpoint next packet tick sent h o early late =
      let logs = journal_logs checkpoint packet tick sent in
      let old = state_behind no_state (below packet_of next sent) in
      session_part part says is_part old logs
      ∙ elim (one-coded item checkpoint packet sent) [
        | none e ↦
            rw (uncoded_says checkpoint packet tick sent e)
            (ap (said (ended (has_reset logs))) (from_none (below packet_of next sent)) ∙ left checkpoint next packet tick sent o early late e)
        | one x e ↦ rw (coded_says checkpoint packet tick sent x h e) refl
      ]
      ∙ sym (from_none (below packet_of packet sent))

-- ## The song position

abbrev pub sequencer_log_says : LogKind → Option (Option SequencerPart)
sequencer_log_says (kinds.Sequencer running downbeat position) = Some (Some (record { running = running; downbeat = downbeat; position = position % 524288 }))
sequencer_log_says log = None

sequencer_set : (s : State) (log : LogKind) → sequencer_of (with_session_log s log) ≡ said (sequencer_log_says log) (sequencer_of s)
sequencer_set s (kinds.Song song) = refl
sequencer_set s (kinds.Sequencer running downbeat position) = refl
sequencer_set s (kinds.TimeCode complete partial backward point) = refl
sequencer_set s log = refl

sequencer_silent : (log : LogKind) → is_session log ≡ false → sequencer_log_says log ≡ None
sequencer_silent (kinds.Sequencer running downbeat position) h = absurd (let f : true ≡ false = h in cc)
sequencer_silent log h = refl

pub sequencer_is : IsSessionPart sequencer_of sequencer_log_says
sequencer_is = record {
  absent = refl;
  counted = λ s count. refl;
  set = sequencer_set;
  stays = λ s t same. same.sequencer;
  silent = sequencer_silent;
}

sequencer_moves : Moves Sequence sequencer_along
sequencer_moves = record { passes = λ s x h. passes s x.command h; ends = λ s x h. ends s x.command h }
  where
    passes_by : (s : Option SequencerPart) (b : Bool) → ended {X = ℕ} b ≡ None → sequencer_step s (cond b Cleared Other) ≡ s
    passes_by s true h = absurd (let f : ◌≡◌ {A = Option (Option ℕ)} (Some None) None = h in cc)
    passes_by s false h = refl

    passes : (s : Option SequencerPart) (command : Command) → over (cond {A = Option (Option ℕ)} (is_of Sequence command) (Some (Some 0)) None) (ended (is_reset command)) ≡ None → sequencer_step s (sequencer_event command) ≡ s
    passes s commands.Clock h = absurd (let f : ◌≡◌ {A = Option (Option ℕ)} (Some (Some 0)) None = h in cc)
    passes s commands.Start h = absurd (let f : ◌≡◌ {A = Option (Option ℕ)} (Some (Some 0)) None = h in cc)
    passes s commands.Continue h = absurd (let f : ◌≡◌ {A = Option (Option ℕ)} (Some (Some 0)) None = h in cc)
    passes s commands.Stop h = absurd (let f : ◌≡◌ {A = Option (Option ℕ)} (Some (Some 0)) None = h in cc)
    passes s (commands.SongPosition value) h = absurd (let f : ◌≡◌ {A = Option (Option ℕ)} (Some (Some 0)) None = h in cc)
    passes s command h = passes_by s (is_reset command) h

    ends_by : (s : Option SequencerPart) (b : Bool) → ended {X = ℕ} b ≡ Some None → sequencer_step s (cond b Cleared Other) ≡ None
    ends_by s true h = refl
    ends_by s false h = absurd (let f : ◌≡◌ {A = Option (Option ℕ)} None (Some None) = h in cc)

    some_apart : ◌≡◌ {A = Option (Option ℕ)} (Some (Some 0)) (Some None) → ⊥
    some_apart h = cc

    ends : (s : Option SequencerPart) (command : Command) → over (cond {A = Option (Option ℕ)} (is_of Sequence command) (Some (Some 0)) None) (ended (is_reset command)) ≡ Some None → sequencer_step s (sequencer_event command) ≡ None
    ends s commands.Clock h = absurd (some_apart h)
    ends s commands.Start h = absurd (some_apart h)
    ends s commands.Continue h = absurd (some_apart h)
    ends s commands.Stop h = absurd (some_apart h)
    ends s (commands.SongPosition value) h = absurd (some_apart h)
    ends s command h = ends_by s (is_reset command) h

-- of the system chapters, Chapter Q alone speaks of it
q_alone : (checkpoint packet tick : ℕ) (sent : List Sent) → final (log_says sequencer_log_says) (journal_logs checkpoint packet tick sent) ≡ final (log_says sequencer_log_says) (q_said checkpoint packet sent)
q_alone checkpoint packet tick sent =
    let says = log_says sequencer_log_says in
    let silent : LogKind → Type 0 = λ what. sequencer_log_says what ≡ None in
    let d : final says (d_said checkpoint packet sent) ≡ None = final-none says (d_said checkpoint packet sent) (d_all silent (λ n. refl) (λ n. refl) (λ n. refl) checkpoint packet sent) in
    let v : final says (v_said checkpoint packet sent) ≡ None = final-none says (v_said checkpoint packet sent) (v_all silent (λ n. refl) checkpoint packet sent) in
    let f : final says (f_said checkpoint packet sent) ≡ None = final-none says (f_said checkpoint packet sent) (f_all silent (λ c p b n. refl) checkpoint packet sent) in
    let x : final says (x_said checkpoint packet sent) ≡ None = final-none says (x_said checkpoint packet sent) (x_all silent (λ n octets. refl) checkpoint packet sent) in
    rw (system_heard sequencer_of sequencer_log_says sequencer_is checkpoint packet tick sent, chapters_heard sequencer_of sequencer_log_says sequencer_is checkpoint packet sent, d, v, f, x) (over_none (final says (q_said checkpoint packet sent)))

sequencer_uncoded : (checkpoint packet tick : ℕ) (sent : List Sent) → item_coded Sequence checkpoint packet sent ≡ [] → final (log_says sequencer_log_says) (journal_logs checkpoint packet tick sent) ≡ None
unfolding q_said
sequencer_uncoded checkpoint packet tick sent e = q_alone checkpoint packet tick sent ∙ rw e refl

sequencer_coded : (checkpoint packet tick : ℕ) (sent : List Sent) (x : Sent) → AreCommands sent → item_coded Sequence checkpoint packet sent ≡ x ∷ [] → final (log_says sequencer_log_says) (journal_logs checkpoint packet tick sent) ≡ Some (sequencer_after (below packet_of packet sent))
unfolding q_said
sequencer_coded checkpoint packet tick sent x h e =
    let state = value_of (sequencer_after (below packet_of packet sent)) (position_there checkpoint packet sent x [] e) in
    let all = IsSequencer-after packet sent h in
    let bound : state.value.position < 524288 = rw state.is at all in
    let same : state.value.position % 524288 ≡ state.value.position = omega (arith, bound) in
    q_alone checkpoint packet tick sent ∙ rw (e, state.is, same) refl

-- The song position is repaired.
pub sequencer_repaired : RepairsCommands sequencer_of
unfolding sequencer_after
sequencer_repaired =
    known_repaired Sequence sequencer_along sequencer_moves sequencer_of sequencer_log_says sequencer_is (λ s place. sequencer_behind s place.command)
    (λ checkpoint packet tick sent e. sequencer_uncoded checkpoint packet tick sent e) (λ checkpoint packet tick sent x h e. sequencer_coded checkpoint packet tick sent x h e)

-- ## The time code

abbrev pub time_log_says : LogKind → Option (Option TimePart)
time_log_says (kinds.TimeCode complete partial backward point) = Some (Some (record { complete = complete; partial = partial; backward = backward; point = point % 8 }))
time_log_says log = None

time_set : (s : State) (log : LogKind) → time_code_of (with_session_log s log) ≡ said (time_log_says log) (time_code_of s)
time_set s (kinds.Song song) = refl
time_set s (kinds.Sequencer running downbeat position) = refl
time_set s (kinds.TimeCode complete partial backward point) = refl
time_set s log = refl

time_silent : (log : LogKind) → is_session log ≡ false → time_log_says log ≡ None
time_silent (kinds.TimeCode complete partial backward point) h = absurd (let f : true ≡ false = h in cc)
time_silent log h = refl

pub time_is : IsSessionPart time_code_of time_log_says
time_is = record {
  absent = refl;
  counted = λ s count. refl;
  set = time_set;
  stays = λ s t same. same.time_code;
  silent = time_silent;
}

time_moves : Moves Frames time_code_along
time_moves = record { passes = λ s x h. passes s x.command h; ends = λ s x h. ends s x.command h }
  where
    passes_by : (s : Option TimePart) (b : Bool) → ended {X = ℕ} b ≡ None → time_code_step s (cond b frames.Cleared frames.Other) ≡ s
    passes_by s true h = absurd (let f : ◌≡◌ {A = Option (Option ℕ)} (Some None) None = h in cc)
    passes_by s false h = refl

    passes : (s : Option TimePart) (command : Command) → over (cond {A = Option (Option ℕ)} (is_of Frames command) (Some (Some 0)) None) (ended (is_reset command)) ≡ None → time_code_step s (frame_event command) ≡ s
    passes s (commands.QuarterFrame value) h = absurd (let f : ◌≡◌ {A = Option (Option ℕ)} (Some (Some 0)) None = h in cc)
    passes s command h = passes_by s (is_reset command) h

    ends_by : (s : Option TimePart) (b : Bool) → ended {X = ℕ} b ≡ Some None → time_code_step s (cond b frames.Cleared frames.Other) ≡ None
    ends_by s true h = refl
    ends_by s false h = absurd (let f : ◌≡◌ {A = Option (Option ℕ)} None (Some None) = h in cc)

    some_apart : ◌≡◌ {A = Option (Option ℕ)} (Some (Some 0)) (Some None) → ⊥
    some_apart h = cc

    ends : (s : Option TimePart) (command : Command) → over (cond {A = Option (Option ℕ)} (is_of Frames command) (Some (Some 0)) None) (ended (is_reset command)) ≡ Some None → time_code_step s (frame_event command) ≡ None
    ends s (commands.QuarterFrame value) h = absurd (some_apart h)
    ends s command h = ends_by s (is_reset command) h

-- of the system chapters, Chapter F alone speaks of it
f_alone : (checkpoint packet tick : ℕ) (sent : List Sent) → final (log_says time_log_says) (journal_logs checkpoint packet tick sent) ≡ final (log_says time_log_says) (f_said checkpoint packet sent)
f_alone checkpoint packet tick sent =
    let says = log_says time_log_says in
    let silent : LogKind → Type 0 = λ what. time_log_says what ≡ None in
    let d : final says (d_said checkpoint packet sent) ≡ None = final-none says (d_said checkpoint packet sent) (d_all silent (λ n. refl) (λ n. refl) (λ n. refl) checkpoint packet sent) in
    let v : final says (v_said checkpoint packet sent) ≡ None = final-none says (v_said checkpoint packet sent) (v_all silent (λ n. refl) checkpoint packet sent) in
    let q : final says (q_said checkpoint packet sent) ≡ None = final-none says (q_said checkpoint packet sent) (q_all silent (λ r d p. refl) checkpoint packet sent) in
    let x : final says (x_said checkpoint packet sent) ≡ None = final-none says (x_said checkpoint packet sent) (x_all silent (λ n octets. refl) checkpoint packet sent) in
    rw (system_heard time_code_of time_log_says time_is checkpoint packet tick sent, chapters_heard time_code_of time_log_says time_is checkpoint packet sent, d, v, q, x) (over_none (final says (f_said checkpoint packet sent)))

time_uncoded : (checkpoint packet tick : ℕ) (sent : List Sent) → item_coded Frames checkpoint packet sent ≡ [] → final (log_says time_log_says) (journal_logs checkpoint packet tick sent) ≡ None
unfolding f_said
time_uncoded checkpoint packet tick sent e = f_alone checkpoint packet tick sent ∙ rw e refl

time_coded : (checkpoint packet tick : ℕ) (sent : List Sent) (x : Sent) → AreCommands sent → item_coded Frames checkpoint packet sent ≡ x ∷ [] → final (log_says time_log_says) (journal_logs checkpoint packet tick sent) ≡ Some (time_code_after (below packet_of packet sent))
unfolding f_said
time_coded checkpoint packet tick sent x h e =
    let code = value_of (time_code_after (below packet_of packet sent)) (time_code_there checkpoint packet sent x [] e) in
    let all = IsTimeCode-after packet sent h in
    let bound : code.value.point < 8 = rw code.is at all in
    let same : code.value.point % 8 ≡ code.value.point = omega (arith, bound) in
    f_alone checkpoint packet tick sent ∙ rw (e, code.is, same) refl

-- The time code is repaired.
pub time_code_repaired : RepairsCommands time_code_of
unfolding time_code_after
time_code_repaired =
    known_repaired Frames time_code_along time_moves time_code_of time_log_says time_is (λ s place. time_code_behind s place.command)
    (λ checkpoint packet tick sent e. time_uncoded checkpoint packet tick sent e) (λ checkpoint packet tick sent x h e. time_coded checkpoint packet tick sent x h e)
