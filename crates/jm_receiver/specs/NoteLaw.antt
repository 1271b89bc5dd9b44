-- The law of repair for a channel's sounding notes.
use Rattle.std.proofs.Common.{◌≡◌, ℕ, zero, suc, ◌+◌, ◌<◌, ◌≤◌, Bool, true, false, cond, ◌&&◌, ◌||◌, eqb, leb, List, [], ◌∷◌, Option, Some, None, refl, sym, ap, ◌∙◌, subst, inl, inr, arith}
use Rattle.std.specs.List.{cons_option, list_any, range_with_len}
use Rattle.std.proofs.lemmas.Bool.{cases_Bool, eq-eqb, eqb-true}
use Rattle.std.proofs.lemmas.Bool.Decides.{nat_tests}
use Rattle.jm_cmds.specs.declared.commands.Command.{Command}
use Rattle.jm_cmds.specs.declared.commands.Command.TheVariants as commands
use Rattle.jm_cmds.specs.declared.history.Sent.{Sent}
use Rattle.jm_cmds.specs.Control.{control_kind, clears_notes, ends_notes, is_reset, is_entry}
use Rattle.jm_cmds.specs.History.{below, InOrder}
use Rattle.jm_cmds.specs.HistoryLaws.{InOrder-filter, Unended-coded}
use Rattle.jm_cmds.specs.Sent.{packet_of, is_fresh}
use Rattle.ch_control.specs.ControlEvent.{item_of, is_kept}
use Rattle.ch_notes.specs.declared.events.NoteEvent.{NoteEvent}
use Rattle.ch_notes.specs.declared.events.NoteEvent.TheVariants.{Struck, Released, Cleared, Other}
use Rattle.ch_notes.specs.NoteEvent.{note_event, event_at, event_ends, note_ends, concerns as touches}
use Rattle.ch_notes.specs.ChapterN.{released, released_note, released_fresh, coded_notes}
use Rattle.ch_sysex.specs.SysexEvent.{resets}
use Rattle.jm_state.specs.Parts.{nth_channel, note_of}
use Rattle.jm_state.specs.Apply.{sounding}
use Rattle.jm_state.specs.Table.{value_at}
use Rattle.jm_state.specs.Says.{ended, note_says}
use Rattle.jm_state.specs.Kept.{no_channel_at, no_value}
use Rattle.jm_state.specs.PartLaws.{by_part}
use Rattle.jm_state.specs.Replay.{over}
use Rattle.jm_state.specs.SettingLaws.{program_alone, toggles_alone, param_high_alone, param_low_alone}
use Rattle.jm_state.specs.Final.{final, speaks, over_assoc, final-flat_map, final-same, final-one, final-ended, final-coded, final-stages}
use Rattle.jm_reader.specs.declared.logs.LogKind.{LogKind}
use Rattle.jm_reader.specs.declared.logs.LogKind.TheVariants as kinds
use Rattle.jm_reader.specs.WrittenN.{struck_said, struck_log, released_said, released_log, has_note}
use Rattle.jm_reader.specs.WrittenC.{c_said}
use Rattle.jm_receiver.specs.declared.group.Group.{Group}
use Rattle.jm_receiver.specs.declared.group.Group.TheVariants.{Controls, Released as ReleasedNotes, Struck as StruckNotes}
use Rattle.jm_receiver.specs.Group.{all_groups}
use Rattle.jm_receiver.specs.Order.{IsPart, concerns, log_says}
use Rattle.jm_receiver.specs.Chapters.{released_logs, struck_logs}
use Rattle.jm_receiver.specs.Repairs.{Repairs, LastSays, repairs, groups_heard, resets_heard, seen_since, place_says, journal_says, command_says, command_set, session_channels}
use Rattle.jm_receiver.specs.ControlsHeard.{AreDrops, is_drop, drops_heard}

-- what a log says of a note: All Notes Off and its like, and the note's own
abbrev pub note_log_says : (channel note : ℕ) → LogKind → Option (Option ℕ)
note_log_says channel note log = command_says (note_says channel note) log

-- the groups that say something of it
abbrev pub note_groups : Group → Bool
note_groups Controls = true
note_groups ReleasedNotes = true
note_groups StruckNotes = true
note_groups group = false

note_silent : (channel note : ℕ) (log : LogKind) → concerns note_groups channel log ≡ false → note_log_says channel note log ≡ None
note_silent channel note (kinds.Control at number value) h = rw h refl
note_silent channel note (kinds.Count at number count) h = rw h refl
note_silent channel note (kinds.NoteOff at other) h = rw h refl
note_silent channel note (kinds.NoteOn at other velocity soon) h = rw h refl
note_silent channel note log h = refl

last_says : (channel note : ℕ) → channel < 16 → note < 128 → LastSays (λ s. note_of s channel note) (note_says channel note)
last_says channel note l m s command is = (by_part s command is).note channel note l m

pub note_is : (channel note : ℕ) → channel < 16 → note < 128 → IsPart channel note_groups (λ s. note_of s channel note) (note_log_says channel note)
note_is channel note l m = record {
  absent = ap (λ c. value_at c.notes note) (no_channel_at channel l) ∙ no_value note m;
  counted = λ s count. refl;
  session = λ s log. ap (λ channels. value_at (nth_channel channels channel).notes note) (session_channels s log);
  set = λ s log is. command_set (λ s. note_of s channel note) (note_says channel note) (last_says channel note l m)
      (record {
        program = λ s at value w. (program_alone s at value w).note channel note l m refl;
        toggles = λ s at count w. (toggles_alone s at count w).note channel note l m refl;
        high = λ s at nrpn high low value w. (param_high_alone s at nrpn high low value w).note channel note l m refl;
        low = λ s at nrpn high low value w. (param_low_alone s at nrpn high low value w).note channel note l m refl;
      }) s log is;
  silent = note_silent channel note;
}

-- ## All Notes Off and its like

abbrev pub silences : ℕ → Bool
silences number = clears_notes (control_kind number)

abbrev is_silence : ℕ → Bool
is_silence number = (eqb number 120 || eqb number 123) || leb 124 number

pub silences_are : (number : ℕ) → silences number ≡ is_silence number
unfolding control_kind
silences_are number = grind (arith, nat_tests)

same_item : (number other : ℕ) → is_silence number ≡ true → eqb (item_of number) (item_of other) ≡ true → is_silence other ≡ true
unfolding item_of
same_item number other h e = grind (arith, nat_tests)

is_coded : (number : ℕ) → is_silence number ≡ true → is_entry number ≡ false
unfolding is_entry
is_coded number h = grind (arith, nat_tests)

stays : (number : ℕ) → is_silence number ≡ true → is_kept number ≡ true
unfolding is_kept
stays number h = grind (arith, nat_tests)

pub silences_drop : AreDrops silences
silences_drop = record {
  coded = λ number h. is_coded number (sym (silences_are number) ∙ h);
  kept = λ number h. stays number (sym (silences_are number) ∙ h);
  item = λ number other h e. silences_are other ∙ same_item number other (sym (silences_are number) ∙ h) e;
}

or_none : (b : Bool) → (b || false) ≡ b
or_none true = refl
or_none false = refl

pub notes_ended : (channel : ℕ) (command : Command) → (is_drop silences channel command || is_reset command) ≡ ends_notes channel command
notes_ended channel (commands.Control at number value) = or_none (eqb at channel && silences number)
notes_ended channel command = refl

-- ## The notes' chapter

-- what an event says of a note, apart where it is released and where it is struck
abbrev pub releases : (note : ℕ) → NoteEvent → Bool
releases note (Struck other velocity) = false
releases note (Released other velocity) = eqb other note
releases note Cleared = false
releases note Other = false

abbrev pub strikes : (note : ℕ) → NoteEvent → Option (Option ℕ)
strikes note (Struck other velocity) = cond (eqb other note) (Some (sounding velocity)) None
strikes note (Released other velocity) = None
strikes note Cleared = None
strikes note Other = None

abbrev event_says : (note : ℕ) → NoteEvent → Option (Option ℕ)
event_says note event = over (strikes note event) (ended (releases note event))

abbrev is_cleared : NoteEvent → Bool
is_cleared (Struck other velocity) = false
is_cleared (Released other velocity) = false
is_cleared Cleared = true
is_cleared Other = false

-- a note of 128 is among them
among_notes : (note first n : ℕ) → first ≤ note → note < first + n → list_any (λ k. eqb note k) (range_with_len first n) ≡ true
among_notes note first zero l u = absurd (omega (arith, l, u))
among_notes note first (suc n) l u =
    elim (cases_Bool (eqb note first)) [
      | inl t ↦ rw t refl
      | inr f ↦
          let apart : note ≡ first → ⊥ = λ e. (let t : eqb note first ≡ true = eq-eqb note first e in let b : true ≡ false = sym t ∙ f in cc) in
          rw f (among_notes note (first + 1) n (omega (arith, l, apart)) (omega (arith, u)))
    ]

self : (n : ℕ) → eqb n n ≡ true
self n = eq-eqb n n refl

turned : (n k : ℕ) → eqb n k ≡ false → eqb k n ≡ false
turned n k h = grind (arith, nat_tests)

one_released : (channel note : ℕ) (fresh : Bool) (notes : List ℕ) (n : ℕ) → final (log_says (note_log_says channel note)) (released_log channel fresh notes n) ≡ cond (has_note notes n) (ended (eqb n note)) None
one_released channel note fresh notes n =
    elim (cases_Bool (has_note notes n)) [ inl t ↦ rw (t, self channel) refl | inr f ↦ rw f refl ]

pub released_list : (channel note : ℕ) (fresh : Bool) (notes : List ℕ) → note < 128 → final (log_says (note_log_says channel note)) (released_said channel fresh notes) ≡ ended (has_note notes note)
unfolding released_said
released_list channel note fresh notes m =
    let says : ℕ → Option (Option ℕ) = λ n. cond (has_note notes n) (ended (eqb n note)) None in
    final-flat_map (log_says (note_log_says channel note)) (released_log channel fresh notes) (range_with_len 0 128)
    ∙ final-same (λ n. final (log_says (note_log_says channel note)) (released_log channel fresh notes n)) says (one_released channel note fresh notes) (range_with_len 0 128)
    ∙ final-one says note (range_with_len 0 128)
    (λ k f. rw (turned note k f) (elim (cases_Bool (has_note notes k)) [ inl a ↦ rw a refl | inr b ↦ rw b refl ]))
    (λ k e. ap says (sym (eqb-true note k e))) (among_notes note 0 128 (omega arith) (omega (arith, m)))
    ∙ rw (self note) refl

pub any-filter_map : (channel note : ℕ) (places : List Sent) → has_note (released channel places) note ≡ list_any (λ place. releases note (event_at channel place)) places
any-filter_map channel note [] = refl
any-filter_map channel note (x ∷ xs) = by_event (event_at channel x) (any-filter_map channel note xs)
  where
    by_event : (event : NoteEvent) → has_note (released channel xs) note ≡ list_any (λ place. releases note (event_at channel place)) xs →
        has_note (cons_option (released_note event) (released channel xs)) note ≡ (releases note event || list_any (λ place. releases note (event_at channel place)) xs)
    by_event (Struck other velocity) ih = ih
    by_event (Released other velocity) ih = ap (λ b. eqb other note || b) ih
    by_event Cleared ih = ih
    by_event Other ih = ih

pub released_heard : (channel note checkpoint packet tick : ℕ) (sent : List Sent) → note < 128 →
    final (log_says (note_log_says channel note)) (released_logs channel checkpoint packet tick sent) ≡ final (λ place. ended (releases note (event_at channel place))) (coded_notes channel checkpoint packet sent)
released_heard channel note checkpoint packet tick sent m =
    let places = coded_notes channel checkpoint packet sent in
    released_list channel note (released_fresh channel packet places) (released channel places) m
    ∙ ap (λ b. ended b) (any-filter_map channel note places)
    ∙ sym (final-ended (λ place. releases note (event_at channel place)) places)

one_struck : (channel note : ℕ) (fresh soon : Bool) (event : NoteEvent) → final (log_says (note_log_says channel note)) (struck_log channel fresh soon event) ≡ strikes note event
one_struck channel note fresh soon (Struck other velocity) = rw (self channel) refl
one_struck channel note fresh soon (Released other velocity) = refl
one_struck channel note fresh soon Cleared = refl
one_struck channel note fresh soon Other = refl

pub struck_heard : (channel note checkpoint packet tick : ℕ) (sent : List Sent) →
    final (log_says (note_log_says channel note)) (struck_logs channel checkpoint packet tick sent) ≡ final (λ place. strikes note (event_at channel place)) (coded_notes channel checkpoint packet sent)
struck_heard channel note checkpoint packet tick sent =
    final-flat_map (log_says (note_log_says channel note)) (struck_said channel packet tick) (coded_notes channel checkpoint packet sent)
    ∙ final-same (λ place. final (log_says (note_log_says channel note)) (struck_said channel packet tick place)) (λ place. strikes note (event_at channel place))
    (λ place. one_struck channel note (is_fresh packet place) _ (event_at channel place)) (coded_notes channel checkpoint packet sent)

same_note : (n m note : ℕ) → eqb n note ≡ true → eqb n m ≡ true → eqb m note ≡ true
same_note n m note h e = grind (arith, nat_tests)

pub two_notes : (n m note : ℕ) → eqb n note ≡ true → eqb m note ≡ true → eqb n m ≡ true
two_notes n m note h e = grind (arith, nat_tests)

pub spoken : (b : Bool) (value : Option ℕ) → speaks (cond b (Some value) None) ≡ true → b ≡ true
spoken true value h = refl
spoken false value h = cc

pub spoken_end : (b : Bool) → speaks (ended {X = ℕ} b) ≡ true → b ≡ true
spoken_end true h = refl
spoken_end false h = cc

-- a note that is struck and then released isn't coded as struck
pub struck_ended : (note : ℕ) (event later : NoteEvent) → speaks (strikes note event) ≡ true → speaks (ended {X = ℕ} (releases note later)) ≡ true → event_ends event later ≡ true
struck_ended note (Struck n velocity) (Released k other) h e = two_notes n k note (spoken (eqb n note) (sounding velocity) h) (spoken_end (eqb k note) e)
struck_ended note (Struck n velocity) (Struck k other) h e = absurd (let f : false ≡ true = e in cc)
struck_ended note (Struck n velocity) Cleared h e = refl
struck_ended note (Struck n velocity) Other h e = absurd (let f : false ≡ true = e in cc)
struck_ended note (Released n velocity) later h e = absurd (let f : false ≡ true = h in cc)
struck_ended note Cleared later h e = absurd (let f : false ≡ true = h in cc)
struck_ended note Other later h e = absurd (let f : false ≡ true = h in cc)

-- the note of an event that says something of it
of_note : (note : ℕ) (event later : NoteEvent) → speaks (event_says note event) ≡ true → event_ends event later ≡ true → speaks (over (event_says note later) (ended (is_cleared later))) ≡ true
of_note note event later h e = said_later later (concerned note event later h e)
  where
    concerned : (note : ℕ) (event later : NoteEvent) → speaks (event_says note event) ≡ true → event_ends event later ≡ true → touches note later ≡ true
    concerned note (Struck n velocity) later h e = at_note n note later (spoken_over (eqb n note) (sounding velocity) h) e
      where
        spoken_over : (b : Bool) (value : Option ℕ) → speaks (over (cond b (Some value) None) None) ≡ true → b ≡ true
        spoken_over true value h = refl
        spoken_over false value h = cc

        at_note : (n note : ℕ) (later : NoteEvent) → eqb n note ≡ true → touches n later ≡ true → touches note later ≡ true
        at_note n note later t c = let same : n ≡ note = eqb-true n note t in subst (λ k. touches k later ≡ true) same c
    concerned note (Released n velocity) later h e =
        let same : n ≡ note = eqb-true n note (spoken_end (eqb n note) h) in subst (λ k. touches k later ≡ true) same e
    concerned note Cleared later h e = absurd (let f : false ≡ true = h in cc)
    concerned note Other later h e = absurd (let f : false ≡ true = h in cc)

    said_later : (later : NoteEvent) → touches note later ≡ true → speaks (over (event_says note later) (ended (is_cleared later))) ≡ true
    said_later (Struck n velocity) c = let t : eqb n note ≡ true = same_note note n note (self note) c in rw t refl
    said_later (Released n velocity) c = let t : eqb n note ≡ true = same_note note n note (self note) c in rw t refl
    said_later Cleared c = refl
    said_later Other c = absurd (let f : false ≡ true = c in cc)

cleared_ends : (note : ℕ) (event later : NoteEvent) → speaks (event_says note event) ≡ true → is_cleared later ≡ true → event_ends event later ≡ true
cleared_ends note (Struck n velocity) Cleared h c = refl
cleared_ends note (Released n velocity) Cleared h c = refl
cleared_ends note Cleared later h c = absurd (let f : false ≡ true = h in cc)
cleared_ends note Other later h c = absurd (let f : false ≡ true = h in cc)
cleared_ends note event (Struck n velocity) h c = absurd (let f : false ≡ true = c in cc)
cleared_ends note event (Released n velocity) h c = absurd (let f : false ≡ true = c in cc)
cleared_ends note event Other h c = absurd (let f : false ≡ true = c in cc)

by_end : (b : Bool) → b ≡ is_cleared (cond b Cleared Other)
by_end true = refl
by_end false = refl

no_clear : (a b : Bool) (note velocity : ℕ) → false ≡ is_cleared (cond a (cond b (Released note 64) (Struck note velocity)) Other)
no_clear true true note velocity = refl
no_clear true false note velocity = refl
no_clear false b note velocity = refl

no_clear_off : (a : Bool) (note velocity : ℕ) → false ≡ is_cleared (cond a (Released note velocity) Other)
no_clear_off true note velocity = refl
no_clear_off false note velocity = refl

clears : (channel : ℕ) (command : Command) → ends_notes channel command ≡ is_cleared (note_event channel command)
clears channel (commands.NoteOn at note velocity) = no_clear (eqb at channel) (eqb velocity 0) note velocity
clears channel (commands.NoteOff at note velocity) = no_clear_off (eqb at channel) note velocity
clears channel command = by_end (ends_notes channel command)

said_so : (channel note : ℕ) (command : Command) → over (event_says note (note_event channel command)) (ended (is_cleared (note_event channel command))) ≡ note_says channel note command
said_so channel note (commands.NoteOn at other velocity) =
    elim (cases_Bool (eqb at channel)) [
      | inl t ↦ elim (cases_Bool (eqb velocity 0)) [
        | inl z ↦ elim (cases_Bool (eqb other note)) [ inl n ↦ rw (t, z, n) refl | inr n ↦ rw (t, z, n) refl ]
        | inr z ↦ elim (cases_Bool (eqb other note)) [ inl n ↦ rw (t, z, n, z) refl | inr n ↦ rw (t, z, n) refl ]
      ]
      | inr f ↦ rw f refl
    ]
said_so channel note (commands.NoteOff at other velocity) =
    elim (cases_Bool (eqb at channel)) [
      | inl t ↦ elim (cases_Bool (eqb other note)) [ inl n ↦ rw (t, n) refl | inr n ↦ rw (t, n) refl ]
      | inr f ↦ rw f refl
    ]
said_so channel note command = ended_so (ends_notes channel command)
  where
    ended_so : (b : Bool) → over (event_says note (cond b Cleared Other)) (ended (is_cleared (cond b Cleared Other))) ≡ ended b
    ended_so true = refl
    ended_so false = refl

-- The logs of a journal say of a note what the commands from the checkpoint on say.
pub note_heard : (channel note : ℕ) → channel < 16 → note < 128 → (checkpoint packet tick : ℕ) (sent : List Sent) → InOrder packet_of sent →
    journal_says (note_log_says channel note) channel checkpoint packet tick sent ≡ final (place_says (note_says channel note)) (seen_since checkpoint packet sent)
unfolding all_groups
note_heard channel note l m checkpoint packet tick sent o =
    let seen = below packet_of packet sent in
    let places = coded_notes channel checkpoint packet sent in
    let s = final (log_says (note_log_says channel note)) (struck_logs channel checkpoint packet tick sent) in
    let r = final (log_says (note_log_says channel note)) (released_logs channel checkpoint packet tick sent) in
    let c = final (log_says (note_log_says channel note)) (c_said channel checkpoint packet sent) in
    let reset = final {V = ℕ} (λ place. ended (resets place)) (seen_since checkpoint packet sent) in
    let struck : Sent → Option (Option ℕ) = λ place. strikes note (event_at channel place) in
    let off : Sent → Option (Option ℕ) = λ place. ended (releases note (event_at channel place)) in
    let own : Sent → Option (Option ℕ) = λ place. event_says note (event_at channel place) in
    let ends : Sent → Option (Option ℕ) = λ place. ended (is_cleared (event_at channel place)) in
    let stages : over s r ≡ final own places =
    ap (λ (a : Option (Option ℕ)). over a r) (struck_heard channel note checkpoint packet tick sent)
    ∙ ap (over (final struck places)) (released_heard channel note checkpoint packet tick sent m)
    ∙ final-stages (note_ends channel) off struck (λ x y h e. struck_ended note (event_at channel x) (event_at channel y) h e) places (Unended-coded (note_ends channel) packet_of checkpoint seen) in
    let dropped : over c reset ≡ final ends (seen_since checkpoint packet sent) =
    drops_heard channel silences silences_drop (note_says channel note) (λ number value. dropping number) checkpoint packet sent o
    ∙ final-same (λ place. ended (is_drop silences channel place.command || resets place)) ends (λ place. ap (λ b. ended b) (notes_ended channel place.command ∙ clears channel place.command)) (seen_since checkpoint packet sent) in
    rw (groups_heard channel note_groups (λ s. note_of s channel note) (note_log_says channel note) l (note_is channel note l m) checkpoint packet tick sent, resets_heard {V = ℕ} checkpoint packet tick sent o)
    (sym (over_assoc (over s r) c reset)
    ∙ ap (over (over s r)) dropped
    ∙ ap (λ (a : Option (Option ℕ)). over a (final ends (seen_since checkpoint packet sent))) stages
    ∙ final-coded (note_ends channel) own ends
    (λ x y h e. of_note note (event_at channel x) (event_at channel y) h e)
    (λ x y h e. cleared_ends note (event_at channel x) (event_at channel y) h (spoken_end (is_cleared (event_at channel y)) e))
    packet_of checkpoint seen (InOrder-filter packet_of _ sent o)
    ∙ final-same (λ place. over (own place) (ends place)) (place_says (note_says channel note)) (λ place. said_so channel note place.command) (seen_since checkpoint packet sent))
  where
    dropping : (number : ℕ) → ended {X = ℕ} (eqb channel channel && silences number) ≡ ended (silences number)
    dropping number = rw (self channel) refl

-- The notes of each channel are repaired.
pub note_repaired : (channel note : ℕ) → channel < 16 → note < 128 → Repairs (λ s. note_of s channel note)
note_repaired channel note l m =
    repairs channel note_groups (λ s. note_of s channel note) (note_log_says channel note) (note_says channel note) l (note_is channel note l m) (last_says channel note l m) (λ checkpoint packet tick sent o. note_heard channel note l m checkpoint packet tick sent o)
