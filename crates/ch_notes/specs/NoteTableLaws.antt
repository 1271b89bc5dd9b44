-- The table of Chapter N stands for what the chapter codes.
use Rattle.std.proofs.Common.{◌≡◌, ℕ, ◌+◌, ◌*◌, ◌<◌, ◌≤◌, Bool, true, false, cond, not, ◌||◌, ◌&&◌, eqb, ltb, List, [], ◌∷◌, ◌++◌, length, get_or, set, refl, sym, ap, ◌∙◌, arith, length-append, inl, inr}
use Rattle.std.specs.List.{list_any, flat_map, filter, AllByRecursion}
use Rattle.std.proofs.lemmas.Bool.{cases_Bool, eqb-false, lt-ltb}
use Rattle.std.proofs.lemmas.List.{get_or-set_same, get_or-set_other, map-append}
use Rattle.jm_recency.specs.Recency.{without, touched}
use Rattle.jm_cmds.specs.declared.commands.Command.{Command}
use Rattle.jm_cmds.specs.declared.commands.Command.TheVariants as commands
use Rattle.jm_cmds.specs.declared.history.Sent.{Sent}
use Rattle.jm_cmds.specs.Channels.{own_channel, IsForChannel, SystemMeansOne, own-event}
use Rattle.jm_cmds.specs.History.{coded}
use Rattle.jm_cmds.specs.HistoryLaws.{coded-push}
use Rattle.jm_cmds.specs.KeptItem.{kept_since, kept_fresh, all_below}
use Rattle.jm_cmds.specs.Sent.{packet_of, is_fresh, s_of}
use Rattle.ch_notes.specs.declared.events.NoteEvent.{NoteEvent}
use Rattle.ch_notes.specs.declared.events.NoteEvent.TheVariants.{Struck, Released, Cleared, Other}
use Rattle.ch_notes.specs.declared.note_rows.NoteRows.{NoteRows}
use Rattle.ch_notes.specs.declared.shape.Shape.{Shape}
use Rattle.ch_notes.specs.NoteEvent.{note_event, event_at, concerns, event_ends, note_ends, IsWithin, AreWithin}
use Rattle.ch_notes.specs.Shape.{no_notes, shape_step, counted, shaped, shape_len}
use Rattle.ch_notes.specs.ChapterN.{event_log, note_log, is_struck, is_released, late_bit, chapter_of, chapter_n, fresh_n}
use Rattle.ch_notes.specs.ChapterLaws.{chapter_of-shaped, length-shaped}
use Rattle.ch_notes.specs.CountLaws.{counted-fresh}
use Rattle.ch_notes.specs.KeptRows.{cons_row, rows_of, RowsUpTo}
use Rattle.ch_notes.specs.RowLaws.{up_to_later, up_to_join, up_to_filter, up_to_one, rows_of-append, rows_of-cond, rows_of-later, stamps_up_to, keys_without}
use Rattle.ch_notes.specs.NoteTable.{NoteRow, note_row, note_row_at, notes_kept, note_noted, event_note, note_row_log, note_lines, rows_counted, notes_text, RowsWithin, key_event, note_row_of, note_rows}

-- ## What a command means for its own channel

pub note_system : SystemMeansOne note_event
note_system commands.TuneRequest h a b = refl
note_system commands.Clock h a b = refl
note_system commands.Start h a b = refl
note_system commands.Continue h a b = refl
note_system commands.Stop h a b = refl
note_system commands.ActiveSensing h a b = refl
note_system commands.SystemReset h a b = refl
note_system (commands.QuarterFrame value) h a b = refl
note_system (commands.SongPosition value) h a b = refl
note_system (commands.SongSelect song) h a b = refl
note_system (commands.Sysex octets) h a b = refl
note_system (commands.NoteOff channel note velocity) h a b = absurd cc
note_system (commands.NoteOn channel note velocity) h a b = absurd cc
note_system (commands.PolyPressure channel note value) h a b = absurd cc
note_system (commands.Control channel number value) h a b = absurd cc
note_system (commands.Program channel program) h a b = absurd cc
note_system (commands.Pressure channel value) h a b = absurd cc
note_system (commands.Wheel channel first second) h a b = absurd cc

-- ## One command more

-- the command of a place, where it isn't ended
left_one : (e event : NoteEvent) (packet tick : ℕ) (left rows : List (ℕ × NoteRow)) → left ≡ filter (λ r. not (event_ends r.1.event e)) rows →
    cond (not (event_ends event e)) (cons_row packet (note_row tick event) left) left ≡ filter (λ r. not (event_ends r.1.event e)) (cons_row packet (note_row tick event) rows)
left_one e (Struck note velocity) packet tick left rows h =
    ap (λ (l : List (ℕ × NoteRow)). cond (not (concerns note e)) ((packet, record { tick = tick; event = Struck note velocity }) ∷ l) l) h
left_one e (Released note velocity) packet tick left rows h =
    ap (λ (l : List (ℕ × NoteRow)). cond (not (concerns note e)) ((packet, record { tick = tick; event = Released note velocity }) ∷ l) l) h
left_one e Cleared packet tick left rows h = h
left_one e Other packet tick left rows h = h

left_all : (channel : ℕ) (e : NoteEvent) (xs : List Sent) →
    rows_of (note_row_at channel) (filter (λ x. not (event_ends (event_at channel x) e)) xs) ≡ filter (λ r. not (event_ends r.1.event e)) (rows_of (note_row_at channel) xs)
left_all channel e [] = refl
left_all channel e (x ∷ xs) =
    let rest = filter (λ x. not (event_ends (event_at channel x) e)) xs in
    rows_of-cond (note_row_at channel) x rest (not (event_ends (event_at channel x) e))
    ∙ left_one e (event_at channel x) x.packet x.tick (rows_of (note_row_at channel) rest) (rows_of (note_row_at channel) xs) (left_all channel e xs)

pub notes_push : (channel from packet tick : ℕ) (command : Command) (sent : List Sent) → IsForChannel channel command → from ≤ packet →
    note_noted (note_event (own_channel command) command) packet tick (notes_kept channel from sent)
    ≡ notes_kept channel from (sent ++ record { packet = packet; tick = tick; command = command } ∷ [])
unfolding notes_kept
notes_push channel from packet tick command sent h l =
    let y : Sent = record { packet = packet; tick = tick; command = command } in
    let e = note_event channel command in
    let places = coded (note_ends channel) packet_of from sent in
    let old = rows_of (note_row_at channel) places in
    let rest = filter (λ x. not (note_ends channel x y)) places in
    let all : rows_of (note_row_at channel) (coded (note_ends channel) packet_of from (sent ++ y ∷ [])) ≡ note_noted e packet tick old =
    ap (rows_of (note_row_at channel)) (coded-push (note_ends channel) packet_of from sent y l)
    ∙ rows_of-append (note_row_at channel) rest (y ∷ [])
    ∙ ap (λ (k : List (ℕ × NoteRow)). k ++ rows_of (note_row_at channel) (y ∷ [])) (left_all channel e places) in
    ap (λ ev. note_noted ev packet tick old) (own-event note_event note_system channel command h) ∙ sym all

pub notes_later : (channel from later : ℕ) (sent : List Sent) → from ≤ later → notes_kept channel later sent ≡ kept_since later (notes_kept channel from sent)
unfolding notes_kept
notes_later channel from later sent l = rows_of-later (note_row_at channel) (note_ends channel) from later sent l

pub notes_none : (channel : ℕ) → notes_kept channel 0 [] ≡ []
unfolding notes_kept
notes_none channel = refl

-- ## The chapter

within_one : (packet tick : ℕ) (e : NoteEvent) (rows : List (ℕ × NoteRow)) (P : Type 0) → (RowsWithin rows → P) → RowsWithin (cons_row packet (note_row tick e) rows) → IsWithin e × P
within_one packet tick (Struck note velocity) rows P f h = (h.0, f h.1)
within_one packet tick (Released note velocity) rows P f h = (h.0, f h.1)
within_one packet tick Cleared rows P f h = (tt, f h)
within_one packet tick Other rows P f h = (tt, f h)

places_within : (channel : ℕ) (xs : List Sent) → RowsWithin (rows_of (note_row_at channel) xs) → AreWithin channel xs
places_within channel [] h = tt
places_within channel (x ∷ xs) h =
    within_one x.packet x.tick (event_at channel x) (rows_of (note_row_at channel) xs) (AreWithin channel xs) (λ w. places_within channel xs w) h

step_one : (packet at tick : ℕ) (s : Shape) (e : NoteEvent) (rows : List (ℕ × NoteRow)) →
    rows_counted packet (shape_step s (eqb (at + 1) packet) e) rows ≡ rows_counted packet s (cons_row at (note_row tick e) rows)
step_one packet at tick s (Struck note velocity) rows = refl
step_one packet at tick s (Released note velocity) rows = refl
step_one packet at tick s Cleared rows = refl
step_one packet at tick s Other rows = refl

counted_same : (channel packet : ℕ) (s : Shape) (xs : List Sent) → counted channel packet s xs ≡ rows_counted packet s (rows_of (note_row_at channel) xs)
counted_same channel packet s [] = refl
counted_same channel packet s (x ∷ xs) =
    counted_same channel packet (shape_step s (is_fresh packet x) (event_at channel x)) xs
    ∙ step_one packet x.packet x.tick s (event_at channel x) (rows_of (note_row_at channel) xs)

line_one : (packet tick at sent_at : ℕ) (e : NoteEvent) (rows : List (ℕ × NoteRow)) →
    event_log (s_of (eqb (at + 1) packet)) (late_bit sent_at tick) e ++ note_lines packet tick rows ≡ note_lines packet tick (cons_row at (note_row sent_at e) rows)
line_one packet tick at sent_at (Struck note velocity) rows = refl
line_one packet tick at sent_at (Released note velocity) rows = refl
line_one packet tick at sent_at Cleared rows = refl
line_one packet tick at sent_at Other rows = refl

lines_same : (channel packet tick : ℕ) (xs : List Sent) → flat_map (note_log channel packet tick) xs ≡ note_lines packet tick (rows_of (note_row_at channel) xs)
lines_same channel packet tick [] = refl
lines_same channel packet tick (x ∷ xs) =
    ap (λ (l : List ℕ). note_log channel packet tick x ++ l) (lines_same channel packet tick xs)
    ∙ line_one packet tick x.packet x.tick (event_at channel x) (rows_of (note_row_at channel) xs)

pub notes_coded : (channel from packet tick : ℕ) (sent : List Sent) → RowsWithin (notes_kept channel from sent) → AllByRecursion (λ place. packet_of place < packet) sent →
    notes_text packet tick (notes_kept channel from sent) ≡ chapter_n channel from packet tick sent
unfolding notes_kept chapter_n
notes_coded channel from packet tick sent w h =
    let places = coded (note_ends channel) packet_of from sent in
    sym (
    ap (λ (s : List Sent). chapter_of channel packet tick (coded (note_ends channel) packet_of from s)) (all_below packet_of packet sent h)
    ∙ chapter_of-shaped channel packet tick places (places_within channel places w)
    ∙ ap (λ (s : Shape). shaped s (flat_map (note_log channel packet tick) places)) (counted_same channel packet no_notes places)
    ∙ ap (λ (l : List ℕ). shaped (rows_counted packet no_notes (rows_of (note_row_at channel) places)) l) (lines_same channel packet tick places)
    )

pub notes_fresh : (channel from packet : ℕ) (sent : List Sent) → AllByRecursion (λ place. packet_of place < packet) sent →
    (rows_counted packet no_notes (notes_kept channel from sent)).fresh ≡ fresh_n channel from packet sent
unfolding notes_kept fresh_n
notes_fresh channel from packet sent h =
    let test : Sent → Bool = λ place. (is_struck (event_at channel place) || is_released (event_at channel place)) && is_fresh packet place in
    let places = coded (note_ends channel) packet_of from sent in
    sym (
    ap (λ (s : List Sent). list_any test (coded (note_ends channel) packet_of from s)) (all_below packet_of packet sent h)
    ∙ sym (counted-fresh channel packet no_notes places)
    ∙ ap (λ (s : Shape). s.fresh) (counted_same channel packet no_notes places)
    )

-- ## The length

line_length : (s y : ℕ) (e : NoteEvent) (shape : Shape) (fresh : Bool) → length (event_log s y e) + 2 * shape.logs ≡ 2 * (shape_step shape fresh e).logs
line_length s y (Struck note velocity) shape fresh = omega arith
line_length s y (Released note velocity) shape fresh = omega arith
line_length s y Cleared shape fresh = omega arith
line_length s y Other shape fresh = omega arith

lines_length : (packet tick : ℕ) (shape : Shape) (rows : List (ℕ × NoteRow)) → length (note_lines packet tick rows) + 2 * shape.logs ≡ 2 * (rows_counted packet shape rows).logs
lines_length packet tick shape [] = omega arith
lines_length packet tick shape (r ∷ rs) =
    let fresh = kept_fresh packet r in
    let next = shape_step shape fresh r.1.event in
    let one = line_length (s_of fresh) (late_bit r.1.tick tick) r.1.event shape fresh in
    let more = lines_length packet tick next rs in
    omega (arith, length-append (note_row_log packet tick r) (note_lines packet tick rs), one, more)

pub notes_length : (packet tick : ℕ) (rows : List (ℕ × NoteRow)) → length (notes_text packet tick rows) ≡ shape_len (rows_counted packet no_notes rows)
notes_length packet tick rows =
    let s = rows_counted packet no_notes rows in
    length-shaped s (note_lines packet tick rows) (omega (arith, lines_length packet tick no_notes rows))

-- ## The arrays

own_note : (struck : Bool) (key velocity : ℕ) → event_note (key_event struck key velocity) ≡ key
own_note struck key velocity =
    elim (cases_Bool (struck && ltb 0 velocity)) [ inl t ↦ rw t refl | inr f ↦ rw f refl ]

ends_key : (struck : Bool) (key velocity : ℕ) (e : NoteEvent) → event_ends (key_event struck key velocity) e ≡ concerns key e
ends_key struck key velocity e =
    elim (cases_Bool (struck && ltb 0 velocity)) [ inl t ↦ rw t refl | inr f ↦ rw f refl ]

pub notes_stamps : (rows : NoteRows) (packet : ℕ) (es : List (ℕ × ℕ)) → RowsUpTo packet (note_rows rows es) → AllByRecursion (λ (e : ℕ × ℕ). e.1 ≤ packet) es
notes_stamps rows packet es h = stamps_up_to (note_row_of rows) packet es h

apart_keys : (k key : ℕ) → eqb k key ≡ false → k ≡ key → ⊥
apart_keys k key f e = eqb-false k key f e

pub notes_put : (rows : NoteRows) (es : List (ℕ × ℕ)) (note velocity packet tick : ℕ) (struck : Bool) → note < length rows.velocities → note < length rows.struck → note < length rows.ticks →
    note_rows (record { velocities = set rows.velocities note velocity; struck = set rows.struck note struck; ticks = set rows.ticks note tick }) (touched note packet es)
    ≡ filter (λ r. not (eqb (event_note r.1.event) note)) (note_rows rows es) ++ (packet, record { tick = tick; event = key_event struck note velocity }) ∷ []
notes_put rows es note velocity packet tick struck lv ls lt =
    let new_rows : NoteRows = record { velocities = set rows.velocities note velocity; struck = set rows.struck note struck; ticks = set rows.ticks note tick } in
    let row_new = note_row_of new_rows in
    let other : (k : ℕ) → eqb k note ≡ false → row_new k ≡ note_row_of rows k =
    λ k f. rw (get_or-set_other rows.velocities note k velocity 0 (apart_keys k note f), get_or-set_other rows.struck note k struck false (apart_keys k note f), get_or-set_other rows.ticks note k tick 0 (apart_keys k note f)) refl in
    map-append (λ (e : ℕ × ℕ). (e.1, row_new e.0)) (without note es) ((note, packet) ∷ [])
    ∙ ap (λ (l : List (ℕ × NoteRow)). l ++ (packet, row_new note) ∷ [])
    (keys_without (note_row_of rows) row_new (λ r. event_note r.event) note (λ k. own_note (get_or rows.struck k false) k (get_or rows.velocities k 0)) other es)
    ∙ ap (λ (row : NoteRow). filter (λ r. not (eqb (event_note r.1.event) note)) (note_rows rows es) ++ (packet, row) ∷ [])
    (rw (get_or-set_same rows.velocities note velocity 0 lv, get_or-set_same rows.struck note struck false ls, get_or-set_same rows.ticks note tick 0 lt) refl)

same_filter : (rows : NoteRows) (note : ℕ) (e : NoteEvent) → ((k : ℕ) → concerns k e ≡ eqb k note) → (es : List (ℕ × ℕ)) →
    filter (λ r. not (eqb (event_note r.1.event) note)) (note_rows rows es) ≡ filter (λ r. not (event_ends r.1.event e)) (note_rows rows es)
same_filter rows note e h [] = refl
same_filter rows note e h (x ∷ xs) =
    let ih = same_filter rows note e h xs in
    let struck = get_or rows.struck x.0 false in
    let velocity = get_or rows.velocities x.0 0 in
    let row = note_row_of rows x.0 in
    let a : eqb (event_note row.event) note ≡ eqb x.0 note = ap (λ (n : ℕ). eqb n note) (own_note struck x.0 velocity) in
    let b : event_ends row.event e ≡ eqb x.0 note = ends_key struck x.0 velocity e ∙ h x.0 in
    ap (λ (t : Bool). cond (not t) ((x.1, row) ∷ filter (λ r. not (eqb (event_note r.1.event) note)) (note_rows rows xs)) (filter (λ r. not (eqb (event_note r.1.event) note)) (note_rows rows xs))) (a ∙ sym b)
    ∙ ap (λ (l : List (ℕ × NoteRow)). cond (not (event_ends row.event e)) ((x.1, row) ∷ l) l) ih

pub noted_struck : (rows : NoteRows) (es : List (ℕ × ℕ)) (note velocity packet tick : ℕ) → 0 < velocity →
    filter (λ r. not (eqb (event_note r.1.event) note)) (note_rows rows es) ++ (packet, record { tick = tick; event = key_event true note velocity }) ∷ []
    ≡ note_noted (Struck note velocity) packet tick (note_rows rows es)
noted_struck rows es note velocity packet tick l =
    rw (lt-ltb 0 velocity l)
    (ap (λ (k : List (ℕ × NoteRow)). k ++ (packet, record { tick = tick; event = Struck note velocity }) ∷ []) (same_filter rows note (Struck note velocity) (λ k. refl) es))

pub noted_released : (rows : NoteRows) (es : List (ℕ × ℕ)) (note velocity packet tick : ℕ) →
    filter (λ r. not (eqb (event_note r.1.event) note)) (note_rows rows es) ++ (packet, record { tick = tick; event = key_event false note velocity }) ∷ []
    ≡ note_noted (Released note velocity) packet tick (note_rows rows es)
noted_released rows es note velocity packet tick =
    ap (λ (k : List (ℕ × NoteRow)). k ++ (packet, record { tick = tick; event = Released note velocity }) ∷ []) (same_filter rows note (Released note velocity) (λ k. refl) es)

pub noted_cleared : (rows : NoteRows) (es : List (ℕ × ℕ)) (packet tick : ℕ) → [] ≡ note_noted Cleared packet tick (note_rows rows es)
noted_cleared rows [] packet tick = refl
noted_cleared rows (x ∷ xs) packet tick =
    rw (ends_key (get_or rows.struck x.0 false) x.0 (get_or rows.velocities x.0 0) Cleared) (noted_cleared rows xs packet tick)

pub noted_other : (rows : NoteRows) (es : List (ℕ × ℕ)) (packet tick : ℕ) → note_rows rows es ≡ note_noted Other packet tick (note_rows rows es)
noted_other rows [] packet tick = refl
noted_other rows (x ∷ xs) packet tick =
    rw (ends_key (get_or rows.struck x.0 false) x.0 (get_or rows.velocities x.0 0) Other)
    (ap (λ (l : List (ℕ × NoteRow)). (x.1, note_row_of rows x.0) ∷ l) (noted_other rows xs packet tick))

pub note_up_to : (e : NoteEvent) (packet tick later : ℕ) (rows : List (ℕ × NoteRow)) → RowsUpTo packet rows → packet ≤ later → RowsUpTo later (note_noted e packet tick rows)
note_up_to e packet tick later rows h l =
    let left = filter (λ (r : ℕ × NoteRow). not (event_ends r.1.event e)) rows in
    up_to_join later left (cons_row packet (note_row tick e) [])
    (up_to_filter later (λ (r : ℕ × NoteRow). not (event_ends r.1.event e)) rows (up_to_later packet later rows l h)) (up_to_one packet later (note_row tick e) l)
