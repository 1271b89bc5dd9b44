-- The table of Chapter A stands for what the chapter codes.
use Rattle.std.proofs.Common.{◌≡◌, ℕ, ◌<◌, ◌≤◌, Bool, true, false, cond, not, ◌||◌, eqb, List, [], ◌∷◌, ◌++◌, Option, length, get_or, set, replicate, zero, suc, refl, sym, ap, ◌∙◌, arith, inl, inr}
use Rattle.std.specs.List.{list_any, filter, filter_map, cons_option, AllByRecursion}
use Rattle.std.proofs.Math.Bool.{or-false}
use Rattle.std.proofs.lemmas.Bool.{cases_Bool, eq-eqb, eqb-false}
use Rattle.std.proofs.lemmas.Bool.Decides.{nat_tests}
use Rattle.std.proofs.lemmas.List.{get_or-set_same, get_or-set_other, map-append}
use Rattle.std.proofs.lemmas.List.Sums.{fold-append}
use Rattle.jm_recency.specs.Recency.{holds, without, touched}
use Rattle.jm_cmds.specs.declared.commands.Command.{Command}
use Rattle.jm_cmds.specs.declared.commands.Command.TheVariants as commands
use Rattle.jm_cmds.specs.declared.history.Sent.{Sent}
use Rattle.jm_cmds.specs.Channels.{own_channel, IsForChannel, SystemMeansOne, own-event}
use Rattle.jm_cmds.specs.Control.{ends_notes}
use Rattle.jm_cmds.specs.HistoryLaws.{coded-push}
use Rattle.jm_cmds.specs.KeptItem.{kept_since, all_below}
use Rattle.jm_cmds.specs.Keys.{has_key}
use Rattle.jm_cmds.specs.Sent.{packet_of}
use Rattle.jm_chapter.specs.Logs.{listed, has_fresh}
use Rattle.ch_notes.specs.declared.presses.PolyEvent.{PolyEvent}
use Rattle.ch_notes.specs.declared.presses.PolyEvent.TheVariants.{Pressed, Dropped, Other}
use Rattle.ch_notes.specs.declared.poly_table.PressRows.{PressRows}
use Rattle.ch_notes.specs.PolyEvent.{poly_event, poly_at, poly_concerns, poly_event_ends, poly_ends, poly_key, pressed_note, presses}
use Rattle.ch_notes.specs.ChapterA.{muted_step, is_muted, press_logs, press_at, coded_presses, chapter_a, fresh_a, poly_count, has_poly}
use Rattle.ch_notes.specs.KeptRows.{cons_row, rows_of, RowsUpTo, row_fresh, rows_listed}
use Rattle.ch_notes.specs.RowLaws.{up_to_later, up_to_join, up_to_filter, rows_of-append, rows_of-same, rows_of-cond, rows_of-later, option_logs, listed_rows, fresh_rows, stamps_up_to, keys_without}
use Rattle.ch_notes.specs.PolyTable.{PressRow, press_row, press_row_at, presses_kept, mute, new_press, press_noted, press_row_logs, press_row_of, press_rows, has_press}

-- ## What a command means for its own channel

poly_system : SystemMeansOne poly_event
poly_system commands.TuneRequest h a b = refl
poly_system commands.Clock h a b = refl
poly_system commands.Start h a b = refl
poly_system commands.Continue h a b = refl
poly_system commands.Stop h a b = refl
poly_system commands.ActiveSensing h a b = refl
poly_system commands.SystemReset h a b = refl
poly_system (commands.QuarterFrame value) h a b = refl
poly_system (commands.SongPosition value) h a b = refl
poly_system (commands.SongSelect song) h a b = refl
poly_system (commands.Sysex octets) h a b = refl
poly_system (commands.NoteOff channel note velocity) h a b = absurd cc
poly_system (commands.NoteOn channel note velocity) h a b = absurd cc
poly_system (commands.PolyPressure channel note value) h a b = absurd cc
poly_system (commands.Control channel number value) h a b = absurd cc
poly_system (commands.Program channel program) h a b = absurd cc
poly_system (commands.Pressure channel value) h a b = absurd cc
poly_system (commands.Wheel channel first second) h a b = absurd cc

ends_system : SystemMeansOne ends_notes
ends_system commands.TuneRequest h a b = refl
ends_system commands.Clock h a b = refl
ends_system commands.Start h a b = refl
ends_system commands.Continue h a b = refl
ends_system commands.Stop h a b = refl
ends_system commands.ActiveSensing h a b = refl
ends_system commands.SystemReset h a b = refl
ends_system (commands.QuarterFrame value) h a b = refl
ends_system (commands.SongPosition value) h a b = refl
ends_system (commands.SongSelect song) h a b = refl
ends_system (commands.Sysex octets) h a b = refl
ends_system (commands.NoteOff channel note velocity) h a b = absurd cc
ends_system (commands.NoteOn channel note velocity) h a b = absurd cc
ends_system (commands.PolyPressure channel note value) h a b = absurd cc
ends_system (commands.Control channel number value) h a b = absurd cc
ends_system (commands.Program channel program) h a b = absurd cc
ends_system (commands.Pressure channel value) h a b = absurd cc
ends_system (commands.Wheel channel first second) h a b = absurd cc

-- ## One command more

apart : (note : ℕ) (e : PolyEvent) → poly_concerns note e ≡ false → presses note e ≡ false
apart note (Pressed other value) h = h
apart note Dropped h = refl
apart note Other h = refl

-- the pressure of a place, where it isn't ended
left_one : (muted : ℕ → Bool) (ends : Bool) (e event : PolyEvent) (packet : ℕ) (left rows : List (ℕ × PressRow)) → left ≡ filter (λ r. not (poly_concerns r.1.note e)) (mute ends rows) →
    cond (not (poly_event_ends event e)) (cons_row packet (press_row (λ n. cond (presses n e) false (muted n || ends)) event) left) left
    ≡ filter (λ r. not (poly_concerns r.1.note e)) (mute ends (cons_row packet (press_row muted event) rows))
left_one muted ends e (Pressed note value) packet left rows h =
    elim (cases_Bool (poly_concerns note e)) [
      | inl t ↦ rw t h
      | inr f ↦ rw (f, apart note e f) (ap (λ (l : List (ℕ × PressRow)). (packet, record { note = note; value = value; muted = muted note || ends }) ∷ l) h)
    ]
left_one muted ends e Dropped packet left rows h = h
left_one muted ends e Other packet left rows h = h

left_all : (channel : ℕ) (muted : ℕ → Bool) (ends : Bool) (e : PolyEvent) (xs : List Sent) →
    rows_of (λ x. press_row (λ n. cond (presses n e) false (muted n || ends)) (poly_at channel x)) (filter (λ x. not (poly_event_ends (poly_at channel x) e)) xs)
    ≡ filter (λ r. not (poly_concerns r.1.note e)) (mute ends (rows_of (λ x. press_row muted (poly_at channel x)) xs))
left_all channel muted ends e [] = refl
left_all channel muted ends e (x ∷ xs) =
    let f : Sent → Option PressRow = λ x. press_row (λ n. cond (presses n e) false (muted n || ends)) (poly_at channel x) in
    let rest = filter (λ x. not (poly_event_ends (poly_at channel x) e)) xs in
    rows_of-cond f x rest (not (poly_event_ends (poly_at channel x) e))
    ∙ left_one muted ends e (poly_at channel x) x.packet (rows_of f rest) (rows_of (λ x. press_row muted (poly_at channel x)) xs) (left_all channel muted ends e xs)

new_one : (muted : ℕ → Bool) (ends : Bool) (e : PolyEvent) (packet : ℕ) → cons_row packet (press_row (λ n. cond (presses n e) false (muted n || ends)) e) [] ≡ new_press packet e
new_one muted ends (Pressed note value) packet = rw (eq-eqb note note refl) refl
new_one muted ends Dropped packet = refl
new_one muted ends Other packet = refl

press_same : (f g : ℕ → Bool) → ((n : ℕ) → f n ≡ g n) → (e : PolyEvent) → press_row f e ≡ press_row g e
press_same f g h (Pressed note value) = rw (h note) refl
press_same f g h Dropped = refl
press_same f g h Other = refl

pub presses_push : (channel from packet tick : ℕ) (command : Command) (sent : List Sent) → IsForChannel channel command → from ≤ packet →
    press_noted (ends_notes (own_channel command) command) (poly_event (own_channel command) command) packet (presses_kept channel from sent)
    ≡ presses_kept channel from (sent ++ record { packet = packet; tick = tick; command = command } ∷ [])
unfolding presses_kept
presses_push channel from packet tick command sent h l =
    let y : Sent = record { packet = packet; tick = tick; command = command } in
    let e = poly_event channel command in
    let ends = ends_notes channel command in
    let muted : ℕ → Bool = λ n. is_muted channel n sent in
    let f : Sent → Option PressRow = λ x. press_row (λ n. cond (presses n e) false (muted n || ends)) (poly_at channel x) in
    let places = coded_presses channel from sent in
    let old = rows_of (press_row_at channel sent) places in
    let rest = filter (λ x. not (poly_ends channel x y)) places in
    let same : (x : Sent) → press_row_at channel (sent ++ y ∷ []) x ≡ f x =
    λ x. press_same (λ n. is_muted channel n (sent ++ y ∷ [])) (λ n. cond (presses n e) false (muted n || ends)) (λ n. fold-append (muted_step channel n) false sent (y ∷ [])) (poly_at channel x) in
    let all : rows_of (press_row_at channel (sent ++ y ∷ [])) (coded_presses channel from (sent ++ y ∷ [])) ≡ press_noted ends e packet old =
    rows_of-same (press_row_at channel (sent ++ y ∷ [])) f same (coded_presses channel from (sent ++ y ∷ []))
    ∙ ap (rows_of f) (coded-push (poly_ends channel) packet_of from sent y l)
    ∙ rows_of-append f rest (y ∷ [])
    ∙ ap (λ (k : List (ℕ × PressRow)). k ++ rows_of f (y ∷ [])) (left_all channel muted ends e places)
    ∙ ap (λ (k : List (ℕ × PressRow)). filter (λ r. not (poly_concerns r.1.note e)) (mute ends old) ++ k) (new_one muted ends e packet) in
    ap (λ b. press_noted b (poly_event (own_channel command) command) packet old) (own-event ends_notes ends_system channel command h)
    ∙ ap (λ ev. press_noted ends ev packet old) (own-event poly_event poly_system channel command h)
    ∙ sym all

pub presses_later : (channel from later : ℕ) (sent : List Sent) → from ≤ later → presses_kept channel later sent ≡ kept_since later (presses_kept channel from sent)
unfolding presses_kept
presses_later channel from later sent l = rows_of-later (press_row_at channel sent) (poly_ends channel) from later sent l

pub presses_none : (channel : ℕ) → presses_kept channel 0 [] ≡ []
unfolding presses_kept
presses_none channel = refl

-- ## The chapter

agrees : (muted : ℕ → Bool) (channel : ℕ) (session : List Sent) (e : PolyEvent) → press_logs channel session e ≡ option_logs press_row_logs (press_row (λ n. is_muted channel n session) e)
agrees muted channel session (Pressed note value) = refl
agrees muted channel session Dropped = refl
agrees muted channel session Other = refl

pub presses_coded : (channel from packet : ℕ) (sent : List Sent) → AllByRecursion (λ place. packet_of place < packet) sent → rows_listed press_row_logs packet (presses_kept channel from sent) ≡ chapter_a channel from packet sent
unfolding presses_kept chapter_a
presses_coded channel from packet sent h =
    sym (
    ap (λ (s : List Sent). listed (press_at channel s) packet (coded_presses channel from s)) (all_below packet_of packet sent h)
    ∙ listed_rows (press_at channel sent) (press_row_at channel sent) press_row_logs (λ x. agrees (λ n. false) channel sent (poly_at channel x)) packet (coded_presses channel from sent)
    )

pub presses_fresh : (channel from packet : ℕ) (sent : List Sent) → AllByRecursion (λ place. packet_of place < packet) sent → row_fresh press_row_logs packet (presses_kept channel from sent) ≡ fresh_a channel from packet sent
unfolding presses_kept fresh_a
presses_fresh channel from packet sent h =
    sym (
    ap (λ (s : List Sent). has_fresh (press_at channel s) packet (coded_presses channel from s)) (all_below packet_of packet sent h)
    ∙ fresh_rows (press_at channel sent) (press_row_at channel sent) press_row_logs (λ x. agrees (λ n. false) channel sent (poly_at channel x)) packet (coded_presses channel from sent)
    )

-- ## How many notes there are

count_one : (muted : ℕ → Bool) (packet : ℕ) (e : PolyEvent) (rows : List (ℕ × PressRow)) (ks : List ℕ) → length rows ≡ length ks → length (cons_row packet (press_row muted e) rows) ≡ length (cons_option (pressed_note e) ks)
count_one muted packet (Pressed note value) rows ks h = ap suc h
count_one muted packet Dropped rows ks h = h
count_one muted packet Other rows ks h = h

count_all : (channel : ℕ) (session xs : List Sent) → length (rows_of (press_row_at channel session) xs) ≡ length (filter_map (poly_key channel) xs)
count_all channel session [] = refl
count_all channel session (x ∷ xs) =
    count_one (λ n. is_muted channel n session) x.packet (poly_at channel x) (rows_of (press_row_at channel session) xs) (filter_map (poly_key channel) xs) (count_all channel session xs)

pub presses_count : (channel from : ℕ) (sent : List Sent) → length (presses_kept channel from sent) ≡ poly_count channel from sent
unfolding presses_kept poly_count
presses_count channel from sent = count_all channel sent (coded_presses channel from sent)

swapped : (a b : ℕ) → eqb a b ≡ eqb b a
swapped a b = grind (arith, nat_tests)

has_one : (muted : ℕ → Bool) (packet note : ℕ) (e : PolyEvent) (rows : List (ℕ × PressRow)) (ks : List ℕ) → has_press note rows ≡ list_any (eqb note) ks → has_press note (cons_row packet (press_row muted e) rows) ≡ list_any (eqb note) (cons_option (pressed_note e) ks)
has_one muted packet note (Pressed other value) rows ks h = rw (swapped other note, h) refl
has_one muted packet note Dropped rows ks h = h
has_one muted packet note Other rows ks h = h

has_all : (channel note : ℕ) (session xs : List Sent) → has_press note (rows_of (press_row_at channel session) xs) ≡ has_key (poly_key channel) note xs
has_all channel note session [] = refl
has_all channel note session (x ∷ xs) =
    has_one (λ n. is_muted channel n session) x.packet note (poly_at channel x) (rows_of (press_row_at channel session) xs) (filter_map (poly_key channel) xs) (has_all channel note session xs)

pub presses_has : (channel from note : ℕ) (sent : List Sent) → has_press note (presses_kept channel from sent) ≡ has_poly channel from note sent
unfolding presses_kept has_poly
presses_has channel from note sent = has_all channel note sent (coded_presses channel from sent)

-- ## The arrays

no_marks : (k n : ℕ) → get_or (replicate k false) n false ≡ false
no_marks zero n = refl
no_marks (suc k) zero = refl
no_marks (suc k) (suc n) = no_marks k n

or_true : (b : Bool) → (b || true) ≡ true
or_true true = refl
or_true false = refl

pub rows_muted : (rows : PressRows) (es : List (ℕ × ℕ)) → press_rows (record rows { active = replicate 128 false }) es ≡ mute true (press_rows rows es)
rows_muted rows [] = refl
rows_muted rows (e ∷ es) =
    rw (no_marks 128 e.0, or_true (not (get_or rows.active e.0 false)), rows_muted rows es) refl

pub rows_unmuted : (rows : PressRows) (es : List (ℕ × ℕ)) → press_rows rows es ≡ mute false (press_rows rows es)
rows_unmuted rows [] = refl
rows_unmuted rows (e ∷ es) =
    rw (or-false (not (get_or rows.active e.0 false)))
    (ap (λ (l : List (ℕ × PressRow)). (e.1, press_row_of rows e.0) ∷ l) (rows_unmuted rows es))

pub mute_up_to : (ends : Bool) (packet : ℕ) (rows : List (ℕ × PressRow)) → RowsUpTo packet rows → RowsUpTo packet (mute ends rows)
mute_up_to ends packet [] h = tt
mute_up_to ends packet (r ∷ rs) h = (h.0, mute_up_to ends packet rs h.1)

pub noted_dropped : (ends : Bool) (packet : ℕ) (rows : List (ℕ × PressRow)) → [] ≡ press_noted ends Dropped packet rows
noted_dropped ends packet [] = refl
noted_dropped ends packet (r ∷ rs) = noted_dropped ends packet rs

pub noted_other : (ends : Bool) (packet : ℕ) (rows : List (ℕ × PressRow)) → mute ends rows ≡ press_noted ends Other packet rows
noted_other ends packet [] = refl
noted_other ends packet (r ∷ rs) =
    ap (λ (l : List (ℕ × PressRow)). (r.0, record { note = r.1.note; value = r.1.value; muted = r.1.muted || ends }) ∷ l) (noted_other ends packet rs)

pub stamps_order : (rows : PressRows) (packet : ℕ) (es : List (ℕ × ℕ)) → RowsUpTo packet (press_rows rows es) → AllByRecursion (λ (e : ℕ × ℕ). e.1 ≤ packet) es
stamps_order rows packet es h = stamps_up_to (press_row_of rows) packet es h

apart_keys : (k key : ℕ) → eqb k key ≡ false → k ≡ key → ⊥
apart_keys k key f e = eqb-false k key f e

pub rows_pressed : (rows : PressRows) (es : List (ℕ × ℕ)) (note value packet : ℕ) → note < length rows.values → note < length rows.active →
    press_rows (record { values = set rows.values note value; active = set rows.active note true }) (touched note packet es)
    ≡ filter (λ r. not (eqb r.1.note note)) (press_rows rows es) ++ (packet, record { note = note; value = value; muted = false }) ∷ []
rows_pressed rows es note value packet lv la =
    let new_rows : PressRows = record { values = set rows.values note value; active = set rows.active note true } in
    let row_new = press_row_of new_rows in
    let other : (k : ℕ) → eqb k note ≡ false → row_new k ≡ press_row_of rows k =
    λ k f. rw (get_or-set_other rows.values note k value 0 (apart_keys k note f), get_or-set_other rows.active note k true false (apart_keys k note f)) refl in
    map-append (λ (e : ℕ × ℕ). (e.1, row_new e.0)) (without note es) ((note, packet) ∷ [])
    ∙ ap (λ (l : List (ℕ × PressRow)). l ++ (packet, row_new note) ∷ []) (keys_without (press_row_of rows) row_new (λ r. r.note) note (λ k. refl) other es)
    ∙ ap (λ (row : PressRow). filter (λ r. not (eqb r.1.note note)) (press_rows rows es) ++ (packet, row) ∷ [])
    (rw (get_or-set_same rows.values note value 0 lv, get_or-set_same rows.active note true false la) refl)

pub keys_held : (rows : PressRows) (note : ℕ) (es : List (ℕ × ℕ)) → holds note es ≡ has_press note (press_rows rows es)
keys_held rows note [] = refl
keys_held rows note (e ∷ es) = ap (λ b. eqb e.0 note || b) (keys_held rows note es)

pub rows_count : (rows : PressRows) (es : List (ℕ × ℕ)) → length es ≡ length (press_rows rows es)
rows_count rows [] = refl
rows_count rows (e ∷ es) = ap suc (rows_count rows es)

new_up_to : (packet later : ℕ) (e : PolyEvent) → packet ≤ later → RowsUpTo later (new_press packet e)
new_up_to packet later (Pressed note value) l = (l, tt)
new_up_to packet later Dropped l = tt
new_up_to packet later Other l = tt

pub press_up_to : (ends : Bool) (e : PolyEvent) (packet later : ℕ) (rows : List (ℕ × PressRow)) → RowsUpTo packet rows → packet ≤ later → RowsUpTo later (press_noted ends e packet rows)
press_up_to ends e packet later rows h l =
    let left = filter (λ (r : ℕ × PressRow). not (poly_concerns r.1.note e)) (mute ends rows) in
    let muted = up_to_later packet later (mute ends rows) l (mute_up_to ends packet rows h) in
    up_to_join later left (new_press packet e) (up_to_filter later (λ (r : ℕ × PressRow). not (poly_concerns r.1.note e)) (mute ends rows) muted) (new_up_to packet later e l)
