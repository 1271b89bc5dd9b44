-- The table of Chapter E stands for what the chapter codes.
use Rattle.std.proofs.Common.{◌≡◌, ℕ, zero, suc, ◌+◌, ◌-◌, ◌<◌, ◌≤◌, false, eqb, List, [], ◌∷◌, ◌++◌, length, map, get_or, set, replicate, refl, sym, ap, ◌∙◌, arith, min}
use Rattle.std.specs.List.{flat_map, range_with_len, AllByRecursion}
use Rattle.std.proofs.lemmas.Bool.{eq-eqb}
use Rattle.std.proofs.lemmas.Bool.Decides.{nat_tests}
use Rattle.std.proofs.lemmas.List.FromFn.{get_or-map-range_with_len}
use Rattle.std.proofs.lemmas.List.Sums.{fold-append}
use Rattle.jm_cmds.specs.declared.commands.Command.{Command}
use Rattle.jm_cmds.specs.declared.history.Sent.{Sent}
use Rattle.jm_cmds.specs.Channels.{own_channel, IsForChannel, own-event}
use Rattle.jm_cmds.specs.History.{coded}
use Rattle.jm_cmds.specs.KeptItem.{all_below}
use Rattle.jm_cmds.specs.Sent.{packet_of}
use Rattle.jm_chapter.specs.declared.log.Log.{Log}
use Rattle.jm_chapter.specs.Logs.{listed, has_fresh}
use Rattle.ch_notes.specs.declared.events.NoteEvent.{NoteEvent}
use Rattle.ch_notes.specs.declared.events.NoteEvent.TheVariants.{Struck, Released, Cleared, Other}
use Rattle.ch_notes.specs.declared.note_rows.NoteRows.{NoteRows}
use Rattle.ch_notes.specs.NoteEvent.{note_event, event_at, note_ends, IsWithin}
use Rattle.ch_notes.specs.ChapterE.{count_event, count_step, ref_count, struck_logs, released_logs, extra_logs, extra_at, chapter_e, fresh_e}
use Rattle.ch_notes.specs.KeptRows.{row_texts, row_fresh, rows_listed}
use Rattle.ch_notes.specs.RowLaws.{option_logs, listed_rows, fresh_rows}
use Rattle.ch_notes.specs.NoteTable.{NoteRow, note_row, note_row_at, notes_kept, RowsWithin, note_row_of, note_rows}
use Rattle.ch_notes.specs.NoteTableLaws.{note_system, notes_push, notes_later, notes_none}
use Rattle.ch_notes.specs.ExtraTable.{all_counts, extra_kept, counts_after, extra_noted, extra_cut, counted_logs, extra_row_logs, extra_text, extra_fresh}

-- ## One command more

counts_along : (channel : ℕ) (sent : List Sent) (y : Sent) (n m : ℕ) →
    counts_after (event_at channel y) n (map (λ note. ref_count channel note sent) (range_with_len n m)) ≡ map (λ note. ref_count channel note (sent ++ y ∷ [])) (range_with_len n m)
counts_along channel sent y n zero = refl
counts_along channel sent y n (suc m) =
    rw (fold-append (count_step channel n) 0 sent (y ∷ []), counts_along channel sent y (n + 1) m) refl

counts_push : (channel : ℕ) (sent : List Sent) (y : Sent) → counts_after (event_at channel y) 0 (all_counts channel sent) ≡ all_counts channel (sent ++ y ∷ [])
unfolding all_counts
counts_push channel sent y = counts_along channel sent y 0 128

pub extra_push : (channel from packet tick : ℕ) (command : Command) (sent : List Sent) → IsForChannel channel command → from ≤ packet →
    extra_noted (note_event (own_channel command) command) packet tick (extra_kept channel from sent)
    ≡ extra_kept channel from (sent ++ record { packet = packet; tick = tick; command = command } ∷ [])
unfolding extra_kept
extra_push channel from packet tick command sent h l =
    let y : Sent = record { packet = packet; tick = tick; command = command } in
    rw (notes_push channel from packet tick command sent h l, own-event note_event note_system channel command h, counts_push channel sent y) refl

pub extra_later : (channel from later : ℕ) (sent : List Sent) → from ≤ later → extra_kept channel later sent ≡ extra_cut later (extra_kept channel from sent)
unfolding extra_kept
extra_later channel from later sent l = rw (notes_later channel from later sent l) refl

pub extra_none : (channel : ℕ) → extra_kept channel 0 [] ≡ record { notes = []; counts = replicate 128 0 }
unfolding extra_kept all_counts
extra_none channel = rw (notes_none channel) refl

-- ## The chapter

-- logs that are the same for each row
texts_same : (f g : NoteRow → List Log) (packet : ℕ) (rows : List (ℕ × NoteRow)) → AllByRecursion (λ r. f r.1 ≡ g r.1) rows → row_texts f packet rows ≡ row_texts g packet rows
texts_same f g packet [] h = refl
texts_same f g packet (r ∷ rs) h = rw (h.0, texts_same f g packet rs h.1) refl

flat_same : (f g : NoteRow → List Log) (rows : List (ℕ × NoteRow)) → AllByRecursion (λ r. f r.1 ≡ g r.1) rows → flat_map (λ r. f r.1) rows ≡ flat_map (λ r. g r.1) rows
flat_same f g [] h = refl
flat_same f g (r ∷ rs) h = rw (h.0, flat_same f g rs h.1) refl

fresh_same : (f g : NoteRow → List Log) (packet : ℕ) (rows : List (ℕ × NoteRow)) → AllByRecursion (λ r. f r.1 ≡ g r.1) rows → row_fresh f packet rows ≡ row_fresh g packet rows
fresh_same f g packet [] h = refl
fresh_same f g packet (r ∷ rs) h = rw (h.0, fresh_same f g packet rs h.1) refl

listed_same : (f g : NoteRow → List Log) (packet : ℕ) (rows : List (ℕ × NoteRow)) → AllByRecursion (λ r. f r.1 ≡ g r.1) rows → rows_listed f packet rows ≡ rows_listed g packet rows
listed_same f g packet rows h = rw (texts_same f g packet rows h, flat_same f g rows h, fresh_same f g packet rows h) refl

-- the counts of notes
count_at : (channel : ℕ) (sent : List Sent) (note : ℕ) → note < 128 → get_or (all_counts channel sent) note 0 ≡ ref_count channel note sent
unfolding all_counts
count_at channel sent note l = get_or-map-range_with_len (λ n. ref_count channel n sent) 0 128 note note 0 l (omega arith)

row_same : (channel : ℕ) (sent : List Sent) (e : NoteEvent) → IsWithin e → counted_logs (λ n. get_or (all_counts channel sent) n 0) e ≡ counted_logs (λ n. ref_count channel n sent) e
row_same channel sent (Struck note velocity) w = ap (λ (n : ℕ). struck_logs note n) (count_at channel sent note w.0)
row_same channel sent (Released note velocity) w = ap (λ (n : ℕ). released_logs note velocity n) (count_at channel sent note w)
row_same channel sent Cleared w = refl
row_same channel sent Other w = refl

rows_same : (channel : ℕ) (sent : List Sent) (rows : List (ℕ × NoteRow)) → RowsWithin rows → AllByRecursion (λ r. extra_row_logs (all_counts channel sent) r.1 ≡ counted_logs (λ n. ref_count channel n sent) r.1.event) rows
rows_same channel sent [] w = tt
rows_same channel sent (r ∷ rs) w = (row_same channel sent r.1.event w.0, rows_same channel sent rs w.1)

agrees : (channel tick : ℕ) (session : List Sent) (e : NoteEvent) → extra_logs channel session e ≡ option_logs (λ (row : NoteRow). counted_logs (λ n. ref_count channel n session) row.event) (note_row tick e)
agrees channel tick session (Struck note velocity) = refl
agrees channel tick session (Released note velocity) = refl
agrees channel tick session Cleared = refl
agrees channel tick session Other = refl

pub extra_coded : (channel from packet : ℕ) (sent : List Sent) → RowsWithin (extra_kept channel from sent).notes → AllByRecursion (λ place. packet_of place < packet) sent →
    extra_text packet (extra_kept channel from sent) ≡ chapter_e channel from packet sent
unfolding extra_kept notes_kept chapter_e
extra_coded channel from packet sent w h =
    let places = coded (note_ends channel) packet_of from sent in
    let logs : NoteRow → List Log = λ row. counted_logs (λ n. ref_count channel n sent) row.event in
    let rows = notes_kept channel from sent in
    listed_same (extra_row_logs (all_counts channel sent)) logs packet rows (rows_same channel sent rows w)
    ∙ sym (
    ap (λ (s : List Sent). listed (extra_at channel s) packet (coded (note_ends channel) packet_of from s)) (all_below packet_of packet sent h)
    ∙ listed_rows (extra_at channel sent) (note_row_at channel) logs (λ x. agrees channel x.tick sent (event_at channel x)) packet places
    )

pub extra_freshness : (channel from packet : ℕ) (sent : List Sent) → RowsWithin (extra_kept channel from sent).notes → AllByRecursion (λ place. packet_of place < packet) sent →
    extra_fresh packet (extra_kept channel from sent) ≡ fresh_e channel from packet sent
unfolding extra_kept notes_kept fresh_e
extra_freshness channel from packet sent w h =
    let places = coded (note_ends channel) packet_of from sent in
    let logs : NoteRow → List Log = λ row. counted_logs (λ n. ref_count channel n sent) row.event in
    let rows = notes_kept channel from sent in
    fresh_same (extra_row_logs (all_counts channel sent)) logs packet rows (rows_same channel sent rows w)
    ∙ sym (
    ap (λ (s : List Sent). has_fresh (extra_at channel s) packet (coded (note_ends channel) packet_of from s)) (all_below packet_of packet sent h)
    ∙ fresh_rows (extra_at channel sent) (note_row_at channel) logs (λ x. agrees channel x.tick sent (event_at channel x)) packet places
    )

-- ## The arrays

pub rows_within : (rows : NoteRows) (es : List (ℕ × ℕ)) → AllByRecursion (λ (e : ℕ × ℕ). IsWithin (note_row_of rows e.0).event) es → RowsWithin (note_rows rows es)
rows_within rows [] h = tt
rows_within rows (e ∷ es) h = (h.0, rows_within rows es h.1)

-- an event of one note changes that note's count alone
counts_past : (e : NoteEvent) (note : ℕ) → ((k c : ℕ) → eqb note k ≡ false → count_event k c e ≡ c) → (n : ℕ) (counts : List ℕ) → note < n → counts_after e n counts ≡ counts
counts_past e note other n [] l = refl
counts_past e note other n (c ∷ cs) l =
    let apart : eqb note n ≡ false = grind (arith, nat_tests, l) in
    rw (other n c apart, counts_past e note other (n + 1) cs (omega (arith, l))) refl

counts_one : (e : NoteEvent) (note count : ℕ) → ((k c : ℕ) → eqb note k ≡ false → count_event k c e ≡ c) → (n i : ℕ) (counts : List ℕ) → note ≡ n + i → i < length counts →
    count_event note (get_or counts i 0) e ≡ count → counts_after e n counts ≡ set counts i count
counts_one e note count other n i [] p l q = absurd (omega (arith, l))
counts_one e note count other n zero (c ∷ cs) p l q =
    let here : note ≡ n = omega (arith, p) in
    rw (← here, q, counts_past e note other (note + 1) cs (omega arith)) refl
counts_one e note count other n (suc i) (c ∷ cs) p l q =
    let apart : eqb note n ≡ false = grind (arith, nat_tests, p) in
    rw (other n c apart, counts_one e note count other (n + 1) i cs (omega (arith, p)) (omega (arith, l)) q) refl

pub counts_struck : (note velocity : ℕ) (counts : List ℕ) → note < length counts → set counts note (min (get_or counts note 0) 126 + 1) ≡ counts_after (Struck note velocity) 0 counts
counts_struck note velocity counts l =
    let same : count_event note (get_or counts note 0) (Struck note velocity) ≡ min (get_or counts note 0) 126 + 1 = rw (eq-eqb note note refl) (omega arith) in
    sym (counts_one (Struck note velocity) note (min (get_or counts note 0) 126 + 1) (λ k c f. rw f refl) 0 note counts (omega arith) l same)

pub counts_released : (note velocity : ℕ) (counts : List ℕ) → note < length counts → set counts note (get_or counts note 0 - 1) ≡ counts_after (Released note velocity) 0 counts
counts_released note velocity counts l =
    let same : count_event note (get_or counts note 0) (Released note velocity) ≡ get_or counts note 0 - 1 = rw (eq-eqb note note refl) refl in
    sym (counts_one (Released note velocity) note (get_or counts note 0 - 1) (λ k c f. rw f refl) 0 note counts (omega arith) l same)

zeros : (n : ℕ) (counts : List ℕ) → replicate (length counts) 0 ≡ counts_after Cleared n counts
zeros n [] = refl
zeros n (c ∷ cs) = ap (λ (l : List ℕ). 0 ∷ l) (zeros (n + 1) cs)

pub counts_cleared : (counts : List ℕ) → length counts ≡ 128 → replicate 128 0 ≡ counts_after Cleared 0 counts
counts_cleared counts l = ap (λ (n : ℕ). replicate n 0) (sym l) ∙ zeros 0 counts

counts_still : (n : ℕ) (counts : List ℕ) → counts ≡ counts_after Other n counts
counts_still n [] = refl
counts_still n (c ∷ cs) = ap (λ (l : List ℕ). c ∷ l) (counts_still (n + 1) cs)

pub counts_other : (counts : List ℕ) → counts ≡ counts_after Other 0 counts
counts_other counts = counts_still 0 counts
