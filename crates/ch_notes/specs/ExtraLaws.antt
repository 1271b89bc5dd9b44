-- How many logs Chapter E may have, and what its octets show.
use Rattle.std.proofs.Common.{◌≡◌, ℕ, ◌+◌, ◌≤◌, ◌<◌, eqb, leb, ltb, List, [], ◌∷◌, length, arith, length-append, lit≤, inl, inr}
use Rattle.std.specs.List.{cons_option, filter_map, flat_map, AllByRecursion}
use Rattle.std.proofs.lemmas.Bool.{cases_Bool}
use Rattle.jm_cmds.specs.Sent.{shows_fresh as header_shows_fresh}
use Rattle.jm_cmds.specs.declared.history.Sent.{Sent}
use Rattle.jm_cmds.specs.Command.{IsCommand}
use Rattle.jm_cmds.specs.History.{standing, below, Unended}
use Rattle.jm_cmds.specs.HistoryLaws.{Unended-coded, AllByRecursion-filter, AllByRecursion-standing, AllByRecursion-weaker}
use Rattle.jm_cmds.specs.Sent.{packet_of}
use Rattle.ch_notes.specs.declared.events.NoteEvent.{NoteEvent}
use Rattle.ch_notes.specs.declared.events.NoteEvent.TheVariants.{Struck, Released, Cleared, Other}
use Rattle.ch_notes.specs.NoteEvent.{event_at, note_ends, IsWithin, AreWithin}
use Rattle.ch_notes.specs.CountBounds.{note_of, note_key, notes-few}
use Rattle.ch_notes.specs.FreshLaws.{IsWithin-event}
use Rattle.ch_notes.specs.ChapterN.{coded_notes}
use Rattle.jm_cmds.specs.Keys.{key_count}
use Rattle.jm_chapter.specs.Logs.{log_count, log_shows_fresh}
use Rattle.jm_chapter.specs.LogsLaws.{FitLogs, listed-shows}
use Rattle.ch_notes.specs.ChapterE.{ref_count, struck_logs, released_logs, extra_logs, extra_at, chapter_e, fresh_e}

-- ## How many logs

struck-few : (note count : ℕ) → length (struck_logs note count) ≤ 1
struck-few note count = elim (cases_Bool (eqb count 1)) [ inl t ↦ rw t (lit≤ tt) | inr f ↦ rw f (lit≤ tt) ]

released-few : (note velocity count : ℕ) → length (released_logs note velocity count) ≤ 1
released-few note velocity count =
    elim (cases_Bool (eqb count 0)) [
      | inl t ↦ elim (cases_Bool (eqb velocity 64)) [ inl u ↦ rw (t, u) (lit≤ tt) | inr f ↦ rw (t, f) (lit≤ tt) ]
      | inr f ↦ rw f (lit≤ tt)
    ]

step-few : (channel : ℕ) (session : List Sent) (event : NoteEvent) (notes : List ℕ) → length (extra_logs channel session event) + length notes ≤ length (cons_option (note_of event) notes)
step-few channel session (Struck note velocity) notes = omega (arith, struck-few note (ref_count channel note session))
step-few channel session (Released note velocity) notes = omega (arith, released-few note velocity (ref_count channel note session))
step-few channel session Cleared notes = omega arith
step-few channel session Other notes = omega arith

logs-notes : (channel : ℕ) (session places : List Sent) → log_count (extra_at channel session) places ≤ key_count (note_key channel) places
logs-notes channel session [] = omega arith
logs-notes channel session (x ∷ xs) =
    omega (
      arith,
      length-append (extra_at channel session x) (flat_map (extra_at channel session) xs),
      step-few channel session (event_at channel x) (filter_map (note_key channel) xs),
      logs-notes channel session xs,
    )

-- there are 128 notes
pub extra-few : (channel : ℕ) (session places : List Sent) → Unended (note_ends channel) places → AreWithin channel places → log_count (extra_at channel session) places ≤ 128
extra-few channel session places u w = omega (arith, logs-notes channel session places, notes-few channel places u w)

-- ## What the octets show

FitLogs-struck : (note count : ℕ) → note < 128 → FitLogs (struck_logs note count)
FitLogs-struck note count w = elim (cases_Bool (eqb count 1)) [ inl t ↦ rw t tt | inr f ↦ rw f (w, tt) ]

FitLogs-released : (note velocity count : ℕ) → note < 128 → FitLogs (released_logs note velocity count)
FitLogs-released note velocity count w =
    elim (cases_Bool (eqb count 0)) [
      | inl t ↦ elim (cases_Bool (eqb velocity 64)) [ inl u ↦ rw (t, u) tt | inr f ↦ rw (t, f) (w, tt) ]
      | inr f ↦ rw f (w, tt)
    ]

FitLogs-extra : (channel : ℕ) (session : List Sent) (event : NoteEvent) → IsWithin event → FitLogs (extra_logs channel session event)
FitLogs-extra channel session (Struck note velocity) w = FitLogs-struck note (ref_count channel note session) w.0
FitLogs-extra channel session (Released note velocity) w = FitLogs-released note velocity (ref_count channel note session) w
FitLogs-extra channel session Cleared w = tt
FitLogs-extra channel session Other w = tt

pub fresh_e-shows : (channel checkpoint packet : ℕ) (sent : List Sent) → AllByRecursion (λ place. IsCommand place.command) sent →
    (fresh_e channel checkpoint packet sent ≡ header_shows_fresh (chapter_e channel checkpoint packet sent))
    × (fresh_e channel checkpoint packet sent ≡ log_shows_fresh (chapter_e channel checkpoint packet sent))
unfolding fresh_e chapter_e
fresh_e-shows channel checkpoint packet sent h =
    let places = coded_notes channel checkpoint packet sent in
    let within_all = AllByRecursion-weaker (λ (place : Sent). IsCommand place.command) (λ place. IsWithin (event_at channel place)) (λ place b. IsWithin-event channel place.command b) sent h in
    let seen = below packet_of packet sent in
    let within_seen = AllByRecursion-filter (λ place. IsWithin (event_at channel place)) (λ place. ltb (packet_of place) packet) sent within_all in
    let within_standing = AllByRecursion-standing (λ place. IsWithin (event_at channel place)) (note_ends channel) seen within_seen in
    let w : AreWithin channel places = AllByRecursion-filter (λ place. IsWithin (event_at channel place)) (λ place. leb checkpoint (packet_of place)) (standing (note_ends channel) seen) within_standing in
    let few = extra-few channel seen places (Unended-coded (note_ends channel) packet_of checkpoint seen) w in
    let fits = AllByRecursion-weaker (λ (place : Sent). IsWithin (event_at channel place)) (λ place. FitLogs (extra_at channel seen place)) (λ place b. FitLogs-extra channel seen (event_at channel place) b) places w in
    listed-shows (extra_at channel seen) packet places fits few
