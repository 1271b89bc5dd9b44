-- What the table of Chapter N keeps.
use Rattle.std.specs.Prelude.{ℕ, Bool, false, not, ◌&&◌, List, [], ◌++◌, Option, Some, None, map, fold, filter, slice_index, slice_index_or, nat_lt, if◌then◌else◌}
use Rattle.std.specs.List.{flat_map, AllByRecursion}
use Rattle.jm_cmds.specs.declared.history.Sent.{Sent}
use Rattle.jm_cmds.specs.History.{coded}
use Rattle.jm_cmds.specs.KeptItem.{kept_fresh}
use Rattle.jm_cmds.specs.Sent.{packet_of, s_of}
use Rattle.ch_notes.specs.declared.events.NoteEvent.{NoteEvent}
use Rattle.ch_notes.specs.declared.events.NoteEvent.TheVariants.{Struck, Released, Cleared, Other}
use Rattle.ch_notes.specs.declared.note_rows.NoteRows.{NoteRows}
use Rattle.ch_notes.specs.declared.shape.Shape.{Shape}
use Rattle.ch_notes.specs.NoteEvent.{event_at, event_ends, note_ends, IsWithin}
use Rattle.ch_notes.specs.Shape.{no_notes, shape_step, shaped}
use Rattle.ch_notes.specs.ChapterN.{event_log, late_bit}
use Rattle.ch_notes.specs.KeptRows.{cons_row, rows_of}

-- the latest command of a note, and when it was sent
pub record NoteRow : Type 0 where
  pub tick : ℕ
  pub event : NoteEvent

abbrev pub note_row : (tick : ℕ) → NoteEvent → Option NoteRow
note_row tick (Struck note velocity) = Some (record { tick = tick; event = Struck note velocity })
note_row tick (Released note velocity) = Some (record { tick = tick; event = Released note velocity })
note_row tick Cleared = None
note_row tick Other = None

abbrev pub note_row_at : (channel : ℕ) → Sent → Option NoteRow
note_row_at channel place = note_row place.tick (event_at channel place)

-- The notes that a journal with this checkpoint codes behind these commands, oldest first, each with its packet.
unfoldable pub notes_kept : (channel checkpoint : ℕ) → List Sent → List (ℕ × NoteRow)
notes_kept channel checkpoint sent = rows_of (note_row_at channel) (coded (note_ends channel) packet_of checkpoint sent)

-- one command more: the notes that it doesn't end, and behind them its own
abbrev pub note_noted : NoteEvent → (packet tick : ℕ) → List (ℕ × NoteRow) → List (ℕ × NoteRow)
note_noted event packet tick rows = filter (λ r. not (event_ends r.1.event event)) rows ++ cons_row packet (note_row tick event) []

-- the note that it is of
abbrev pub event_note : NoteEvent → ℕ
event_note (Struck note velocity) = note
event_note (Released note velocity) = note
event_note Cleared = 0
event_note Other = 0

-- ## The octets

abbrev pub note_row_log : (packet tick : ℕ) → ℕ × NoteRow → List ℕ
note_row_log packet tick r = event_log (s_of (kept_fresh packet r)) (late_bit r.1.tick tick) r.1.event

abbrev pub note_lines : (packet tick : ℕ) → List (ℕ × NoteRow) → List ℕ
note_lines packet tick rows = flat_map (note_row_log packet tick) rows

-- the notes, counted after those that s has counted
abbrev pub rows_counted : (packet : ℕ) → Shape → List (ℕ × NoteRow) → Shape
rows_counted packet s rows = fold (λ s r. shape_step s (kept_fresh packet r) r.1.event) s rows

abbrev pub notes_text : (packet tick : ℕ) → List (ℕ × NoteRow) → List ℕ
notes_text packet tick rows = shaped (rows_counted packet no_notes rows) (note_lines packet tick rows)

-- each is a note's
abbrev pub RowsWithin : List (ℕ × NoteRow) → Type 0
RowsWithin rows = AllByRecursion (λ r. IsWithin r.1.event) rows

-- ## The arrays

abbrev pub key_event : (struck : Bool) → (note velocity : ℕ) → NoteEvent
key_event struck note velocity = if struck && nat_lt 0 velocity then Struck note velocity else Released note velocity

abbrev pub note_row_of : NoteRows → (key : ℕ) → NoteRow
note_row_of rows key = record {
  tick = slice_index rows.ticks key;
  event = key_event (slice_index_or rows.struck key false) key (slice_index rows.velocities key);
}

abbrev pub note_rows : NoteRows → List (ℕ × ℕ) → List (ℕ × NoteRow)
note_rows rows es = map {B = ℕ × NoteRow} (λ e. (e.1, note_row_of rows e.0)) es
