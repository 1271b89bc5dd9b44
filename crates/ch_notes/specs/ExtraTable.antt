-- What the table of Chapter E keeps.
use Rattle.std.specs.Prelude.{ℕ, ◌+◌, Bool, List, [], ◌∷◌, map, slice_index}
use Rattle.std.specs.List.{range_with_len}
use Rattle.jm_cmds.specs.declared.history.Sent.{Sent}
use Rattle.jm_cmds.specs.KeptItem.{kept_since}
use Rattle.jm_chapter.specs.declared.log.Log.{Log}
use Rattle.ch_notes.specs.declared.events.NoteEvent.{NoteEvent}
use Rattle.ch_notes.specs.declared.events.NoteEvent.TheVariants.{Struck, Released, Cleared, Other}
use Rattle.ch_notes.specs.ChapterE.{count_event, ref_count, struck_logs, released_logs}
use Rattle.ch_notes.specs.KeptRows.{row_fresh, rows_listed}
use Rattle.ch_notes.specs.NoteTable.{NoteRow, notes_kept, note_noted}

-- The notes that a journal codes, oldest first, and the reference count of each note behind the whole session.
pub record ExtraKept : Type 0 where
  pub notes : List (ℕ × NoteRow)
  pub counts : List ℕ

unfoldable pub all_counts : (channel : ℕ) → List Sent → List ℕ
all_counts channel sent = map (λ note. ref_count channel note sent) (range_with_len 0 128)

-- What is kept behind these commands, with this checkpoint: it trims the notes, and never the counts.
unfoldable pub extra_kept : (channel checkpoint : ℕ) → List Sent → ExtraKept
extra_kept channel checkpoint sent = record { notes = notes_kept channel checkpoint sent; counts = all_counts channel sent }

-- the counts of the notes from this one on, behind one more event
abbrev pub counts_after : NoteEvent → (note : ℕ) → List ℕ → List ℕ
counts_after event note [] = []
counts_after event note (count ∷ counts) = count_event note count event ∷ counts_after event (note + 1) counts

-- one command more
abbrev pub extra_noted : NoteEvent → (packet tick : ℕ) → ExtraKept → ExtraKept
extra_noted event packet tick table = record { notes = note_noted event packet tick table.notes; counts = counts_after event 0 table.counts }

-- a later checkpoint trims the notes
abbrev pub extra_cut : (packet : ℕ) → ExtraKept → ExtraKept
extra_cut packet table = record { notes = kept_since packet table.notes; counts = table.counts }

-- ## The octets

abbrev pub counted_logs : (count_of : ℕ → ℕ) → NoteEvent → List Log
counted_logs count_of (Struck note velocity) = struck_logs note (count_of note)
counted_logs count_of (Released note velocity) = released_logs note velocity (count_of note)
counted_logs count_of Cleared = []
counted_logs count_of Other = []

abbrev pub extra_row_logs : (counts : List ℕ) → NoteRow → List Log
extra_row_logs counts row = counted_logs (λ note. slice_index counts note) row.event

abbrev pub extra_text : (packet : ℕ) → ExtraKept → List ℕ
extra_text packet table = rows_listed (extra_row_logs table.counts) packet table.notes

abbrev pub extra_fresh : (packet : ℕ) → ExtraKept → Bool
extra_fresh packet table = row_fresh (extra_row_logs table.counts) packet table.notes
