-- What the table of Chapter A keeps.
use Rattle.std.specs.Prelude.{ℕ, ◌+◌, Bool, false, not, ◌||◌, List, [], ◌∷◌, ◌++◌, Option, Some, None, map, filter, slice_index, slice_index_or, ◌==◌}
use Rattle.std.specs.List.{list_any}
use Rattle.jm_cmds.specs.declared.history.Sent.{Sent}
use Rattle.jm_chapter.specs.declared.log.Log.{Log}
use Rattle.ch_notes.specs.declared.presses.PolyEvent.{PolyEvent}
use Rattle.ch_notes.specs.declared.presses.PolyEvent.TheVariants.{Pressed, Dropped, Other}
use Rattle.ch_notes.specs.declared.poly_table.PressRows.{PressRows}
use Rattle.ch_notes.specs.PolyEvent.{poly_at, poly_concerns}
use Rattle.ch_notes.specs.ChapterA.{is_muted, x_bit, coded_presses}
use Rattle.ch_notes.specs.KeptRows.{rows_of}

-- a pressure on a key, and whether it is no longer N-active
pub record PressRow : Type 0 where
  pub note : ℕ
  pub value : ℕ
  pub muted : Bool

abbrev pub press_row : (muted : ℕ → Bool) → PolyEvent → Option PressRow
press_row muted (Pressed note value) = Some (record { note = note; value = value; muted = muted note })
press_row muted Dropped = None
press_row muted Other = None

abbrev pub press_row_at : (channel : ℕ) → (session : List Sent) → Sent → Option PressRow
press_row_at channel session place = press_row (λ note. is_muted channel note session) (poly_at channel place)

-- The pressures that a journal with this checkpoint codes behind these commands, oldest first, each with its packet.
unfoldable pub presses_kept : (channel checkpoint : ℕ) → List Sent → List (ℕ × PressRow)
presses_kept channel checkpoint sent = rows_of (press_row_at channel sent) (coded_presses channel checkpoint sent)

-- ## One command more

-- where it ends the notes of the channel, no pressure is N-active any longer
abbrev pub mute : (ends : Bool) → List (ℕ × PressRow) → List (ℕ × PressRow)
mute ends [] = []
mute ends (r ∷ rs) = (r.0, record r.1 { muted = r.1.muted || ends }) ∷ mute ends rs

abbrev pub new_press : (packet : ℕ) → PolyEvent → List (ℕ × PressRow)
new_press packet (Pressed note value) = (packet, record { note = note; value = value; muted = false }) ∷ []
new_press packet Dropped = []
new_press packet Other = []

-- the pressures that it doesn't end, and behind them its own
abbrev pub press_noted : (ends : Bool) → PolyEvent → (packet : ℕ) → List (ℕ × PressRow) → List (ℕ × PressRow)
press_noted ends event packet rows = filter (λ r. not (poly_concerns r.1.note event)) (mute ends rows) ++ new_press packet event

-- ## The octets

-- X and the pressure
abbrev pub press_row_logs : PressRow → List Log
press_row_logs row = record { number = row.note; field = x_bit row.muted + row.value } ∷ []

-- ## The arrays

abbrev pub press_row_of : PressRows → (key : ℕ) → PressRow
press_row_of rows key = record { note = key; value = slice_index rows.values key; muted = not (slice_index_or rows.active key false) }

abbrev pub press_rows : PressRows → List (ℕ × ℕ) → List (ℕ × PressRow)
press_rows rows es = map {B = ℕ × PressRow} (λ e. (e.1, press_row_of rows e.0)) es

-- whether a pressure on this key is kept
abbrev pub has_press : (note : ℕ) → List (ℕ × PressRow) → Bool
has_press note rows = list_any (λ r. r.1.note == note) rows
