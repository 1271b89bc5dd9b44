-- The coded notes of a channel, counted one after another.
use Rattle.std.specs.Prelude.{ℕ, ◌+◌, ◌-◌, ◌*◌, ◌/◌, Bool, true, false, not, ◌||◌, ◌&&◌, ◌==◌, if◌then◌else◌, List, [], ◌++◌, fold, map, min, max, slice_set, slice_index_or, replicate}
use Rattle.std.specs.List.{range_with_len}
use Rattle.jm_wire.specs.declared.heads.NoteHead.{NoteHead}
use Rattle.jm_wire.specs.Heads.{note_octets}
use Rattle.jm_cmds.specs.declared.history.Sent.{Sent}
use Rattle.jm_cmds.specs.Sent.{is_fresh}
use Rattle.ch_notes.specs.declared.events.NoteEvent.{NoteEvent}
use Rattle.ch_notes.specs.declared.events.NoteEvent.TheVariants.{Struck, Released, Cleared, Other}
use Rattle.ch_notes.specs.declared.shape.Shape.{Shape}
use Rattle.ch_notes.specs.NoteEvent.{event_at}

abbrev pub no_notes : Shape
no_notes = record { logs = 0; off = 0; low = 15; high = 0; released = replicate 128 false; fresh_off = false; fresh = false }

abbrev pub shape_step : Shape → (is_new : Bool) → NoteEvent → Shape
shape_step s is_new (Struck note velocity) = record s { logs = s.logs + 1; fresh = s.fresh || is_new }
shape_step s is_new (Released note velocity) = record s {
  off = s.off + 1;
  low = min s.low (note / 8);
  high = max s.high (note / 8);
  released = slice_set s.released note true;
  fresh_off = s.fresh_off || is_new;
  fresh = s.fresh || is_new;
}
shape_step s is_new Cleared = s
shape_step s is_new Other = s

abbrev pub place_step : (channel packet : ℕ) → Shape → Sent → Shape
place_step channel packet s place = shape_step s (is_fresh packet place) (event_at channel place)

-- the places, counted after those that s has counted
abbrev pub counted : (channel packet : ℕ) → Shape → List Sent → Shape
counted channel packet s places = fold (place_step channel packet) s places

-- ## The fields of the chapter, by these numbers

-- no note at all
abbrev pub is_bare : Shape → Bool
is_bare s = s.logs == 0 && s.off == 0

-- HIGH, which tells 127 logs from 128 where no note is released
abbrev pub high_field : Shape → ℕ
high_field s = if s.off == 0 && s.logs == 127 then 1 else s.high

-- the header
abbrev pub shape_head : Shape → NoteHead
shape_head s = record { b = not s.fresh_off; len = min 127 s.logs; low = s.low; high = high_field s }

-- how many octets of bits there are
abbrev pub span : Shape → ℕ
span s = s.high + 1 - s.low

abbrev pub mark_bit : (marks : List Bool) → (note : ℕ) → ℕ
mark_bit marks note = if slice_index_or marks note false then 1 else 0

abbrev pub mark_octet : (marks : List Bool) → (k : ℕ) → ℕ
mark_octet marks k =
    128 * mark_bit marks (8 * k) + 64 * mark_bit marks (8 * k + 1) + 32 * mark_bit marks (8 * k + 2)
    + 16 * mark_bit marks (8 * k + 3) + 8 * mark_bit marks (8 * k + 4) + 4 * mark_bit marks (8 * k + 5)
    + 2 * mark_bit marks (8 * k + 6) + mark_bit marks (8 * k + 7)

abbrev pub mark_octets : Shape → List ℕ
mark_octets s = map (mark_octet s.released) (range_with_len s.low (span s))

-- the chapter with these logs
abbrev pub shaped : Shape → (logs : List ℕ) → List ℕ
shaped s logs = if is_bare s then [] else note_octets (shape_head s) ++ (logs ++ mark_octets s)

-- its length
abbrev pub shape_len : Shape → ℕ
shape_len s = if is_bare s then 0 else 2 + 2 * s.logs + span s
