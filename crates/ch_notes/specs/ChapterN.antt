-- Chapter N of a channel (RFC 6295, A.6.1, Figure A.6.2, and A.6.2, Figure A.6.3).
use Rattle.std.specs.Prelude.{ℕ, ◌+◌, ◌-◌, ◌*◌, ◌/◌, Bool, true, false, not, ◌&&◌, ◌||◌, List, [], ◌∷◌, ◌++◌, Option, Some, None, length, map, fold, count_by, nat_le, ◌==◌, if◌then◌else◌, min, max}
use Rattle.std.specs.List.{list_any, flat_map, filter_map, range_with_len}
use Rattle.jm_wire.specs.declared.heads.NoteHead.{NoteHead}
use Rattle.jm_wire.specs.Heads.{note_octets}
use Rattle.jm_cmds.specs.declared.history.Sent.{Sent}
use Rattle.jm_cmds.specs.History.{coded, below, standing}
use Rattle.jm_cmds.specs.Sent.{packet_of, is_fresh, s_bit}
use Rattle.ch_notes.specs.declared.events.NoteEvent.{NoteEvent}
use Rattle.ch_notes.specs.declared.events.NoteEvent.TheVariants.{Struck, Released, Cleared, Other}
use Rattle.ch_notes.specs.NoteEvent.{event_at, note_ends}

-- ## Note logs

abbrev pub is_struck : NoteEvent → Bool
is_struck (Struck note velocity) = true
is_struck (Released note velocity) = false
is_struck Cleared = false
is_struck Other = false

-- The Y bit as the high bit of an octet: the note is worth playing while it is at most 2,000 ticks old (this project's own
-- number; RFC 6295, A.6.1 leaves it free).
abbrev pub late_bit : (sent_at tick : ℕ) → ℕ
late_bit sent_at tick = if nat_le tick (sent_at + 2000) then 128 else 0

abbrev pub y_bit : (tick : ℕ) → Sent → ℕ
y_bit tick place = late_bit place.tick tick

abbrev pub event_log : (s y : ℕ) → NoteEvent → List ℕ
event_log s y (Struck note velocity) = (s + note) ∷ (y + velocity) ∷ []
event_log s y (Released note velocity) = []
event_log s y Cleared = []
event_log s y Other = []

-- the log of a place, where it is a struck note: S NOTENUM, Y VELOCITY
abbrev pub note_log : (channel packet tick : ℕ) → Sent → List ℕ
note_log channel packet tick place = event_log (s_bit packet place) (y_bit tick place) (event_at channel place)

-- the logs of the struck notes that stand among these places
abbrev pub logs_of : (channel packet tick : ℕ) → List Sent → List ℕ
logs_of channel packet tick places = flat_map (note_log channel packet tick) (standing (note_ends channel) places)

abbrev pub log_count : (channel : ℕ) → List Sent → ℕ
log_count channel places = count_by (λ place. is_struck (event_at channel place)) places

-- ## The bits of released notes

abbrev pub released_note : NoteEvent → Option ℕ
released_note (Struck note velocity) = None
released_note (Released note velocity) = Some note
released_note Cleared = None
released_note Other = None

abbrev pub is_released : NoteEvent → Bool
is_released (Struck note velocity) = false
is_released (Released note velocity) = true
is_released Cleared = false
is_released Other = false

abbrev pub released : (channel : ℕ) → List Sent → List ℕ
released channel places = filter_map (λ place. released_note (event_at channel place)) places

-- LOW and HIGH: the least and the greatest of the notes divided by 8, or 15 and 0 where there is none
abbrev pub low_octet : (notes : List ℕ) → ℕ
low_octet notes = fold (λ low note. min low (note / 8)) 15 notes

abbrev pub high_octet : (notes : List ℕ) → ℕ
high_octet notes = fold (λ high note. max high (note / 8)) 0 notes

abbrev pub note_bit : (notes : List ℕ) → (note : ℕ) → ℕ
note_bit notes note = if list_any (λ n. n == note) notes then 1 else 0

-- the octet of the eight notes from 8 k on, the first of them by its high bit
abbrev pub off_octet : (notes : List ℕ) → (k : ℕ) → ℕ
off_octet notes k =
    128 * note_bit notes (8 * k) + 64 * note_bit notes (8 * k + 1) + 32 * note_bit notes (8 * k + 2)
    + 16 * note_bit notes (8 * k + 3) + 8 * note_bit notes (8 * k + 4) + 4 * note_bit notes (8 * k + 5)
    + 2 * note_bit notes (8 * k + 6) + note_bit notes (8 * k + 7)

abbrev pub off_octets : (notes : List ℕ) → List ℕ
off_octets notes = map (off_octet notes) (range_with_len (low_octet notes) (high_octet notes + 1 - low_octet notes))

-- ## The chapter

-- whether a released note is of the packet before
abbrev pub released_fresh : (channel packet : ℕ) → List Sent → Bool
released_fresh channel packet places = list_any (λ place. is_released (event_at channel place) && is_fresh packet place) places

-- HIGH, which tells 127 logs from 128 where no note is released
abbrev pub high_field : (count : ℕ) → (notes : List ℕ) → ℕ
high_field count notes = if length notes == 0 && count == 127 then 1 else high_octet notes

-- The header. B is this project's own by the released notes whose bits are written, where RFC 6295, A.6.1 goes by any note
-- off of the channel: it is 0 where a released note is of the packet before, and LEN is the number of logs, of which 128 are told
-- as 127.
abbrev pub note_head : (channel packet : ℕ) → List Sent → NoteHead
note_head channel packet places = record {
  b = not (released_fresh channel packet places);
  len = min 127 (log_count channel places);
  low = low_octet (released channel places);
  high = high_field (log_count channel places) (released channel places);
}

-- the header, the logs, the bits; nothing where no place is of a note
abbrev pub chapter_of : (channel packet tick : ℕ) → List Sent → List ℕ
chapter_of channel packet tick places =
    if log_count channel places == 0 && length (released channel places) == 0 then []
    else note_octets (note_head channel packet places)
    ++ (flat_map (note_log channel packet tick) places ++ off_octets (released channel places))

-- the places that the chapter codes in this packet's journal
abbrev pub coded_notes : (channel checkpoint packet : ℕ) → List Sent → List Sent
coded_notes channel checkpoint packet sent = coded (note_ends channel) packet_of checkpoint (below packet_of packet sent)

-- Chapter N of this channel in the journal of this packet, whose tick is the packet's.
unfoldable pub chapter_n : (channel checkpoint packet tick : ℕ) → List Sent → List ℕ
chapter_n channel checkpoint packet tick sent = chapter_of channel packet tick (coded_notes channel checkpoint packet sent)

-- whether an S or the B of the chapter is 0
unfoldable pub fresh_n : (channel checkpoint packet : ℕ) → List Sent → Bool
fresh_n channel checkpoint packet sent = list_any (λ place. (is_struck (event_at channel place) || is_released (event_at channel place)) && is_fresh packet place) (coded_notes channel checkpoint packet sent)
