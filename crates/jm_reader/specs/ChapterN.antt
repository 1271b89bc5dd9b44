-- Chapter N (RFC 6295, A.6, Figures A.6.1 to A.6.3).
use Rattle.std.specs.Prelude.{ℕ, ◌+◌, ◌-◌, ◌*◌, Bool, not, ◌&&◌, List, [], ◌∷◌, ◌++◌, Some, None, length, take, drop, nat_lt, ◌==◌, if◌then◌else◌}
use Rattle.jm_wire.specs.declared.heads.NoteHead.{NoteHead}
use Rattle.jm_wire.specs.Heads.{is_set, note_fields}
use Rattle.jm_reader.specs.declared.logs.Log.{Log}
use Rattle.jm_reader.specs.declared.logs.LogKind.TheVariants.{NoteOff}
use Rattle.jm_reader.specs.declared.pairs.PairKind.TheVariants.{Notes}
use Rattle.jm_reader.specs.Chapter.{Chapter}
use Rattle.jm_reader.specs.Pairs.{pair_logs}

-- ## OFFBITS

-- a note whose bit is set
abbrev pub off_log : (channel : ℕ) → (fresh : Bool) → (note : ℕ) → (is_off : Bool) → List Log
off_log channel fresh note is_off = if is_off then record { fresh = fresh; what = NoteOff channel note } ∷ [] else []

-- the eight notes from this one on, the first of them by the high bit
abbrev pub off_octet : (channel : ℕ) → (fresh : Bool) → (note octet : ℕ) → List Log
off_octet channel fresh note octet =
    off_log channel fresh note (is_set 128 octet) ++ off_log channel fresh (note + 1) (is_set 64 octet)
    ++ off_log channel fresh (note + 2) (is_set 32 octet) ++ off_log channel fresh (note + 3) (is_set 16 octet)
    ++ off_log channel fresh (note + 4) (is_set 8 octet) ++ off_log channel fresh (note + 5) (is_set 4 octet)
    ++ off_log channel fresh (note + 6) (is_set 2 octet) ++ off_log channel fresh (note + 7) (is_set 1 octet)

-- octet by octet, from this note on
abbrev pub off_logs : (channel : ℕ) → (fresh : Bool) → (note : ℕ) → List ℕ → List Log
off_logs channel fresh note [] = []
off_logs channel fresh note (octet ∷ octets) = off_octet channel fresh note octet ++ off_logs channel fresh (note + 8) octets

-- ## The chapter

-- LEN; 127 stands for 128 where LOW is 15 and HIGH is 0
abbrev pub note_count : NoteHead → ℕ
note_count head = if head.len == 127 && head.low == 15 && head.high == 0 then 128 else head.len

-- HIGH - LOW + 1 octets, and none where LOW is over HIGH
abbrev pub off_count : NoteHead → ℕ
off_count head = if nat_lt head.high head.low then 0 else head.high + 1 - head.low

abbrev pub n_size : NoteHead → ℕ
n_size head = 2 * note_count head + off_count head

-- the released notes, then the struck ones, whose logs stand before OFFBITS
abbrev pub n_logs : ℕ → NoteHead → List ℕ → List Log
n_logs channel head rest =
    off_logs channel (not head.b) (8 * head.low) (take (off_count head) (drop (2 * note_count head) rest))
    ++ pair_logs Notes channel (take (2 * note_count head) rest)

-- B LEN, LOW HIGH
abbrev pub n_read : ℕ → List ℕ → Chapter
n_read channel (first ∷ second ∷ rest) =
    let head = note_fields (first ∷ second ∷ []) in
    if nat_lt (length rest) (n_size head) then None else Some (n_logs channel head rest, n_size head + 2)
n_read channel _ = None
