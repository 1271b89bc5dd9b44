-- Logs of two octets each: those of Chapters C, E and A behind a header that counts them, and the note logs of
-- Chapter N (RFC 6295, A.3, A.6, A.7 and A.9).
use Rattle.std.specs.Prelude.{ℕ, ◌+◌, ◌*◌, ◌%◌, Bool, not, List, [], ◌∷◌, ◌++◌, Option, Some, None, length, take, nat_lt, ◌==◌, if◌then◌else◌}
use Rattle.jm_cmds.specs.Control.{is_entry, is_counted}
use Rattle.jm_reader.specs.declared.logs.Log.{Log}
use Rattle.jm_reader.specs.declared.logs.LogKind.{LogKind}
use Rattle.jm_reader.specs.declared.logs.LogKind.TheVariants.{Control, Toggle, Count, NoteOn, Extra, Poly}
use Rattle.jm_reader.specs.declared.pairs.PairKind.{PairKind}
use Rattle.jm_reader.specs.declared.pairs.PairKind.TheVariants.{Controllers, Notes, Extras, Pressures}
use Rattle.jm_reader.specs.Chapter.{Chapter}

-- ## Chapter C

-- A VALUE: a value with A=0 for each controller but 6 and 38, whose values stand in Chapter M; with A=1 and then 0 the
-- toggles of the sustain pedal, which is Control 64; with A=1 and then 1 a count where the commands are counted. Other logs say
-- nothing here: that toggles stand for 64 alone, and counts for these controllers alone, is this project's own choice.
abbrev pub toggles_said : (channel number form : ℕ) → Option LogKind
toggles_said channel number form = if number == 64 then Some (Toggle channel (form % 64)) else None

abbrev pub count_said : (channel number form : ℕ) → Option LogKind
count_said channel number form = if is_counted number then Some (Count channel number (form % 64)) else None

abbrev pub control_said : (channel number form : ℕ) → Option LogKind
control_said channel number form =
    if is_entry number then None
    else (if nat_lt form 128 then Some (Control channel number form)
    else (if nat_lt form 192 then toggles_said channel number form else count_said channel number form))

-- ## The note logs of Chapter N

-- Y VELOCITY
abbrev pub note_said : (channel note second : ℕ) → LogKind
note_said channel note second = NoteOn channel note (second % 128) (not (nat_lt second 128))

-- ## What two octets say

-- the kind of log, with the number of seven bits behind S
abbrev pub said : PairKind → (channel number second : ℕ) → Option LogKind
said Controllers channel number second = control_said channel number second
said Notes channel number second = Some (note_said channel number second)
said Extras channel number second = Some (Extra channel number (not (nat_lt second 128)) (second % 128))
said Pressures channel number second = Some (Poly channel number (second % 128))

abbrev pub logged : Bool → Option LogKind → List Log
logged fresh None = []
logged fresh (Some what) = record { fresh = fresh; what = what } ∷ []

-- S and a number, then the second octet
abbrev pub pair_logs : PairKind → (channel : ℕ) → List ℕ → List Log
pair_logs kind channel (first ∷ second ∷ rest) = logged (nat_lt first 128) (said kind channel (first % 128) second) ++ pair_logs kind channel rest
pair_logs kind channel _ = []

-- ## A chapter

-- S LEN, then LEN + 1 logs
abbrev pub listed_size : ℕ → ℕ
listed_size first = 2 * (first % 128 + 1)

abbrev pub listed_read : PairKind → (channel : ℕ) → List ℕ → Chapter
listed_read kind channel (first ∷ rest) =
    if nat_lt (length rest) (listed_size first) then None
    else Some (pair_logs kind channel (take (listed_size first) rest), listed_size first + 1)
listed_read kind channel [] = None
