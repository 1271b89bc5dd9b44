-- Chapters that are a list of logs of two octets, behind a header with their number (RFC 6295, A.3, Figures
-- A.3.1 to A.3.3, A.7, Figures A.7.1 and A.7.2, and A.9, Figures A.9.1 and A.9.2).
use Rattle.std.specs.Prelude.{ℕ, ◌+◌, ◌-◌, ◌*◌, Bool, true, false, ◌&&◌, List, [], ◌∷◌, length, nat_lt, ◌||◌, ◌==◌, if◌then◌else◌}
use Rattle.std.specs.List.{list_any, flat_map}
use Rattle.jm_cmds.specs.declared.history.Sent.{Sent}
use Rattle.jm_cmds.specs.Sent.{is_fresh, s_of, s_bit}
use Rattle.jm_chapter.specs.declared.log.Log.{Log}
use Rattle.jm_chapter.specs.declared.log.PlaceLogs.{PlaceLogs}
use Rattle.jm_chapter.specs.declared.log.PlaceLogs.TheVariants.{Empty, One, Two}

-- ## The logs of a place

-- the list that is meant
abbrev pub logs_in : PlaceLogs → List Log
logs_in Empty = []
logs_in (One log) = log ∷ []
logs_in (Two first second) = first ∷ second ∷ []

abbrev pub has_log : List Log → Bool
has_log [] = false
has_log (log ∷ logs) = true

-- S and the number, and the octet behind it
abbrev pub log_text : (s : ℕ) → Log → List ℕ
log_text s log = (s + log.number) ∷ log.field ∷ []

-- logs of one place, which have one S
abbrev pub logs_text : (s : ℕ) → List Log → List ℕ
logs_text s logs = flat_map (log_text s) logs

-- ## The logs of places, each with those that logs_at gives it

-- their octets, in the order of the places
abbrev pub texts : (logs_at : Sent → List Log) → (packet : ℕ) → List Sent → List ℕ
texts logs_at packet places = flat_map (λ place. logs_text (s_bit packet place) (logs_at place)) places

-- how many there are
abbrev pub log_count : (logs_at : Sent → List Log) → List Sent → ℕ
log_count logs_at places = length (flat_map logs_at places)

-- whether one is of the packet before
abbrev pub has_fresh : (logs_at : Sent → List Log) → (packet : ℕ) → List Sent → Bool
has_fresh logs_at packet places = list_any (λ place. has_log (logs_at place) && is_fresh packet place) places

-- ## The chapter

-- S LEN, where LEN is the number of logs minus 1, and the logs; nothing where there is no log
abbrev pub with_header : (count : ℕ) → (fresh : Bool) → List ℕ → List ℕ
with_header count fresh logs = if count == 0 then [] else (s_of fresh + (count - 1)) ∷ logs

abbrev pub listed : (logs_at : Sent → List Log) → (packet : ℕ) → List Sent → List ℕ
listed logs_at packet places = with_header (log_count logs_at places) (has_fresh logs_at packet places) (texts logs_at packet places)

-- how many octets so many logs make
abbrev pub listed_size : (count : ℕ) → ℕ
listed_size count = if count == 0 then 0 else 1 + 2 * count

-- ## What the octets show of the packet before

-- whether the S bit of one of these logs is 0
abbrev pub some_clear : List ℕ → Bool
some_clear [] = false
some_clear (number ∷ []) = false
some_clear (number ∷ field ∷ logs) = nat_lt number 128 || some_clear logs

abbrev pub log_shows_fresh : List ℕ → Bool
log_shows_fresh [] = false
log_shows_fresh (first ∷ logs) = some_clear logs
