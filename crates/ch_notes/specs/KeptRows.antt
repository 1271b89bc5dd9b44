-- What a table keeps of coded places: of each that has a row, its packet with the row.
use Rattle.std.specs.Prelude.{ℕ, ◌+◌, ◌==◌, ◌≤◌, Bool, ◌&&◌, List, [], ◌∷◌, Option, Some, None, length}
use Rattle.std.specs.List.{list_any, flat_map, AllByRecursion}
use Rattle.jm_cmds.specs.declared.history.Sent.{Sent}
use Rattle.jm_cmds.specs.KeptItem.{kept_fresh}
use Rattle.jm_cmds.specs.Sent.{s_of}
use Rattle.jm_chapter.specs.declared.log.Log.{Log}
use Rattle.jm_chapter.specs.Logs.{logs_text, has_log, with_header}

abbrev pub cons_row : {R : Type 0} → (packet : ℕ) → Option R → List (ℕ × R) → List (ℕ × R)
cons_row packet (Some row) rows = (packet, row) ∷ rows
cons_row packet None rows = rows

abbrev pub rows_of : {R : Type 0} → (row_at : Sent → Option R) → List Sent → List (ℕ × R)
rows_of row_at [] = []
rows_of row_at (x ∷ xs) = cons_row x.packet (row_at x) (rows_of row_at xs)

-- no row is of a later packet
abbrev pub RowsUpTo : {R : Type 0} → (packet : ℕ) → List (ℕ × R) → Type 0
RowsUpTo packet rows = AllByRecursion (λ r. r.0 ≤ packet) rows

-- ## Chapters that are a list of logs, by the logs of each row

abbrev pub row_texts : {R : Type 0} → (logs : R → List Log) → (packet : ℕ) → List (ℕ × R) → List ℕ
row_texts logs packet rows = flat_map (λ r. logs_text (s_of (kept_fresh packet r)) (logs r.1)) rows

abbrev pub row_count : {R : Type 0} → (logs : R → List Log) → List (ℕ × R) → ℕ
row_count logs rows = length (flat_map (λ r. logs r.1) rows)

abbrev pub row_fresh : {R : Type 0} → (logs : R → List Log) → (packet : ℕ) → List (ℕ × R) → Bool
row_fresh logs packet rows = list_any (λ r. has_log (logs r.1) && kept_fresh packet r) rows

abbrev pub rows_listed : {R : Type 0} → (logs : R → List Log) → (packet : ℕ) → List (ℕ × R) → List ℕ
rows_listed logs packet rows = with_header (row_count logs rows) (row_fresh logs packet rows) (row_texts logs packet rows)

-- ## The same of keys with stamps, by the logs of each key

abbrev pub key_texts : (logs : ℕ → List Log) → (packet : ℕ) → List (ℕ × ℕ) → List ℕ
key_texts logs packet es = flat_map (λ e. logs_text (s_of (e.1 + 1 == packet)) (logs e.0)) es

abbrev pub key_logs : (logs : ℕ → List Log) → List (ℕ × ℕ) → ℕ
key_logs logs es = length (flat_map (λ e. logs e.0) es)

abbrev pub key_fresh : (logs : ℕ → List Log) → (packet : ℕ) → List (ℕ × ℕ) → Bool
key_fresh logs packet es = list_any (λ e. has_log (logs e.0) && (e.1 + 1 == packet)) es

abbrev pub key_listed : (logs : ℕ → List Log) → (packet : ℕ) → List (ℕ × ℕ) → List ℕ
key_listed logs packet es = with_header (key_logs logs es) (key_fresh logs packet es) (key_texts logs packet es)
