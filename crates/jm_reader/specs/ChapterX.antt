-- Chapter X (RFC 6295, B.5, Figure B.5.1): logs up to the end of the system journal.
use Rattle.std.specs.Prelude.{ℕ, zero, suc, ◌+◌, ◌-◌, ◌%◌, Bool, true, false, ◌&&◌, ◌==◌, List, [], ◌∷◌, length, take, drop, Some, None, nat_lt, if◌then◌else◌}
use Rattle.jm_wire.specs.Heads.{bit, is_set, octet}
use Rattle.jm_cmds.specs.Data.{data_len}
use Rattle.jm_cmds.specs.SysexMade.{unmarked}
use Rattle.jm_reader.specs.declared.logs.Log.{Log}
use Rattle.jm_reader.specs.declared.logs.LogKind.TheVariants.{Sysex}
use Rattle.jm_reader.specs.declared.x.LogHead.{LogHead}
use Rattle.jm_reader.specs.Chapter.{Chapter, and_then}

-- S T C F D L STA(2)
abbrev pub log_head : ℕ → LogHead
log_head first = record {
  s = is_set 128 first;
  t = is_set 64 first;
  c = is_set 32 first;
  f = is_set 16 first;
  d = is_set 8 first;
  l = is_set 4 first;
  sta = first % 4;
}

-- The form that is written: COUNT alone, the list tool, and a finished command.
abbrev pub is_written : LogHead → Bool
is_written head = (if head.t then false else head.c) && (if head.f then false else head.l) && (head.sta == 3)

-- The octets of the field FIRST: up to the first without the high bit, and at most four. Past the end they are
-- counted as one more.
unfoldable pub first_len : List ℕ → ℕ
first_len octets =
    if nat_lt (octet octets 0) 128 then 1
    else (if nat_lt (octet octets 1) 128 then 2
    else (if nat_lt (octet octets 2) 128 then 3 else 4))

-- The fields behind the head: TCOUNT and COUNT of an octet each, FIRST, and the data octets up to the first with the
-- high bit.
abbrev pub counts_size : LogHead → ℕ
counts_size head = bit head.t + bit head.c

abbrev pub first_size : LogHead → List ℕ → ℕ
first_size head rest = if head.f then first_len rest else 0

abbrev pub data_size : LogHead → List ℕ → ℕ
data_size head rest = if head.d then data_len rest + 1 else 0

-- the octets of a log, of which those behind the head are these and others; one past their end where they end in it
unfoldable pub log_size : LogHead → List ℕ → ℕ
log_size head rest =
    let counts = counts_size head in
    let first = first_size head (drop counts rest) in
    1 + (counts + (first + data_size head (drop first (drop counts rest))))

-- The log of the written form, by COUNT and the data octets.
abbrev pub sysex_log : LogHead → (count : ℕ) → (octets : List ℕ) → Log
sysex_log head count octets = record { fresh = if head.s then false else true; what = Sysex count (unmarked octets) }

-- the log at the front; none of another form than the written one, which has its size alone
abbrev pub log_at : LogHead → List ℕ → (size : ℕ) → Chapter
log_at head rest size =
    if nat_lt (length rest + 1) size then None
    else (if is_written head then Some (sysex_log head (octet rest 0) (take (size - 2) (drop 1 rest)) ∷ [], size)
    else Some ([], size))

unfoldable pub log_read : List ℕ → Chapter
log_read [] = None
log_read (first ∷ rest) = log_at (log_head first) rest (log_size (log_head first) rest)

-- the logs of octets to their end, at most n
unfoldable pub logs_read : (n : ℕ) → List ℕ → Chapter
logs_read zero octets = Some ([], 0)
logs_read (suc n) [] = Some ([], 0)
logs_read (suc n) (first ∷ rest) = and_then (log_read (first ∷ rest)) (λ size. logs_read n (drop size (first ∷ rest)))

-- The first log is there. Each has an octet, so there are at most as many as there are octets.
abbrev pub x_read : List ℕ → Chapter
x_read [] = None
x_read (first ∷ rest) = logs_read (length (first ∷ rest)) (first ∷ rest)
