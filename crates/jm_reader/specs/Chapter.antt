-- What a chapter gives.
use Rattle.std.specs.Prelude.{ℕ, ◌+◌, ◌≡◌, List, ◌++◌, Option, Some, None, Result, Ok, Err}
use Rattle.jm_cmds.specs.declared.outcome.ReadError.{ReadError}
use Rattle.jm_cmds.specs.declared.outcome.ReadError.TheVariants as errors
use Rattle.jm_reader.specs.declared.faults.JournalFault.{JournalFault}
use Rattle.jm_reader.specs.declared.faults.JournalFault.TheVariants.{Inside}
use Rattle.jm_reader.specs.declared.logs.Log.{Log}

-- the logs of a chapter that begins some octets, and how many octets it has; none where it passes their end
abbrev pub Chapter : Type 0
Chapter = Option (List Log × ℕ)

-- What stands at the front of some octets, and then what stands behind it, which is told for the octets used.
abbrev pub joined : List Log × ℕ → Chapter → Chapter
joined first None = None
joined first (Some more) = Some (first.0 ++ more.0, first.1 + more.1)

abbrev pub and_then : Chapter → (ℕ → Chapter) → Chapter
and_then None behind = None
and_then (Some first) behind = joined first (behind first.1)

-- A chapter at this place behind these logs. It is a fault where it passes the end of its journal.
abbrev pub chapter : ℕ → List Log → Chapter → Result (List Log × ℕ) JournalFault
chapter place before None = Err (Inside place)
chapter place before (Some read) = Ok (before ++ read.0, read.1)

-- logs, and so many octets of them
abbrev pub with_size : (size : ℕ) → Result (List Log) JournalFault → Result (List Log × ℕ) JournalFault
with_size size (Ok logs) = Ok (logs, size)
with_size size (Err fault) = Err fault

-- The reader answers what is meant, with these logs behind it, unless memory was refused.
abbrev pub Reads : Result ℕ (ReadError JournalFault) → List Log → Result (List Log × ℕ) JournalFault → Type 0
Reads (Ok used) after meant = meant ≡ Ok (after, used)
Reads (Err errors.Memory) after meant = Unit {0}
Reads (Err (errors.Fault f)) after meant = meant ≡ Err f

-- These logs were left, unless memory was refused.
abbrev pub Leaves : {A : Type 0} → Result A (ReadError JournalFault) → List Log → Result (List Log) JournalFault → Type 0
Leaves (Ok done) after meant = meant ≡ Ok after
Leaves (Err errors.Memory) after meant = Unit {0}
Leaves (Err (errors.Fault f)) after meant = meant ≡ Err f
