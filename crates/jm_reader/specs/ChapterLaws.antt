-- Reading one part of a chapter behind another.
use Rattle.std.proofs.Common.{◌≡◌, ℕ, ◌+◌, List, [], ◌++◌, Some, None, Result, Ok, Err, refl, ap, zero-add, add-zero, add_assoc, append_assoc}
use Rattle.std.proofs.lemmas.List.{append-nil}
use Rattle.jm_cmds.specs.declared.outcome.ReadError.{ReadError}
use Rattle.jm_cmds.specs.declared.outcome.ReadError.TheVariants as errors
use Rattle.jm_reader.specs.declared.faults.JournalFault.{JournalFault}
use Rattle.jm_reader.specs.declared.logs.Log.{Log}
use Rattle.jm_reader.specs.Chapter.{Chapter, joined, and_then, chapter, Reads}

abbrev pub failed : ReadError JournalFault → Result ℕ (ReadError JournalFault)
failed e = Err e

abbrev pub left_failed : ReadError JournalFault → Result (Unit {0}) (ReadError JournalFault)
left_failed e = Err e

regrouped : (place : ℕ) (before : List Log) (used : ℕ) (first : List Log × ℕ) (rest : Chapter)
    → chapter place before (joined ([], used) (joined first rest)) ≡ chapter place (before ++ first.0) (joined ([], used + first.1) rest)
regrouped place before used first None = refl
regrouped place before used first (Some more) = simp (append_assoc, add_assoc)

-- A part was read: what is meant goes on behind it.
pub onward : (place : ℕ) (before after : List Log) (used size : ℕ) (part : Chapter) (behind : ℕ → Chapter)
    → chapter place before part ≡ Ok (after, size)
    → chapter place before (joined ([], used) (and_then part behind)) ≡ chapter place after (joined ([], used + size) (behind size))
onward place before after used size None behind e = cc
onward place before after used size (Some first) behind e =
    let pair : (before ++ first.0, first.1) ≡ (after, size) = cc in
    let logs : before ++ first.0 ≡ after = ap (λ (p : List Log × ℕ). p.0) pair in
    let number : first.1 ≡ size = ap (λ (p : List Log × ℕ). p.1) pair in
    rw (← logs, ← number) (regrouped place before used first (behind first.1))

-- The last part was read.
pub at_last : (place : ℕ) (before after : List Log) (used size : ℕ) (part : Chapter)
    → chapter place before part ≡ Ok (after, size) → chapter place before (joined ([], used) part) ≡ Ok (after, used + size)
at_last place before after used size None e = cc
at_last place before after used size (Some first) e =
    let pair : (before ++ first.0, first.1) ≡ (after, size) = cc in
    ap (λ (p : List Log × ℕ). Ok (p.0, used + p.1)) pair

-- A part wasn't read.
pub stops : (place : ℕ) (e : ReadError JournalFault) (before after : List Log) (used : ℕ) (part : Chapter) (behind : ℕ → Chapter)
    → Reads (failed e) after (chapter place before part) → Reads (failed e) after (chapter place before (joined ([], used) (and_then part behind)))
stops place errors.Memory before after used part behind r = tt
stops place (errors.Fault f) before after used None behind r = r
stops place (errors.Fault f) before after used (Some first) behind r = cc

-- Nothing stands before, or nothing behind.
pub from_none : (part : Chapter) → joined ([], 0) part ≡ part
from_none None = refl
from_none (Some first) = rw (zero-add first.1) refl

pub to_none : (place : ℕ) (before : List Log) (used : ℕ) → chapter place before (joined ([], used) (Some ([], 0))) ≡ Ok (before, used)
to_none place before used = rw (append-nil before, add-zero used) refl
