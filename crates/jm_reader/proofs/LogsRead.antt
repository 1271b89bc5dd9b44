-- Reading the logs of Chapter X one after the other, as a loop does.
use Rattle.std.proofs.Common.{◌≡◌, ℕ, zero, suc, ◌-◌, ◌+◌, ◌≤◌, ◌<◌, List, [], ◌∷◌, drop, length, Result, Ok, refl, sym, ap, ◌∙◌, length-drop, arith}
use Rattle.jm_cmds.specs.declared.outcome.ReadError.{ReadError}
use Rattle.jm_reader.specs.declared.faults.JournalFault.{JournalFault}
use Rattle.jm_reader.specs.declared.logs.Log.{Log}
use Rattle.jm_reader.specs.Chapter.{Chapter, joined, and_then, chapter, Reads}
use Rattle.jm_reader.specs.ChapterX.{log_read, logs_read, x_read}
use Rattle.jm_reader.specs.ChapterLaws.{failed, onward, stops, from_none, to_none}

-- at most n logs are still read, which stand in rest
pub record ReadsOn (meant : Result (List Log × ℕ) JournalFault) (whole place : ℕ) (logs : List Log) (used n : ℕ) (rest : List ℕ) : Type 0 where
  pub gives : chapter place logs (joined ([], used) (logs_read n rest)) ≡ meant
  pub inside : used + length rest ≡ whole

pub begins : (place : ℕ) (logs : List Log) (body : List ℕ) → 1 ≤ length body
    → ReadsOn (chapter place logs (x_read body)) (length body) place logs 0 (length body) body
begins place logs [] some = absurd (omega arith)
begins place logs (first ∷ rest) some = record {
  gives = ap (λ (part : Chapter). chapter place logs part) (from_none (logs_read (length (first ∷ rest)) (first ∷ rest)));
  inside = omega arith;
}

-- what is meant of the next log
one_more : (place : ℕ) (logs : List Log) (used n : ℕ) (rest : List ℕ) → 1 ≤ length rest
    → logs_read (suc n) rest ≡ and_then (log_read rest) (λ size. logs_read n (drop size rest))
unfolding logs_read
one_more place logs used n [] some = absurd (omega arith)
one_more place logs used n (first ∷ rest) some = refl

pub goes_on : (meant : Result (List Log × ℕ) JournalFault) (whole place : ℕ) (logs after : List Log) (used n i size : ℕ) (rest : List ℕ) → i < n → 1 ≤ length rest
    → chapter place logs (log_read rest) ≡ Ok (after, size) → size ≤ length rest → ReadsOn meant whole place logs used (n - i) rest
    → ReadsOn meant whole place after (used + size) (n - (i + 1)) (drop size rest)
goes_on meant whole place logs after used n i size rest lt some e within r =
    let k : n - i ≡ suc (n - (i + 1)) = omega arith in
    let later = λ (size : ℕ). logs_read (n - (i + 1)) (drop size rest) in
    let one = onward place logs after used size (log_read rest) later e in
    let all = ap (λ (part : Chapter). chapter place logs (joined ([], used) part)) (ap (λ (m : ℕ). logs_read m rest) k ∙ one_more place logs used (n - (i + 1)) rest some) in
    record { gives = sym one ∙ (sym all ∙ r.gives); inside = omega (arith, r.inside, length-drop size rest) }

pub fails_here : (e : ReadError JournalFault) (meant : Result (List Log × ℕ) JournalFault) (whole place : ℕ) (logs after : List Log) (used n i : ℕ) (rest : List ℕ) → i < n → 1 ≤ length rest
    → Reads (failed e) after (chapter place logs (log_read rest)) → ReadsOn meant whole place logs used (n - i) rest → Reads (failed e) after meant
fails_here e meant whole place logs after used n i rest lt some fails r =
    let k : n - i ≡ suc (n - (i + 1)) = omega arith in
    let later = λ (size : ℕ). logs_read (n - (i + 1)) (drop size rest) in
    let all = ap (λ (part : Chapter). chapter place logs (joined ([], used) part)) (ap (λ (m : ℕ). logs_read m rest) k ∙ one_more place logs used (n - (i + 1)) rest some) in
    rw (← r.gives, all) (stops place e logs after used (log_read rest) later fails)

pub ends_here : (meant : Result (List Log × ℕ) JournalFault) (whole place : ℕ) (logs : List Log) (used n : ℕ) (rest : List ℕ) → length rest ≤ 0
    → ReadsOn meant whole place logs used n rest → meant ≡ Ok (logs, used)
unfolding logs_read
ends_here meant whole place logs used zero [] none r = sym r.gives ∙ to_none place logs used
ends_here meant whole place logs used (suc n) [] none r = sym r.gives ∙ to_none place logs used
ends_here meant whole place logs used n (first ∷ rest) none r = absurd (omega arith)

pub all_read : (meant : Result (List Log × ℕ) JournalFault) (whole place : ℕ) (logs : List Log) (used n i : ℕ) (rest : List ℕ) → n ≤ i
    → ReadsOn meant whole place logs used (n - i) rest → meant ≡ Ok (logs, used)
unfolding logs_read
all_read meant whole place logs used n i rest le r =
    let k : n - i ≡ 0 = omega arith in
    let none = ap (λ (m : ℕ). chapter place logs (joined ([], used) (logs_read m rest))) k in
    sym r.gives ∙ (none ∙ to_none place logs used)
