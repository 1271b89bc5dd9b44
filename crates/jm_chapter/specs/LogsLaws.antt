-- What holds of lists of logs.
use Rattle.std.proofs.Common.{◌≡◌, ℕ, zero, suc, ◌+◌, ◌*◌, ◌-◌, ◌≤◌, ◌<◌, Bool, true, false, cond, ◌||◌, ◌&&◌, eqb, List, [], ◌∷◌, ◌++◌, length, refl, sym, ap, ◌∙◌, arith, length-append, append_assoc, inl, inr}
use Rattle.std.specs.List.{list_any, flat_map, AllByRecursion}
use Rattle.std.proofs.lemmas.Bool.{cases_Bool, ne_eqb}
use Rattle.jm_cmds.specs.Sent.{shows_fresh as header_shows_fresh}
use Rattle.jm_cmds.specs.declared.history.Sent.{Sent}
use Rattle.jm_cmds.specs.Sent.{is_fresh, s_of, s_bit}
use Rattle.jm_cmds.specs.SentLaws.{s-shows}
use Rattle.jm_chapter.specs.declared.log.Log.{Log}
use Rattle.jm_chapter.specs.Logs.{log_text, logs_text, texts, has_log, log_count, has_fresh, with_header, listed_size, listed, some_clear, log_shows_fresh}

-- ## The length

pub length-logs_text : (s : ℕ) (logs : List Log) → length (logs_text s logs) ≡ 2 * length logs
length-logs_text s [] = refl
length-logs_text s (log ∷ logs) = omega (arith, length-logs_text s logs)

pub length-texts : (logs_at : Sent → List Log) (packet : ℕ) (places : List Sent) → length (texts logs_at packet places) ≡ 2 * log_count logs_at places
length-texts logs_at packet [] = refl
length-texts logs_at packet (x ∷ xs) =
    let s = s_bit packet x in
    omega (
      arith,
      length-append (logs_text s (logs_at x)) (texts logs_at packet xs),
      length-append (logs_at x) (flat_map logs_at xs),
      length-logs_text s (logs_at x),
      length-texts logs_at packet xs,
    )

pub with_header-none : (fresh : Bool) (logs : List ℕ) (count : ℕ) → count ≡ 0 → with_header count fresh logs ≡ []
with_header-none fresh logs count e = rw e refl

pub with_header-some : (fresh : Bool) (logs : List ℕ) (count : ℕ) → 0 < count → with_header count fresh logs ≡ (s_of fresh + (count - 1)) ∷ logs
with_header-some fresh logs count l =
    let some : eqb count 0 ≡ false = ne_eqb count 0 (λ e. omega (arith, e, l)) in
    rw some refl

length-with_header : (count : ℕ) (fresh : Bool) (logs : List ℕ) → length logs ≡ 2 * count → length (with_header count fresh logs) ≡ listed_size count
length-with_header count fresh logs l =
    elim (cases_Bool (eqb count 0)) [ inl t ↦ rw t refl | inr f ↦ rw f (omega (arith, l)) ]

pub length-listed : (logs_at : Sent → List Log) (packet : ℕ) (places : List Sent) → length (listed logs_at packet places) ≡ listed_size (log_count logs_at places)
length-listed logs_at packet places =
    length-with_header (log_count logs_at places) (has_fresh logs_at packet places) (texts logs_at packet places) (length-texts logs_at packet places)

-- the chapter in pieces, by what was counted
pub listed-none : (logs_at : Sent → List Log) (packet count : ℕ) (places : List Sent) → count ≡ log_count logs_at places → count ≡ 0 → listed logs_at packet places ≡ []
listed-none logs_at packet count places n z =
    with_header-none (has_fresh logs_at packet places) (texts logs_at packet places) (log_count logs_at places) (sym n ∙ z)

pub listed-some : (logs_at : Sent → List Log) (packet count : ℕ) (fresh : Bool) (places : List Sent) → count ≡ log_count logs_at places → fresh ≡ has_fresh logs_at packet places → 0 < count →
    listed logs_at packet places ≡ (s_of fresh + (count - 1)) ∷ texts logs_at packet places
listed-some logs_at packet count fresh places n f l =
    let logs = texts logs_at packet places in
    ap (λ (m : ℕ). with_header m (has_fresh logs_at packet places) logs) (sym n)
    ∙ ap (λ (b : Bool). with_header count b logs) (sym f)
    ∙ with_header-some fresh logs count l

-- ## What the octets show

-- the number of the log has seven bits
abbrev pub FitsLog : Log → Type 0
FitsLog log = log.number < 128

abbrev pub FitLogs : List Log → Type 0
FitLogs logs = AllByRecursion FitsLog logs

clear-logs : (fresh : Bool) (logs : List Log) (rest : List ℕ) → FitLogs logs →
    some_clear (logs_text (s_of fresh) logs ++ rest) ≡ ((has_log logs && fresh) || some_clear rest)
clear-logs fresh [] rest w = refl
clear-logs fresh (log ∷ logs) rest w =
    ap (λ (b : Bool). b || some_clear (logs_text (s_of fresh) logs ++ rest)) (s-shows fresh log.number w.0)
    ∙ ap (λ (b : Bool). fresh || b) (clear-logs fresh logs rest w.1)
    ∙ same fresh (has_log logs) (some_clear rest)
  where
    same : (f l r : Bool) → (f || ((l && f) || r)) ≡ (f || r)
    same true l r = refl
    same false true r = refl
    same false false r = refl

clear-texts : (logs_at : Sent → List Log) (packet : ℕ) (places : List Sent) → AllByRecursion (λ place. FitLogs (logs_at place)) places →
    some_clear (texts logs_at packet places) ≡ has_fresh logs_at packet places
clear-texts logs_at packet [] w = refl
clear-texts logs_at packet (x ∷ xs) w =
    clear-logs (is_fresh packet x) (logs_at x) (texts logs_at packet xs) w.0
    ∙ ap (λ (b : Bool). (has_log (logs_at x) && is_fresh packet x) || b) (clear-texts logs_at packet xs w.1)

both-show : (count : ℕ) (fresh : Bool) (logs : List ℕ) → count ≤ 128 → length logs ≡ 2 * count → some_clear logs ≡ fresh →
    (fresh ≡ header_shows_fresh (with_header count fresh logs)) × (fresh ≡ log_shows_fresh (with_header count fresh logs))
both-show zero fresh [] few l c = (sym c, sym c)
both-show zero fresh (x ∷ logs) few l c = absurd (omega (arith, l))
both-show (suc n) fresh logs few l c =
    let all = with_header-some fresh logs (suc n) (omega arith) in
    (sym (ap header_shows_fresh all ∙ s-shows fresh (suc n - 1) (omega (arith, few))), sym (ap log_shows_fresh all ∙ c))

-- a list of at most 128 logs shows in its header, and in its logs, whether one is of the packet before
pub listed-shows : (logs_at : Sent → List Log) (packet : ℕ) (places : List Sent) → AllByRecursion (λ place. FitLogs (logs_at place)) places → log_count logs_at places ≤ 128 →
    (has_fresh logs_at packet places ≡ header_shows_fresh (listed logs_at packet places)) × (has_fresh logs_at packet places ≡ log_shows_fresh (listed logs_at packet places))
listed-shows logs_at packet places w few =
    both-show (log_count logs_at places) (has_fresh logs_at packet places) (texts logs_at packet places) few (length-texts logs_at packet places) (clear-texts logs_at packet places w)
