-- Chapters of logs behind a header with their number: what is written is read.
use Rattle.std.proofs.Common.{◌≡◌, ℕ, suc, ◌+◌, ◌*◌, ◌-◌, ◌<◌, ◌≤◌, Bool, true, false, ltb, eqb, List, [], ◌∷◌, ◌++◌, length, take, Option, Some, None, refl, sym, ap, ◌∙◌, arith, inl, inr, map, length-append, append_assoc}
use Rattle.std.specs.List.{flat_map, filter_map, cons_option, AllByRecursion}
use Rattle.std.proofs.lemmas.Bool.{cases_Bool, le-ltb, ltb-false, eqb-true, eqb-false}
use Rattle.std.proofs.Math.Seq.{take-append_seam}
use Rattle.jm_cmds.specs.declared.history.Sent.{Sent}
use Rattle.jm_cmds.specs.Sent.{is_fresh, s_of}
use Rattle.jm_chapter.specs.declared.log.Log.{Log as Listing}
use Rattle.jm_chapter.specs.Logs.{logs_text, texts, log_count, has_fresh, listed}
use Rattle.jm_chapter.specs.LogsLaws.{FitLogs, listed-none, listed-some, length-texts}
use Rattle.jm_journal.specs.Channel.{is_there}
use Rattle.jm_reader.specs.declared.logs.Log.{Log}
use Rattle.jm_reader.specs.declared.logs.LogKind.{LogKind}
use Rattle.jm_reader.specs.declared.pairs.PairKind.{PairKind}
use Rattle.jm_reader.specs.Octets.{shows, low_bits}
use Rattle.jm_reader.specs.Pairs.{said, logged, pair_logs, listed_size, listed_read}

-- a log that says this
abbrev pub log_of : (fresh : Bool) → LogKind → Log
log_of fresh what = record { fresh = fresh; what = what }

-- logs that say this
abbrev pub all_logged : (fresh : Bool) → List LogKind → List Log
all_logged fresh whats = map (log_of fresh) whats

-- the logs of these places, each with what `said_at` says of it
abbrev pub logs_said : (Sent → List LogKind) → (packet : ℕ) → List Sent → List Log
logs_said said_at packet places = flat_map (λ place. all_logged (is_fresh packet place) (said_at place)) places

-- what the two octets of a log say, where they say something
abbrev pub log_said : PairKind → (channel : ℕ) → Listing → Option LogKind
log_said kind channel log = said kind channel log.number log.field

-- the numbers of logs have seven bits, and the logs say this
pub record Says (kind : PairKind) (channel : ℕ) (logs : List Listing) (whats : List LogKind) : Type 0 where
  pub fit : FitLogs logs
  pub what : filter_map (log_said kind channel) logs ≡ whats

logged_first : (fresh : Bool) (first : Option LogKind) (whats : List LogKind) → all_logged fresh (cons_option first whats) ≡ logged fresh first ++ all_logged fresh whats
logged_first fresh None whats = refl
logged_first fresh (Some what) whats = refl

logs_again : (kind : PairKind) (channel : ℕ) (fresh : Bool) (logs : List Listing) (rest : List ℕ) → FitLogs logs →
    pair_logs kind channel (logs_text (s_of fresh) logs ++ rest) ≡ all_logged fresh (filter_map (log_said kind channel) logs) ++ pair_logs kind channel rest
logs_again kind channel fresh [] rest fit = refl
logs_again kind channel fresh (log ∷ logs) rest fit =
    let first = log_said kind channel log in
    let whats = filter_map (log_said kind channel) logs in
    rw (shows fresh log.number fit.0, low_bits fresh log.number fit.0)
    (ap (λ (more : List Log). logged fresh first ++ more) (logs_again kind channel fresh logs rest fit.1)
    ∙ sym (append_assoc (logged fresh first) (all_logged fresh whats) (pair_logs kind channel rest))
    ∙ ap (λ (all : List Log). all ++ pair_logs kind channel rest) (sym (logged_first fresh first whats)))

texts_again : (kind : PairKind) (channel : ℕ) (logs_at : Sent → List Listing) (said_at : Sent → List LogKind) (packet : ℕ) (places : List Sent) →
    AllByRecursion (λ place. Says kind channel (logs_at place) (said_at place)) places →
    pair_logs kind channel (texts logs_at packet places) ≡ logs_said said_at packet places
texts_again kind channel logs_at said_at packet [] s = refl
texts_again kind channel logs_at said_at packet (x ∷ xs) s =
    let fresh = is_fresh packet x in
    logs_again kind channel fresh (logs_at x) (texts logs_at packet xs) s.0.fit
    ∙ ap (λ (whats : List LogKind). all_logged fresh whats ++ pair_logs kind channel (texts logs_at packet xs)) s.0.what
    ∙ ap (λ (logs : List Log). all_logged fresh (said_at x) ++ logs) (texts_again kind channel logs_at said_at packet xs s.1)

front : (logs rest : List ℕ) (n : ℕ) → length logs ≡ n → take n (logs ++ rest) ≡ logs
front logs rest n e = ap (λ (k : ℕ). take k (logs ++ rest)) (sym e) ∙ take-append_seam logs rest

-- the header and logs, by their number
headed_again : (kind : PairKind) (channel count : ℕ) (fresh : Bool) (logs rest : List ℕ) → 0 < count → count ≤ 128 → length logs ≡ 2 * count →
    listed_read kind channel ((s_of fresh + (count - 1)) ∷ (logs ++ rest)) ≡ Some (pair_logs kind channel logs, length ((s_of fresh + (count - 1)) ∷ logs))
headed_again kind channel count fresh logs rest some few l =
    let bits = low_bits fresh (count - 1) (omega arith) in
    let size : listed_size (s_of fresh + (count - 1)) ≡ 2 * count = omega (arith, bits) in
    let inside : ltb (length (logs ++ rest)) (2 * count) ≡ false = le-ltb (length (logs ++ rest)) (2 * count) (omega (arith, length-append logs rest)) in
    let used : 2 * count + 1 ≡ suc (length logs) = omega arith in
    rw (size, inside, front logs rest (2 * count) l, used) refl

pub listed_again : (kind : PairKind) (channel : ℕ) (logs_at : Sent → List Listing) (said_at : Sent → List LogKind) (packet : ℕ) (places : List Sent) →
    AllByRecursion (λ place. Says kind channel (logs_at place) (said_at place)) places → log_count logs_at places ≤ 128 → is_there (listed logs_at packet places) ≡ true → (rest : List ℕ) →
    listed_read kind channel (listed logs_at packet places ++ rest) ≡ Some (logs_said said_at packet places, length (listed logs_at packet places))
listed_again kind channel logs_at said_at packet places s few there rest =
    let count = log_count logs_at places in
    let fresh = has_fresh logs_at packet places in
    let logs = texts logs_at packet places in
    elim (cases_Bool (eqb count 0)) [
      | inl t ↦
          let nothing = listed-none logs_at packet count places refl (eqb-true count 0 t) in
          absurd (let f : false ≡ true = rw nothing at there in cc)
      | inr f ↦
          let apart : count ≡ 0 → ⊥ = eqb-false count 0 f in
          let all = listed-some logs_at packet count fresh places refl refl (omega arith) in
          let read = headed_again kind channel count fresh logs rest (omega arith) few (length-texts logs_at packet places) in
          let heard = texts_again kind channel logs_at said_at packet places s in
          ap (λ (octets : List ℕ). listed_read kind channel (octets ++ rest)) all
          ∙ read
          ∙ ap (λ (said : List Log). Some (said, length ((s_of fresh + (count - 1)) ∷ logs))) heard
          ∙ ap (λ (octets : List ℕ). Some (logs_said said_at packet places, length octets)) (sym all)
    ]

unsaid : (kind : PairKind) (channel : ℕ) (logs : List Listing) (whats : List LogKind) → Says kind channel logs whats → length logs ≡ 0 → whats ≡ []
unsaid kind channel [] whats s e = sym s.what
unsaid kind channel (log ∷ logs) whats s e = absurd (omega (arith, e))

nothing_said : (kind : PairKind) (channel : ℕ) (logs_at : Sent → List Listing) (said_at : Sent → List LogKind) (packet : ℕ) (places : List Sent) →
    AllByRecursion (λ place. Says kind channel (logs_at place) (said_at place)) places → log_count logs_at places ≡ 0 → logs_said said_at packet places ≡ []
nothing_said kind channel logs_at said_at packet [] s e = refl
nothing_said kind channel logs_at said_at packet (x ∷ xs) s e =
    let all = length-append (logs_at x) (flat_map logs_at xs) in
    rw (unsaid kind channel (logs_at x) (said_at x) s.0 (omega (arith, all, e))) (nothing_said kind channel logs_at said_at packet xs s.1 (omega (arith, all, e)))

pub listed_silent : (kind : PairKind) (channel : ℕ) (logs_at : Sent → List Listing) (said_at : Sent → List LogKind) (packet : ℕ) (places : List Sent) →
    AllByRecursion (λ place. Says kind channel (logs_at place) (said_at place)) places → is_there (listed logs_at packet places) ≡ false → logs_said said_at packet places ≡ []
listed_silent kind channel logs_at said_at packet places s none =
    let count = log_count logs_at places in
    elim (cases_Bool (eqb count 0)) [
      | inl t ↦ nothing_said kind channel logs_at said_at packet places s (eqb-true count 0 t)
      | inr f ↦
          let apart : count ≡ 0 → ⊥ = eqb-false count 0 f in
          let all = listed-some logs_at packet count (has_fresh logs_at packet places) places refl refl (omega arith) in
          let le = ltb-false 0 (length ((s_of (has_fresh logs_at packet places) + (count - 1)) ∷ texts logs_at packet places)) (rw all at none) in
          absurd (omega (arith, le))
    ]
