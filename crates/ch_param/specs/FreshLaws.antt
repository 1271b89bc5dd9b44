-- A chapter shows what the packet before brought.
use Rattle.std.proofs.Common.{◌≡◌, ℕ, ◌+◌, ◌*◌, ◌/◌, ◌≤◌, Bool, true, false, not, ◌||◌, eqb, ltb, List, [], ◌∷◌, ◌++◌, map, length, refl, sym, ap, ◌∙◌, arith, inl, inr}
use Rattle.std.specs.List.{flat_map, list_any, AllByRecursion}
use Rattle.std.proofs.lemmas.Bool.{cases_Bool, lt-ltb, le-ltb, eqb-true}
use Rattle.jm_wire.specs.Heads.{bit}
use Rattle.jm_cmds.specs.declared.history.Sent.{Sent}
use Rattle.jm_cmds.specs.History.{below}
use Rattle.jm_cmds.specs.Command.{IsCommand}
use Rattle.jm_cmds.specs.HistoryLaws.{AllByRecursion-filter}
use Rattle.jm_cmds.specs.Selection.{no_selection}
use Rattle.jm_cmds.specs.Sent.{packet_of, is_fresh, shows_fresh}
use Rattle.jm_cmds.specs.SentLaws.{s-shows}
use Rattle.ch_param.specs.Event.{Place}
use Rattle.ch_param.specs.ChapterM.{Entered, entered, entered_log, fresh_among, param_logs, chapter_of, session_places, chapter_m, fresh_m, param_count}
use Rattle.ch_param.specs.Fits.{FitsNumber, fits-placed, fits-entered}
use Rattle.ch_param.specs.Fresh.{FreshShows, entered_m, logs_m, entered_fresh}
use Rattle.ch_param.specs.LogLaws.{logs_short}

first-octet : (fresh : Bool) (logs : ℕ) → logs ≤ 80 → ltb (128 * bit (not fresh) + 64 * 0 + 32 * 0 + 16 * 0 + 8 * 0 + 4 * 0 + (2 + logs) / 256) 128 ≡ fresh
first-octet true logs few = lt-ltb (128 * 0 + 64 * 0 + 32 * 0 + 16 * 0 + 8 * 0 + 4 * 0 + (2 + logs) / 256) 128 (omega arith)
first-octet false logs few = le-ltb (128 * 1 + 64 * 0 + 32 * 0 + 16 * 0 + 8 * 0 + 4 * 0 + (2 + logs) / 256) 128 (omega arith)

-- where a parameter is coded there is a log
none_fresh : (channel checkpoint packet : ℕ) (places : List Place) (params : List Entered) → length (flat_map (entered_log channel checkpoint packet places) params) ≡ 0 → fresh_among packet params ≡ false
none_fresh channel checkpoint packet places [] e = refl
none_fresh channel checkpoint packet places (x ∷ xs) e = absurd (omega (arith, e))

chapter-shows : (fresh : Bool) (logs : List ℕ) → length logs ≤ 80 → (length logs ≡ 0 → fresh ≡ false) → fresh ≡ shows_fresh (chapter_of fresh logs)
chapter-shows fresh logs few none =
    elim (cases_Bool (eqb (length logs) 0)) [
      | inl t ↦ rw t (none (eqb-true (length logs) 0 t))
      | inr f ↦ rw f (sym (first-octet fresh (length logs) few))
    ]

header-shows : (channel checkpoint packet : ℕ) (sent : List Sent) → param_count channel checkpoint (below packet_of packet sent) ≤ 16 → fresh_m channel checkpoint packet sent ≡ shows_fresh (chapter_m channel checkpoint packet sent)
unfolding fresh_m chapter_m param_count
header-shows channel checkpoint packet sent few =
    let places = session_places channel (below packet_of packet sent) in
    let params = entered channel checkpoint places in
    let short = logs_short channel checkpoint packet places params in
    chapter-shows (fresh_among packet params) (param_logs channel checkpoint packet places) (omega (arith, short, few)) (none_fresh channel checkpoint packet places params)

-- ## The logs

joined : (log_of : Entered → List ℕ) (params : List Entered) → flat_map log_of params ≡ flat_map (λ (log : List ℕ). log) (map log_of params)
joined log_of [] = refl
joined log_of (e ∷ es) = ap (λ (l : List ℕ). log_of e ++ l) (joined log_of es)

logs-show : (channel checkpoint packet : ℕ) (places : List Place) (params : List Entered) → AllByRecursion (λ e. FitsNumber e.param) params →
    map shows_fresh (map (entered_log channel checkpoint packet places) params) ≡ map (entered_fresh packet) params
logs-show channel checkpoint packet places [] h = refl
logs-show channel checkpoint packet places (e ∷ es) h =
    let one = s-shows (is_fresh packet e.latest) e.param.low h.0.1 in
    rw one (ap (λ (l : List Bool). is_fresh packet e.latest ∷ l) (logs-show channel checkpoint packet places es h.1))

any-shown : (packet : ℕ) (logs : List (List ℕ)) (params : List Entered) → map shows_fresh logs ≡ map (entered_fresh packet) params → fresh_among packet params ≡ list_any shows_fresh logs
any-shown packet logs params e = any-map (entered_fresh packet) params ∙ sym (ap (list_any (λ (b : Bool). b)) e) ∙ sym (any-map shows_fresh logs)
  where
    any-map : {X : Type 0} (test : X → Bool) (xs : List X) → list_any test xs ≡ list_any (λ (b : Bool). b) (map test xs)
    any-map test [] = refl
    any-map test (x ∷ xs) = ap (λ (b : Bool). test x || b) (any-map test xs)

fit_entered : (channel checkpoint packet : ℕ) (sent : List Sent) → AllByRecursion (λ place. IsCommand place.command) sent → AllByRecursion (λ e. FitsNumber e.param) (entered_m channel checkpoint packet sent)
unfolding entered_m
fit_entered channel checkpoint packet sent h =
    let seen = below packet_of packet sent in
    let commands = AllByRecursion-filter (λ (place : Sent). IsCommand place.command) (λ (place : Sent). ltb (packet_of place) packet) sent h in
    fits-entered channel checkpoint (session_places channel seen) (fits-placed channel no_selection seen (tt, tt, tt, tt) commands)

each-shows : (channel checkpoint packet : ℕ) (sent : List Sent) → AllByRecursion (λ place. IsCommand place.command) sent →
    map shows_fresh (logs_m channel checkpoint packet sent) ≡ map (entered_fresh packet) (entered_m channel checkpoint packet sent)
unfolding logs_m
each-shows channel checkpoint packet sent h =
    logs-show channel checkpoint packet (session_places channel (below packet_of packet sent)) (entered_m channel checkpoint packet sent) (fit_entered channel checkpoint packet sent h)

chapter-parts : (channel checkpoint packet : ℕ) (sent : List Sent) → chapter_m channel checkpoint packet sent ≡ chapter_of (fresh_m channel checkpoint packet sent) (flat_map (λ log. log) (logs_m channel checkpoint packet sent))
unfolding chapter_m fresh_m logs_m entered_m
chapter-parts channel checkpoint packet sent =
    let places = session_places channel (below packet_of packet sent) in
    ap (chapter_of (fresh_among packet (entered channel checkpoint places))) (joined (entered_log channel checkpoint packet places) (entered channel checkpoint places))

some-shows : (channel checkpoint packet : ℕ) (sent : List Sent) → AllByRecursion (λ place. IsCommand place.command) sent →
    fresh_m channel checkpoint packet sent ≡ list_any shows_fresh (logs_m channel checkpoint packet sent)
unfolding fresh_m entered_m
some-shows channel checkpoint packet sent h =
    any-shown packet (logs_m channel checkpoint packet sent) (entered_m channel checkpoint packet sent) (each-shows channel checkpoint packet sent h)

pub fresh_m-shows : FreshShows
fresh_m-shows = record { parts = chapter-parts; header = header-shows; logs = some-shows; each = each-shows }
