-- Chapter X shows by an S whether it is fresh.
use Rattle.std.proofs.Common.{◌≡◌, ℕ, ◌+◌, ◌%◌, ◌≤◌, Bool, true, false, cond, ◌||◌, leb, ltb, List, [], ◌∷◌, ◌++◌, map, refl, sym, ap, ◌∙◌, arith, inl, inr}
use Rattle.std.specs.List.{flat_map, list_any, filter}
use Rattle.std.proofs.lemmas.Bool.{cases_Bool}
use Rattle.jm_cmds.specs.declared.history.Sent.{Sent}
use Rattle.jm_cmds.specs.History.{below, scanned}
use Rattle.jm_cmds.specs.HistoryLaws.{any-coded, any-scanned, coded-scanned, InOrder-filter}
use Rattle.jm_cmds.specs.Sent.{packet_of, is_fresh, s_bit, s_of, shows_fresh}
use Rattle.jm_cmds.specs.SentLaws.{s-shows}
use Rattle.ch_sysex.specs.declared.events.SysexEvent.{SysexEvent}
use Rattle.ch_sysex.specs.declared.events.SysexEvent.TheVariants.{Kept, ResetMessage, Reset, Other}
use Rattle.ch_sysex.specs.SysexEvent.{event_at, data_of, is_logged, sysex_ends, count_step}
use Rattle.ch_sysex.specs.ChapterX.{d_bit, last_marked, event_text, Counted, counted_packet, counted_ends, sysex_log, coded_counted, coded_sysex, is_fresh_log, chapter_x, fresh_x}
use Rattle.ch_sysex.specs.Fresh.{counted_log, logs_x, counted_fresh, logged_x, IsOfLogs, FreshShows, EachShows, CodedInOrder}

-- ## The logs are the chapter

silent : (s count : ℕ) (event : SysexEvent) (octets : List ℕ) → is_logged event ≡ false → event_text s count event octets ≡ []
silent s count Kept octets h = cc
silent s count ResetMessage octets h = cc
silent s count Reset octets h = refl
silent s count Other octets h = refl

joined_logs : (packet : ℕ) (places : List Counted) → flat_map (sysex_log packet) places ≡ flat_map (λ log. log) (map (sysex_log packet) (filter counted_log places))
joined_logs packet [] = refl
joined_logs packet (x ∷ xs) =
    let ih = joined_logs packet xs in
    elim (cases_Bool (counted_log x)) [
      | inl t ↦ rw t (ap (λ (l : List ℕ). sysex_log packet x ++ l) ih)
      | inr f ↦
          let none : sysex_log packet x ≡ [] = silent (s_bit packet x.1) x.0 (event_at x.1) (data_of x.1.command) f in
          rw (f, none) ih
    ]

pub chapter_x-logs : IsOfLogs
unfolding chapter_x logs_x
chapter_x-logs = λ checkpoint packet sent. joined_logs packet (coded_counted checkpoint 0 (below packet_of packet sent))

-- ## The S bits

small : (octets : List ℕ) → d_bit octets ≤ 8
small [] = omega arith
small (x ∷ xs) = omega arith

shows-s : (fresh : Bool) (count : ℕ) (octets rest : List ℕ) → shows_fresh ((s_of fresh + (0x27 + d_bit octets)) ∷ rest) ≡ fresh
shows-s fresh count octets rest = let l = small octets in s-shows fresh (0x27 + d_bit octets) (omega (arith, l))

log-shows : (fresh : Bool) (count : ℕ) (event : SysexEvent) (octets : List ℕ) → is_logged event ≡ true → shows_fresh (event_text (s_of fresh) count event octets) ≡ fresh
log-shows fresh count Kept octets h = shows-s fresh count octets (((count + 1) % 256) ∷ last_marked octets)
log-shows fresh count ResetMessage octets h = shows-s fresh count octets (0 ∷ last_marked octets)
log-shows fresh count Reset octets h = cc
log-shows fresh count Other octets h = cc

logs-show : (packet : ℕ) (places : List Counted) → list_any shows_fresh (map (sysex_log packet) (filter counted_log places)) ≡ list_any (λ (x : Counted). is_fresh_log packet x.1) places
logs-show packet [] = refl
logs-show packet (x ∷ xs) =
    let ih = logs-show packet xs in
    elim (cases_Bool (counted_log x)) [
      | inl t ↦
          let one : shows_fresh (sysex_log packet x) ≡ is_fresh packet x.1 = log-shows (is_fresh packet x.1) x.0 (event_at x.1) (data_of x.1.command) t in
          rw (t, one) (ap (λ b. is_fresh packet x.1 || b) ih)
      | inr f ↦ rw f ih
    ]

-- a test that looks at the places alone
any-counted : (test : Sent → Bool) (checkpoint count : ℕ) (places : List Sent) → list_any (λ (x : Counted). test x.1) (coded_counted checkpoint count places) ≡ list_any test (coded_sysex checkpoint places)
any-counted test checkpoint count [] = refl
any-counted test checkpoint count (x ∷ xs) =
    let scan = scanned count_step (count_step count x) xs in
    let ended : list_any (counted_ends (count, x)) scan ≡ list_any (sysex_ends x) xs = any-scanned count_step (sysex_ends x) (count_step count x) xs in
    let ih = any-counted test checkpoint (count_step count x) xs in
    any-coded counted_ends counted_packet checkpoint (λ (p : Counted). test p.1) (count, x) scan
    ∙ ap (λ (b : Bool). cond b false (cond (leb checkpoint x.packet) (test x) false) || list_any (λ (p : Counted). test p.1) (coded_counted checkpoint (count_step count x) xs)) ended
    ∙ ap (λ (b : Bool). cond (list_any (sysex_ends x) xs) false (cond (leb checkpoint x.packet) (test x) false) || b) ih
    ∙ sym (any-coded sysex_ends packet_of checkpoint test x xs)

pub fresh_x-shows : FreshShows
unfolding fresh_x logs_x
fresh_x-shows = λ checkpoint packet sent.
    let places = below packet_of packet sent in
    sym (logs-show packet (coded_counted checkpoint 0 places) ∙ any-counted (is_fresh_log packet) checkpoint 0 places)

each-shows : (packet : ℕ) (places : List Counted) → map shows_fresh (map (sysex_log packet) (filter counted_log places)) ≡ map (counted_fresh packet) (filter counted_log places)
each-shows packet [] = refl
each-shows packet (x ∷ xs) =
    let ih = each-shows packet xs in
    elim (cases_Bool (counted_log x)) [
      | inl t ↦
          let one : shows_fresh (sysex_log packet x) ≡ is_fresh packet x.1 = log-shows (is_fresh packet x.1) x.0 (event_at x.1) (data_of x.1.command) t in
          rw (t, one) (ap (λ (l : List Bool). is_fresh packet x.1 ∷ l) ih)
      | inr f ↦ rw f ih
    ]

pub each_x-shows : EachShows
unfolding logs_x logged_x
each_x-shows = λ checkpoint packet sent. each-shows packet (coded_counted checkpoint 0 (below packet_of packet sent))

pub coded_x-in_order : CodedInOrder
coded_x-in_order = λ number_of checkpoint packet sent h.
    coded-scanned number_of count_step counted_ends counted_packet 0 checkpoint (below packet_of packet sent)
    (InOrder-filter number_of (λ (place : Sent). ltb (packet_of place) packet) sent h)
