-- What is written of parameters is read: Chapter M (RFC 6295, A.4, Figure A.4.1, and A.4.2, Figures A.4.2 to A.4.4).
use Rattle.std.proofs.Common.{◌≡◌, ℕ, suc, ◌+◌, ◌-◌, ◌*◌, ◌/◌, ◌%◌, ◌<◌, ◌≤◌, Bool, true, false, cond, ◌&&◌, ltb, eqb, List, [], ◌∷◌, ◌++◌, Option, Some, None, option_map, length, map, take, refl, ap, ◌∙◌, arith, inl, inr, length-append}
use Rattle.std.proofs.Math.Seq.{take-append_seam}
use Rattle.std.specs.List.{flat_map, AllByRecursion}
use Rattle.std.proofs.lemmas.Bool.{cases_Bool, lt-ltb, le-ltb, eqb-true}
use Rattle.jm_wire.specs.declared.heads.ParamHead.{ParamHead}
use Rattle.jm_wire.specs.Heads.{bit, is_set, param_octets}
use Rattle.jm_wire.specs.HeadLaws.{param_back}
use Rattle.jm_cmds.specs.declared.history.Sent.{Sent}
use Rattle.jm_cmds.specs.declared.param.Param.{Param}
use Rattle.jm_cmds.specs.Command.{IsCommand}
use Rattle.jm_cmds.specs.History.{below, coded}
use Rattle.jm_cmds.specs.HistoryLaws.{AllByRecursion-filter}
use Rattle.jm_cmds.specs.Selection.{no_selection}
use Rattle.jm_cmds.specs.Sent.{packet_of, is_fresh, s_of}
use Rattle.ch_param.specs.Event.{Place, packet_at, event_at, half_ends}
use Rattle.ch_param.specs.ChapterM.{Entered, entered, coded_half, entered_log, param_logs, fresh_among, param_head, chapter_of, session_places, chapter_m, param_count, param_log as log_octets}
use Rattle.ch_param.specs.Fits.{FitsHalf, FitsNumber, FitsEvent, fits-placed, fits-among, fits-coded, fits-entered}
use Rattle.ch_param.specs.LogLaws.{logs_short}
use Rattle.jm_journal.specs.Channel.{is_there}
use Rattle.jm_reader.specs.declared.logs.Log.{Log}
use Rattle.jm_reader.specs.declared.logs.LogKind.TheVariants as logs
use Rattle.jm_reader.specs.Chapter.{Chapter}
use Rattle.jm_reader.specs.Octets.{shows, low_bits}
use Rattle.jm_reader.specs.ChapterM.{m_logs, m_read, is_written, param_log, param_read, params_read, before_others}

-- ## What is coded

-- the log of a parameter, with the halves of its value that are coded
abbrev pub param_said : ℕ → Bool → Param → Option ℕ → Option ℕ → Log
param_said channel fresh param high low = record { fresh = fresh; what = logs.Param channel param.nrpn param.high param.low high low }

-- where all places of the session are these
abbrev pub entered_said : (channel checkpoint packet : ℕ) → List Place → Entered → Log
entered_said channel checkpoint packet places e =
    param_said channel (is_fresh packet e.latest) e.param (coded_half channel checkpoint places e.param true) (coded_half channel checkpoint places e.param false)

abbrev pub params_said : (channel checkpoint packet : ℕ) → List Place → List Log
params_said channel checkpoint packet places = map (entered_said channel checkpoint packet places) (entered channel checkpoint places)

-- The coded parameters of a channel as logs, oldest first.
unfoldable pub m_said : (channel checkpoint packet : ℕ) → List Sent → List Log
m_said channel checkpoint packet sent = params_said channel checkpoint packet (session_places channel (below packet_of packet sent))

-- ## Numbers of seven bits

fits-half : (channel checkpoint : ℕ) (places : List Place) (param : Param) (high : Bool) → AllByRecursion (λ place. FitsEvent (event_at channel place)) places →
    FitsHalf (coded_half channel checkpoint places param high)
fits-half channel checkpoint places param high h = fits-among channel param high (coded (half_ends channel) packet_at checkpoint places) (fits-coded channel checkpoint (half_ends channel) places h)

fits-session : (channel packet : ℕ) (sent : List Sent) → AllByRecursion (λ place. IsCommand place.command) sent →
    AllByRecursion (λ place. FitsEvent (event_at channel place)) (session_places channel (below packet_of packet sent))
fits-session channel packet sent h =
    fits-placed channel no_selection (below packet_of packet sent) (tt, tt, tt, tt)
    (AllByRecursion-filter (λ place. IsCommand place.command) (λ place. ltb (packet_of place) packet) sent h)

-- ## One log

q-shows : (nrpn : Bool) (number : ℕ) → number < 128 → is_set 128 (128 * bit nrpn + number) ≡ nrpn
q-shows true number l = let e : (128 * 1 + number) / 128 % 2 ≡ 1 = omega arith in rw e refl
q-shows false number l = let e : (128 * 0 + number) / 128 % 2 ≡ 0 = omega arith in rw e refl

q-low : (nrpn : Bool) (number : ℕ) → number < 128 → (128 * bit nrpn + number) % 128 ≡ number
q-low true number l = omega arith
q-low false number l = omega arith

-- the two numbers of a log, whatever its halves
numbers_again : (channel : ℕ) (fresh : Bool) (param : Param) (high low : Option ℕ) → FitsNumber param →
    param_log channel (s_of fresh + param.low) (128 * bit param.nrpn + param.high) high low ≡ param_said channel fresh param high low
numbers_again channel fresh param high low f =
    rw (shows fresh param.low f.1, low_bits fresh param.low f.1, q-shows param.nrpn param.high f.0, q-low param.nrpn param.high f.0) refl

value_again : (value : ℕ) → value < 128 → value % 128 ≡ value
value_again value l = omega arith

log_again : (channel : ℕ) (fresh : Bool) (param : Param) (high low : Option ℕ) (rest : List ℕ) → FitsNumber param → FitsHalf high → FitsHalf low →
    param_read channel (log_octets (s_of fresh) param high low ++ rest) ≡ Some (param_said channel fresh param high low, rest)
log_again channel fresh param (Some high) (Some low) rest f h l =
    rw (value_again high h, value_again low l) (ap (λ (log : Log). Some (log, rest)) (numbers_again channel fresh param (Some high) (Some low) f))
log_again channel fresh param (Some high) None rest f h l =
    rw (value_again high h) (ap (λ (log : Log). Some (log, rest)) (numbers_again channel fresh param (Some high) None f))
log_again channel fresh param None (Some low) rest f h l =
    rw (value_again low l) (ap (λ (log : Log). Some (log, rest)) (numbers_again channel fresh param None (Some low) f))
log_again channel fresh param None None rest f h l =
    ap (λ (log : Log). Some (log, rest)) (numbers_again channel fresh param None None f)

-- ## The logs

params_again : (channel checkpoint packet : ℕ) (places : List Place) (params : List Entered) (count : List ℕ) →
    AllByRecursion (λ place. FitsEvent (event_at channel place)) places → AllByRecursion (λ e. FitsNumber e.param) params → length params ≤ length count →
    params_read channel count (flat_map (entered_log channel checkpoint packet places) params) ≡ Some (map (entered_said channel checkpoint packet places) params)
params_again channel checkpoint packet places [] [] h f l = refl
params_again channel checkpoint packet places [] (x ∷ count) h f l = refl
params_again channel checkpoint packet places (e ∷ es) [] h f l = absurd (omega (arith, l))
params_again channel checkpoint packet places (e ∷ es) (x ∷ count) h f l =
    let later = flat_map (entered_log channel checkpoint packet places) es in
    let high = fits-half channel checkpoint places e.param true h in
    let low = fits-half channel checkpoint places e.param false h in
    let one = log_again channel (is_fresh packet e.latest) e.param (coded_half channel checkpoint places e.param true) (coded_half channel checkpoint places e.param false) later f.0 high low in
    ap (λ (read : Option (Log × List ℕ)). before_others read (params_read channel count)) one
    ∙ ap (option_map (λ others. entered_said channel checkpoint packet places e ∷ others)) (params_again channel checkpoint packet places es count h f.1 (omega (arith, l)))

-- a log has octets
logs_long : (channel checkpoint packet : ℕ) (places : List Place) (params : List Entered) → length params ≤ length (flat_map (entered_log channel checkpoint packet places) params)
logs_long channel checkpoint packet places [] = omega arith
logs_long channel checkpoint packet places (e ∷ es) =
    let all = length-append (entered_log channel checkpoint packet places e) (flat_map (entered_log channel checkpoint packet places) es) in
    omega (arith, all, logs_long channel checkpoint packet places es)

-- ## The chapter

-- what stands behind a header
by_head : ℕ → ParamHead → List ℕ → Chapter
by_head channel head octets =
    cond (ltb head.length 2) None
    (cond (ltb (length octets) (head.length - 2)) None
    (Some (m_logs channel (is_written head) (take (head.length - 2) octets), head.length)))

head_again : (channel : ℕ) (head : ParamHead) (octets : List ℕ) → head.length < 1024 → m_read channel (param_octets head ++ octets) ≡ by_head channel head octets
unfolding by_head
head_again channel head octets l = ap (λ (h : ParamHead). by_head channel h octets) (param_back head l)

behind_again : (channel : ℕ) (fresh : Bool) (octets rest : List ℕ) (said : List Log) → params_read channel octets octets ≡ Some said →
    by_head channel (param_head fresh (length octets)) (octets ++ rest) ≡ Some (said, 2 + length octets)
unfolding by_head
behind_again channel fresh octets rest said e =
    let long : ltb (2 + length octets) 2 ≡ false = le-ltb (2 + length octets) 2 (omega arith) in
    let same : 2 + length octets - 2 ≡ length octets = omega arith in
    let enough : ltb (length (octets ++ rest)) (length octets) ≡ false = le-ltb (length (octets ++ rest)) (length octets) (omega (arith, length-append octets rest)) in
    rw (long, same, enough, take-append_seam octets rest, e) refl

two_more : (n : ℕ) → 2 + n ≡ suc (suc n)
two_more n = omega arith

full_again : (channel : ℕ) (fresh : Bool) (octets rest : List ℕ) (said : List Log) → length octets ≤ 1000 → params_read channel octets octets ≡ Some said →
    is_there (chapter_of fresh octets) ≡ true → m_read channel (chapter_of fresh octets ++ rest) ≡ Some (said, length (chapter_of fresh octets))
full_again channel fresh octets rest said few e there =
    elim (cases_Bool (eqb (length octets) 0)) [
      | inl t ↦ absurd (let none : ltb 0 (length (chapter_of fresh octets)) ≡ false = rw t refl in cc)
      | inr f ↦ rw f (head_again channel (param_head fresh (length octets)) (octets ++ rest) (omega (arith, few)) ∙ behind_again channel fresh octets rest said e ∙ ap (λ (n : ℕ). Some (said, n)) (two_more (length octets)))
    ]

-- What is written of the parameters of a channel is read as what is coded of them, whatever follows.
pub m_again : (channel checkpoint packet : ℕ) (sent : List Sent) → AllByRecursion (λ place. IsCommand place.command) sent → param_count channel checkpoint (below packet_of packet sent) ≤ 16 →
    is_there (chapter_m channel checkpoint packet sent) ≡ true → (rest : List ℕ) →
    m_read channel (chapter_m channel checkpoint packet sent ++ rest) ≡ Some (m_said channel checkpoint packet sent, length (chapter_m channel checkpoint packet sent))
unfolding chapter_m m_said param_count
m_again channel checkpoint packet sent h few there rest =
    let places = session_places channel (below packet_of packet sent) in
    let params = entered channel checkpoint places in
    let fits = fits-session channel packet sent h in
    let octets = param_logs channel checkpoint packet places in
    full_again channel (fresh_among packet params) octets rest (params_said channel checkpoint packet places) (omega (arith, logs_short channel checkpoint packet places params, few))
    (params_again channel checkpoint packet places params octets fits (fits-entered channel checkpoint places fits) (logs_long channel checkpoint packet places params)) there

none_said : (channel checkpoint packet : ℕ) (places : List Place) (params : List Entered) → length (flat_map (entered_log channel checkpoint packet places) params) ≡ 0 →
    map (entered_said channel checkpoint packet places) params ≡ []
none_said channel checkpoint packet places [] e = refl
none_said channel checkpoint packet places (x ∷ xs) e = absurd (omega (arith, e))

none_there : (fresh : Bool) (octets : List ℕ) → is_there (chapter_of fresh octets) ≡ false → length octets ≡ 0
none_there fresh octets n =
    elim (cases_Bool (eqb (length octets) 0)) [
      | inl t ↦ eqb-true (length octets) 0 t
      | inr f ↦ absurd (let some : ltb 0 (length (chapter_of fresh octets)) ≡ true = rw f (lt-ltb 0 (suc (suc (length octets))) (omega arith)) in cc)
    ]

-- Where the chapter isn't there, nothing of it is coded.
pub m_none : (channel checkpoint packet : ℕ) (sent : List Sent) → is_there (chapter_m channel checkpoint packet sent) ≡ false → m_said channel checkpoint packet sent ≡ []
unfolding chapter_m m_said
m_none channel checkpoint packet sent n =
    let places = session_places channel (below packet_of packet sent) in
    let params = entered channel checkpoint places in
    none_said channel checkpoint packet places params (none_there (fresh_among packet params) (param_logs channel checkpoint packet places) n)

pub record ParamsAreRead : Type 0 where
  pub there : (channel checkpoint packet : ℕ) (sent : List Sent) → AllByRecursion (λ place. IsCommand place.command) sent → param_count channel checkpoint (below packet_of packet sent) ≤ 16 →
      is_there (chapter_m channel checkpoint packet sent) ≡ true → (rest : List ℕ) →
      m_read channel (chapter_m channel checkpoint packet sent ++ rest) ≡ Some (m_said channel checkpoint packet sent, length (chapter_m channel checkpoint packet sent))
  pub none : (channel checkpoint packet : ℕ) (sent : List Sent) → is_there (chapter_m channel checkpoint packet sent) ≡ false → m_said channel checkpoint packet sent ≡ []

pub params_are_read : ParamsAreRead
params_are_read = record { there = m_again; none = m_none }
