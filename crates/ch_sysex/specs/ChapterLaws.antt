-- Chapter X one place at a time.
use Rattle.std.proofs.Common.{◌≡◌, ℕ, ◌+◌, ◌-◌, ◌≤◌, Bool, true, false, cond, ◌&&◌, ◌||◌, leb, ltb, List, [], ◌∷◌, ◌++◌, length, take, get_or, suc, refl, sym, ap, ◌∙◌, arith, inl, inr, length-append}
use Rattle.std.specs.Prelude.{sum_by, count_by}
use Rattle.std.specs.List.{flat_map, list_any}
use Rattle.std.proofs.lemmas.Bool.{cases_Bool, le-leb}
use Rattle.std.proofs.lemmas.List.Sums.{sum_by-cons}
use Rattle.jm_cmds.specs.declared.history.Sent.{Sent}
use Rattle.jm_cmds.specs.History.{below, scanned}
use Rattle.jm_cmds.specs.HistoryLaws.{flat_map-coded, any-coded, any-scanned}
use Rattle.jm_cmds.specs.Sent.{packet_of, is_fresh, s_bit}
use Rattle.ch_sysex.specs.declared.events.SysexEvent.{SysexEvent}
use Rattle.ch_sysex.specs.declared.events.SysexEvent.TheVariants.{Kept, ResetMessage, Reset, Other}
use Rattle.ch_sysex.specs.SysexEvent.{event_at, data_of, is_logged, resets, sysex_ends, count_after, count_step}
use Rattle.ch_sysex.specs.ChapterX.{last_marked, event_text, event_len, counted_packet, counted_ends, sysex_log, coded_counted, coded_sysex, is_fresh_log, has_log, log_len, chapter_x, sysex_octets}

-- ## What is coded of a place

-- its event, or `Other` where it is ended or older than the checkpoint
abbrev pub coded_event : (checkpoint : ℕ) → Sent → List Sent → SysexEvent
coded_event checkpoint place later = cond (list_any (sysex_ends place) later) Other (cond (leb checkpoint place.packet) (event_at place) Other)

pub any-ends : (place : Sent) (later : List Sent) → list_any (sysex_ends place) later ≡ (is_logged (event_at place) && list_any resets later)
any-ends place [] = elim (cases_Bool (is_logged (event_at place))) [ inl t ↦ rw t refl | inr f ↦ rw f refl ]
any-ends place (x ∷ xs) =
    let ih = any-ends place xs in
    elim (cases_Bool (is_logged (event_at place))) [ inl t ↦ rw t (ap (λ b. resets x || b) (rw t at ih)) | inr f ↦ rw f (rw f at ih) ]

-- what is ended
pub coded-ended : (checkpoint : ℕ) (place : Sent) (later : List Sent) (event : SysexEvent) (ended : Bool) → event ≡ event_at place → ended ≡ (is_logged event && list_any resets later) → ended ≡ true → Other ≡ coded_event checkpoint place later
coded-ended checkpoint place later event ended e d t =
    let all : list_any (sysex_ends place) later ≡ true = any-ends place later ∙ rw (sym e) (sym d ∙ t) in
    rw all refl

-- what is left
pub coded-left : (checkpoint : ℕ) (place : Sent) (later : List Sent) (event : SysexEvent) (ended : Bool) → event ≡ event_at place → ended ≡ (is_logged event && list_any resets later) → ended ≡ false → checkpoint ≤ place.packet → event ≡ coded_event checkpoint place later
coded-left checkpoint place later event ended e d f l =
    let none : list_any (sysex_ends place) later ≡ false = any-ends place later ∙ rw (sym e) (sym d ∙ f) in
    let late : leb checkpoint place.packet ≡ true = le-leb checkpoint place.packet l in
    rw (none, late) e

text-choice : (s count : ℕ) (a b : Bool) (event : SysexEvent) (octets : List ℕ) → event_text s count (cond a Other (cond b event Other)) octets ≡ cond a [] (cond b (event_text s count event octets) [])
text-choice s count true b event octets = refl
text-choice s count false true event octets = refl
text-choice s count false false event octets = refl

len-choice : (a b : Bool) (event : SysexEvent) (octets : List ℕ) → event_len (cond a Other (cond b event Other)) octets ≡ cond a 0 (cond b (event_len event octets) 0)
len-choice true b event octets = refl
len-choice false true event octets = refl
len-choice false false event octets = refl

logged-choice : (a b : Bool) (event : SysexEvent) → is_logged (cond a Other (cond b event Other)) ≡ cond a false (cond b (is_logged event) false)
logged-choice true b event = refl
logged-choice false true event = refl
logged-choice false false event = refl

-- ## The text

pub text-step : (checkpoint packet count : ℕ) (place : Sent) (later : List Sent) →
    flat_map (sysex_log packet) (coded_counted checkpoint count (place ∷ later))
    ≡ event_text (s_bit packet place) count (coded_event checkpoint place later) (data_of place.command) ++ flat_map (sysex_log packet) (coded_counted checkpoint (count_step count place) later)
text-step checkpoint packet count place later =
    let scan = scanned count_step (count_step count place) later in
    let split = flat_map-coded counted_ends counted_packet checkpoint (sysex_log packet) (count, place) scan in
    let ended : list_any (counted_ends (count, place)) scan ≡ list_any (sysex_ends place) later = any-scanned count_step (sysex_ends place) (count_step count place) later in
    split
    ∙ rw (text-choice (s_bit packet place) count (list_any (sysex_ends place) later) (leb checkpoint place.packet) (event_at place) (data_of place.command))
    (ap (λ (b : Bool). cond b [] (cond (leb checkpoint place.packet) (sysex_log packet (count, place)) []) ++ flat_map (sysex_log packet) (coded_counted checkpoint (count_step count place) later)) ended)

-- What a loop that writes logs still owes.
pub text_more : (checkpoint packet count s : ℕ) (event : SysexEvent) (octets : List ℕ) (place : Sent) (rest later : List Sent) →
    rest ≡ place ∷ later → s ≡ s_bit packet place → event ≡ coded_event checkpoint place later → octets ≡ data_of place.command →
    flat_map (sysex_log packet) (coded_counted checkpoint count rest) ≡ event_text s count event octets ++ flat_map (sysex_log packet) (coded_counted checkpoint (count_step count place) later)
text_more checkpoint packet count s event octets place rest later r p e o = rw (r, p, e, o) (text-step checkpoint packet count place later)

-- ## The size

sum-coded : (weight : Sent → ℕ) (checkpoint : ℕ) (x : Sent) (xs : List Sent) → sum_by weight (coded_sysex checkpoint (x ∷ xs)) ≡ cond (list_any (sysex_ends x) xs) 0 (cond (leb checkpoint x.packet) (weight x) 0) + sum_by weight (coded_sysex checkpoint xs)
sum-coded weight checkpoint x xs =
    elim (cases_Bool (list_any (sysex_ends x) xs)) [
      | inl t ↦ rw t (omega arith)
      | inr f ↦ elim (cases_Bool (leb checkpoint x.packet)) [
        | inl l ↦ rw (f, l) (sum_by-cons weight x (coded_sysex checkpoint xs))
        | inr n ↦ rw (f, n) (omega arith)
      ]
    ]

pub octets-step : (checkpoint : ℕ) (place : Sent) (later : List Sent) → sum_by log_len (coded_sysex checkpoint (place ∷ later)) ≡ event_len (coded_event checkpoint place later) (data_of place.command) + sum_by log_len (coded_sysex checkpoint later)
octets-step checkpoint place later =
    sum-coded log_len checkpoint place later
    ∙ ap (λ n. n + sum_by log_len (coded_sysex checkpoint later)) (sym (len-choice (list_any (sysex_ends place) later) (leb checkpoint place.packet) (event_at place) (data_of place.command)))

abbrev one_if : Bool → ℕ
one_if b = cond b 1 0

one-choice : (a b c : Bool) → cond a 0 (cond b (one_if c) 0) ≡ one_if (cond a false (cond b c false))
one-choice true b c = refl
one-choice false true c = refl
one-choice false false c = refl

pub logs-step : (checkpoint : ℕ) (place : Sent) (later : List Sent) → count_by has_log (coded_sysex checkpoint (place ∷ later)) ≡ cond (is_logged (coded_event checkpoint place later)) 1 0 + count_by has_log (coded_sysex checkpoint later)
logs-step checkpoint place later =
    sum-coded (λ x. cond (has_log x) 1 0) checkpoint place later
    ∙ ap (λ n. n + count_by has_log (coded_sysex checkpoint later))
    (one-choice (list_any (sysex_ends place) later) (leb checkpoint place.packet) (is_logged (event_at place))
    ∙ ap (λ (b : Bool). cond b 1 0) (sym (logged-choice (list_any (sysex_ends place) later) (leb checkpoint place.packet) (event_at place))))

pub octets_more : (checkpoint len : ℕ) (event : SysexEvent) (text : List ℕ) (place : Sent) (rest later : List Sent) →
    rest ≡ place ∷ later → event ≡ coded_event checkpoint place later → text ≡ data_of place.command → len ≡ event_len event text →
    sum_by log_len (coded_sysex checkpoint rest) ≡ len + sum_by log_len (coded_sysex checkpoint later)
octets_more checkpoint len event text place rest later r e d l = rw (l, e, d, r) (octets-step checkpoint place later)

pub logs_more : (checkpoint logs whole : ℕ) (logged : Bool) (event : SysexEvent) (place : Sent) (rest later : List Sent) →
    logs + count_by has_log (coded_sysex checkpoint rest) ≡ whole → rest ≡ place ∷ later → event ≡ coded_event checkpoint place later → logged ≡ is_logged event →
    (logs + cond logged 1 0) + count_by has_log (coded_sysex checkpoint later) ≡ whole
logs_more checkpoint logs whole logged event place rest later h r e l =
    let all : count_by has_log (coded_sysex checkpoint rest) ≡ cond logged 1 0 + count_by has_log (coded_sysex checkpoint later) = rw (l, e, r) (logs-step checkpoint place later) in
    omega (arith, h, all)

-- ## Freshness

fresh-choice : (a b c d : Bool) → cond a false (cond b (c && d) false) ≡ (cond a false (cond b c false) && d)
fresh-choice true b c d = refl
fresh-choice false true c d = refl
fresh-choice false false c d = refl

pub fresh-step : (checkpoint packet : ℕ) (place : Sent) (later : List Sent) → list_any (is_fresh_log packet) (coded_sysex checkpoint (place ∷ later)) ≡ ((is_logged (coded_event checkpoint place later) && is_fresh packet place) || list_any (is_fresh_log packet) (coded_sysex checkpoint later))
fresh-step checkpoint packet place later =
    any-coded sysex_ends packet_of checkpoint (is_fresh_log packet) place later
    ∙ ap (λ b. b || list_any (is_fresh_log packet) (coded_sysex checkpoint later))
    (fresh-choice (list_any (sysex_ends place) later) (leb checkpoint place.packet) (is_logged (event_at place)) (is_fresh packet place)
    ∙ ap (λ b. b && is_fresh packet place) (sym (logged-choice (list_any (sysex_ends place) later) (leb checkpoint place.packet) (event_at place))))

pub fresh_here : (checkpoint packet : ℕ) (one : Bool) (event : SysexEvent) (place : Sent) (rest later : List Sent) →
    rest ≡ place ∷ later → event ≡ coded_event checkpoint place later → one ≡ (is_logged event && is_fresh packet place) → one ≡ true →
    list_any (is_fresh_log packet) (coded_sysex checkpoint rest) ≡ true
fresh_here checkpoint packet one event place rest later r e o t =
    let here : (is_logged (coded_event checkpoint place later) && is_fresh packet place) ≡ true = rw e at (sym o ∙ t) in
    rw r (fresh-step checkpoint packet place later ∙ ap (λ b. b || list_any (is_fresh_log packet) (coded_sysex checkpoint later)) here)

pub fresh_later : (checkpoint packet : ℕ) (one : Bool) (event : SysexEvent) (place : Sent) (rest later : List Sent) →
    rest ≡ place ∷ later → event ≡ coded_event checkpoint place later → one ≡ (is_logged event && is_fresh packet place) → one ≡ false →
    list_any (is_fresh_log packet) (coded_sysex checkpoint rest) ≡ list_any (is_fresh_log packet) (coded_sysex checkpoint later)
fresh_later checkpoint packet one event place rest later r e o f =
    let here : (is_logged (coded_event checkpoint place later) && is_fresh packet place) ≡ false = rw e at (sym o ∙ f) in
    rw r (fresh-step checkpoint packet place later ∙ ap (λ b. b || list_any (is_fresh_log packet) (coded_sysex checkpoint later)) here)

-- ## The length

length-last_marked : (octets : List ℕ) → length (last_marked octets) ≡ length octets
length-last_marked [] = refl
length-last_marked (octet ∷ []) = refl
length-last_marked (octet ∷ next ∷ later) = ap suc (length-last_marked (next ∷ later))

pub length-event_text : (s count : ℕ) (event : SysexEvent) (octets : List ℕ) → length (event_text s count event octets) ≡ event_len event octets
length-event_text s count Kept octets = omega (arith, length-last_marked octets)
length-event_text s count ResetMessage octets = omega (arith, length-last_marked octets)
length-event_text s count Reset octets = refl
length-event_text s count Other octets = refl

length-counted : (checkpoint packet count : ℕ) (places : List Sent) → length (flat_map (sysex_log packet) (coded_counted checkpoint count places)) ≡ sum_by log_len (coded_sysex checkpoint places)
length-counted checkpoint packet count [] = refl
length-counted checkpoint packet count (x ∷ xs) =
    let event = coded_event checkpoint x xs in
    let log = event_text (s_bit packet x) count event (data_of x.command) in
    let rest = flat_map (sysex_log packet) (coded_counted checkpoint (count_step count x) xs) in
    let one = length-event_text (s_bit packet x) count event (data_of x.command) in
    let ih = length-counted checkpoint packet (count_step count x) xs in
    ap length (text-step checkpoint packet count x xs) ∙ omega (arith, length-append log rest, one, ih, octets-step checkpoint x xs)

-- The length of the chapter is the size of what the packets before this one left.
pub length-chapter_x : (checkpoint packet : ℕ) (sent : List Sent) → length (chapter_x checkpoint packet sent) ≡ sysex_octets checkpoint (below packet_of packet sent)
unfolding chapter_x sysex_octets
length-chapter_x checkpoint packet sent = length-counted checkpoint packet 0 (below packet_of packet sent)

-- ## The last data octet

pub last_marked-split : (octets : List ℕ) → 1 ≤ length octets → last_marked octets ≡ take (length octets - 1) octets ++ (128 + get_or octets (length octets - 1) 0) ∷ []
last_marked-split [] l = absurd (omega arith)
last_marked-split (octet ∷ []) l = refl
last_marked-split (octet ∷ next ∷ later) l =
    let ih = last_marked-split (next ∷ later) (omega arith) in
    let n : suc (suc (length later)) - 1 ≡ suc (length later) = omega arith in
    let m : suc (length later) - 1 ≡ length later = omega arith in
    rw n (ap (λ (l : List ℕ). octet ∷ l) (rw m at ih))

-- ## The session history

pub length-below : (packet : ℕ) (sent : List Sent) → length (below packet_of packet sent) ≤ length sent
length-below packet [] = omega arith
length-below packet (x ∷ xs) =
    let ih = length-below packet xs in
    elim (cases_Bool (ltb (packet_of x) packet)) [ inl t ↦ rw t (omega (arith, ih)) | inr f ↦ rw f (omega (arith, ih)) ]

pub count-small : (count : ℕ) (event : SysexEvent) → count_after count event ≤ count + 1
count-small count Kept = omega arith
count-small count ResetMessage = omega arith
count-small count Reset = omega arith
count-small count Other = omega arith
