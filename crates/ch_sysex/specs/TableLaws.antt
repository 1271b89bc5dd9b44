-- The table of Chapter X stands for what the chapter codes.
use Rattle.std.proofs.Common.{◌≡◌, ℕ, ◌+◌, ◌%◌, ◌<◌, ◌≤◌, Bool, true, false, not, cond, ◌||◌, leb, List, [], ◌∷◌, ◌++◌, length, refl, sym, ap, ◌∙◌, map, fold, inl, inr, arith, append-nil}
use Rattle.std.specs.Prelude.{sum_by, count_by}
use Rattle.std.specs.List.{flat_map, list_any, AllByRecursion, filter}
use Rattle.std.proofs.lemmas.Bool.{cases_Bool}
use Rattle.std.proofs.lemmas.List.Sums.{fold-append, sum_by-cons}
use Rattle.jm_cmds.specs.declared.commands.Command.{Command}
use Rattle.jm_cmds.specs.declared.commands.Command.TheVariants as commands
use Rattle.jm_cmds.specs.declared.history.Sent.{Sent}
use Rattle.jm_cmds.specs.Control.{is_reset, is_reset_message}
use Rattle.jm_cmds.specs.Data.{is_kept_message}
use Rattle.jm_cmds.specs.History.{coded, scanned}
use Rattle.jm_cmds.specs.HistoryLaws.{coded-push, coded-later, scanned-push, any-scanned, AllByRecursion-filter, AllByRecursion-weaker, AllByRecursion-append}
use Rattle.jm_cmds.specs.KeptItem.{all_below}
use Rattle.jm_cmds.specs.Sent.{packet_of, is_fresh, s_bit}
use Rattle.ch_sysex.specs.declared.events.SysexEvent.{SysexEvent}
use Rattle.ch_sysex.specs.declared.events.SysexEvent.TheVariants.{Kept, ResetMessage, Reset, Other}
use Rattle.ch_sysex.specs.SysexEvent.{sysex_event, event_at, data_of, is_logged, resets, sysex_ends, count_after, count_step}
use Rattle.ch_sysex.specs.ChapterX.{Counted, counted_packet, counted_ends, last_marked, d_bit, event_text, event_len, sysex_log, coded_counted, coded_sysex, is_fresh_log, has_log, log_len, chapter_x, fresh_x, sysex_logs, sysex_octets}
use Rattle.ch_sysex.specs.SysexTable.{SysexLog, SysexKept, log_count, log_at, logs_of, sysex_kept, none_kept, log_packet, AreLogsUpTo, sysex_noted, logs_since, sysex_cut, log_fresh, kept_text, sysex_text, kept_octets}

abbrev logged_at : Counted → Bool
logged_at counted = is_logged (event_at counted.1)

-- ## One command more

logs-append : (xs ys : List Counted) → logs_of (xs ++ ys) ≡ logs_of xs ++ logs_of ys
logs-append [] ys = refl
logs-append (x ∷ xs) ys =
    let ih = logs-append xs ys in
    elim (cases_Bool (logged_at x)) [
      | inl t ↦ rw t (ap (λ (l : List SysexLog). log_at x ∷ l) ih)
      | inr f ↦ rw f ih
    ]

-- behind a Reset State command no log is left
logs-reset : (y : Counted) (xs : List Counted) → resets y.1 ≡ true → logs_of (filter (λ x. not (counted_ends x y)) xs) ≡ []
logs-reset y [] r = refl
logs-reset y (x ∷ xs) r =
    let ih = logs-reset y xs r in
    elim (cases_Bool (logged_at x)) [ inl t ↦ rw (t, r) ih | inr f ↦ rw (f, f) ih ]

-- behind another one all are
stay-all : (y : Counted) (xs : List Counted) → resets y.1 ≡ false → filter (λ x. not (counted_ends x y)) xs ≡ xs
stay-all y [] r = refl
stay-all y (x ∷ xs) r =
    let ih = ap (λ (l : List Counted). x ∷ l) (stay-all y xs r) in
    elim (cases_Bool (logged_at x)) [ inl t ↦ rw (t, r) ih | inr f ↦ rw f ih ]

abbrev is_reset_event : SysexEvent → Bool
is_reset_event Kept = false
is_reset_event ResetMessage = true
is_reset_event Reset = true
is_reset_event Other = false

message_event : (a b : Bool) → a ≡ is_reset_event (cond a ResetMessage (cond b Kept Other))
message_event true b = refl
message_event false true = refl
message_event false false = refl

reset_event : (command : Command) → is_reset command ≡ is_reset_event (sysex_event command)
reset_event commands.TuneRequest = refl
reset_event commands.Clock = refl
reset_event commands.Start = refl
reset_event commands.Continue = refl
reset_event commands.Stop = refl
reset_event commands.ActiveSensing = refl
reset_event commands.SystemReset = refl
reset_event (commands.QuarterFrame value) = refl
reset_event (commands.SongPosition value) = refl
reset_event (commands.SongSelect song) = refl
reset_event (commands.Sysex octets) = message_event (is_reset_message octets) (is_kept_message octets)
reset_event (commands.NoteOff channel note velocity) = refl
reset_event (commands.NoteOn channel note velocity) = refl
reset_event (commands.PolyPressure channel note value) = refl
reset_event (commands.Control channel number value) = refl
reset_event (commands.Program channel program) = refl
reset_event (commands.Pressure channel value) = refl
reset_event (commands.Wheel channel first second) = refl

-- the logs with one place more
logs-push : (from : ℕ) (sent : List Sent) (y : Sent) → from ≤ packet_of y →
    logs_of (coded_counted from 0 (sent ++ y ∷ [])) ≡ logs_of (filter (λ x. not (counted_ends x (fold count_step 0 sent, y))) (coded_counted from 0 sent)) ++ logs_of ((fold count_step 0 sent, y) ∷ [])
logs-push from sent y l =
    let count = fold count_step 0 sent in
    let places = scanned count_step 0 sent in
    let old = coded_counted from 0 sent in
    ap (λ (ps : List Counted). logs_of (coded counted_ends counted_packet from ps)) (scanned-push count_step 0 sent y)
    ∙ ap logs_of (coded-push counted_ends counted_packet from places (count, y) l)
    ∙ logs-append (filter (λ x. not (counted_ends x (count, y))) old) ((count, y) ∷ [])

by_event : (from : ℕ) (sent : List Sent) (y : Sent) (event : SysexEvent) → from ≤ packet_of y → event_at y ≡ event →
    record { count = count_after (fold count_step 0 sent) event % 256; logs = logs_of (coded_counted from 0 (sent ++ y ∷ [])) }
    ≡ sysex_noted event (data_of y.command) (packet_of y) (record { count = fold count_step 0 sent % 256; logs = logs_of (coded_counted from 0 sent) })
by_event from sent y Kept l e =
    let count = fold count_step 0 sent in
    let r : resets y ≡ false = reset_event y.command ∙ ap is_reset_event e in
    let old = coded_counted from 0 sent in
    let counted : (count + 1) % 256 ≡ (count % 256 + 1) % 256 = omega arith in
    let one : logs_of ((count, y) ∷ []) ≡ record { packet = packet_of y; count = (count % 256 + 1) % 256; marked = last_marked (data_of y.command) } ∷ [] =
    rw (e, e) (ap (λ (k : ℕ). record { packet = packet_of y; count = k; marked = last_marked (data_of y.command) } ∷ []) counted) in
    let logs = logs-push from sent y l ∙ ap (λ (ps : List Counted). logs_of ps ++ logs_of ((count, y) ∷ [])) (stay-all (count, y) old r) ∙ ap (λ (k : List SysexLog). logs_of old ++ k) one in
    rw (counted, logs) refl
by_event from sent y ResetMessage l e =
    let count = fold count_step 0 sent in
    let r : resets y ≡ true = reset_event y.command ∙ ap is_reset_event e in
    let old = coded_counted from 0 sent in
    let one : logs_of ((count, y) ∷ []) ≡ record { packet = packet_of y; count = 0; marked = last_marked (data_of y.command) } ∷ [] = rw (e, e) refl in
    let logs = logs-push from sent y l ∙ ap (λ (k : List SysexLog). k ++ logs_of ((count, y) ∷ [])) (logs-reset (count, y) old r) ∙ one in
    rw logs refl
by_event from sent y Reset l e =
    let count = fold count_step 0 sent in
    let r : resets y ≡ true = reset_event y.command ∙ ap is_reset_event e in
    let old = coded_counted from 0 sent in
    let one : logs_of ((count, y) ∷ []) ≡ [] = rw e refl in
    let logs = logs-push from sent y l ∙ ap (λ (k : List SysexLog). k ++ logs_of ((count, y) ∷ [])) (logs-reset (count, y) old r) ∙ one in
    rw logs refl
by_event from sent y Other l e =
    let count = fold count_step 0 sent in
    let r : resets y ≡ false = reset_event y.command ∙ ap is_reset_event e in
    let old = coded_counted from 0 sent in
    let one : logs_of ((count, y) ∷ []) ≡ [] = rw e refl in
    let logs = logs-push from sent y l ∙ ap (λ (ps : List Counted). logs_of ps ++ logs_of ((count, y) ∷ [])) (stay-all (count, y) old r) ∙ ap (λ (k : List SysexLog). logs_of old ++ k) one ∙ append-nil (logs_of old) in
    rw logs refl

pub sysex_push : (from packet tick : ℕ) (command : Command) (sent : List Sent) → from ≤ packet →
    sysex_noted (sysex_event command) (data_of command) packet (sysex_kept from sent) ≡ sysex_kept from (sent ++ record { packet = packet; tick = tick; command = command } ∷ [])
unfolding sysex_kept
sysex_push from packet tick command sent l =
    let y : Sent = record { packet = packet; tick = tick; command = command } in
    sym (rw (fold-append count_step 0 sent (y ∷ [])) (by_event from sent y (sysex_event command) l refl))

-- ## A later checkpoint

logs-since : (later : ℕ) (xs : List Counted) → logs_of (filter (λ x. leb later (counted_packet x)) xs) ≡ logs_since later (logs_of xs)
logs-since later [] = refl
logs-since later (x ∷ xs) =
    let ih = logs-since later xs in
    elim (cases_Bool (logged_at x)) [
      | inl t ↦ elim (cases_Bool (leb later (counted_packet x))) [
        | inl e ↦ rw (t, e, t) (ap (λ (l : List SysexLog). log_at x ∷ l) ih)
        | inr n ↦ rw (t, n) ih
      ]
      | inr f ↦ elim (cases_Bool (leb later (counted_packet x))) [ inl e ↦ rw (f, e, f) ih | inr n ↦ rw (f, n) ih ]
    ]

pub sysex_later : (from later : ℕ) (sent : List Sent) → from ≤ later → sysex_kept later sent ≡ sysex_cut later (sysex_kept from sent)
unfolding sysex_kept
sysex_later from later sent l =
    let cut = ap logs_of (sym (coded-later counted_ends counted_packet from later (scanned count_step 0 sent) l)) ∙ logs-since later (coded_counted from 0 sent) in
    rw cut refl

pub sysex_none : sysex_kept 0 [] ≡ none_kept
unfolding sysex_kept
sysex_none = refl

-- ## Its octets

d-marked : (octets : List ℕ) → d_bit (last_marked octets) ≡ d_bit octets
d-marked [] = refl
d-marked (octet ∷ []) = refl
d-marked (octet ∷ next ∷ later) = refl

one-text : (s count : ℕ) (event : SysexEvent) (octets : List ℕ) → is_logged event ≡ true →
    event_text s count event octets ≡ (s + (0x27 + d_bit (last_marked octets))) ∷ log_count count event ∷ last_marked octets
one-text s count Kept octets t = rw (d-marked octets) refl
one-text s count ResetMessage octets t = rw (d-marked octets) refl
one-text s count Reset octets t = absurd (let none : false ≡ true = t in cc)
one-text s count Other octets t = absurd (let none : false ≡ true = t in cc)

no-text : (s count : ℕ) (event : SysexEvent) (octets : List ℕ) → is_logged event ≡ false → event_text s count event octets ≡ []
no-text s count Kept octets f = absurd (let none : true ≡ false = f in cc)
no-text s count ResetMessage octets f = absurd (let none : true ≡ false = f in cc)
no-text s count Reset octets f = refl
no-text s count Other octets f = refl

text-of : (packet : ℕ) (xs : List Counted) → flat_map (sysex_log packet) xs ≡ sysex_text packet (logs_of xs)
text-of packet [] = refl
text-of packet (x ∷ xs) =
    let ih = text-of packet xs in
    elim (cases_Bool (logged_at x)) [
      | inl t ↦ rw (t, one-text (s_bit packet x.1) x.0 (event_at x.1) (data_of x.1.command) t) (ap (λ (l : List ℕ). kept_text packet (log_at x) ++ l) ih)
      | inr f ↦ rw (f, no-text (s_bit packet x.1) x.0 (event_at x.1) (data_of x.1.command) f) ih
    ]

pub sysex_coded : (from packet : ℕ) (sent : List Sent) → AllByRecursion (λ place. packet_of place < packet) sent → sysex_text packet (sysex_kept from sent).logs ≡ chapter_x from packet sent
unfolding sysex_kept chapter_x
sysex_coded from packet sent h =
    sym (ap (λ (places : List Sent). flat_map (sysex_log packet) (coded_counted from 0 places)) (all_below packet_of packet sent h) ∙ text-of packet (coded_counted from 0 sent))

-- ## The coded places without their counts

plain : (from count : ℕ) (xs : List Sent) → map {B = Sent} (λ (c : Counted). c.1) (coded_counted from count xs) ≡ coded_sysex from xs
plain from count [] = refl
plain from count (x ∷ xs) =
    let ih = plain from (count_step count x) xs in
    let same = any-scanned count_step (sysex_ends x) (count_step count x) xs in
    elim (cases_Bool (list_any (sysex_ends x) xs)) [
      | inl t ↦ rw (same, t) ih
      | inr f ↦ elim (cases_Bool (leb from (packet_of x))) [
        | inl e ↦ rw (same, f, e) (ap (λ (l : List Sent). x ∷ l) ih)
        | inr n ↦ rw (same, f, n) ih
      ]
    ]

any-of : (packet : ℕ) (xs : List Counted) → list_any (is_fresh_log packet) (map {B = Sent} (λ (c : Counted). c.1) xs) ≡ list_any (log_fresh packet) (logs_of xs)
any-of packet [] = refl
any-of packet (x ∷ xs) =
    let ih = any-of packet xs in
    elim (cases_Bool (logged_at x)) [ inl t ↦ rw t (ap (λ b. is_fresh packet x.1 || b) ih) | inr f ↦ rw f ih ]

pub sysex_any : (from packet : ℕ) (sent : List Sent) → AllByRecursion (λ place. packet_of place < packet) sent → list_any (log_fresh packet) (sysex_kept from sent).logs ≡ fresh_x from packet sent
unfolding sysex_kept fresh_x
sysex_any from packet sent h =
    sym (ap (λ (places : List Sent). list_any (is_fresh_log packet) (coded_sysex from places)) (all_below packet_of packet sent h)
    ∙ ap (list_any (is_fresh_log packet)) (sym (plain from 0 sent))
    ∙ any-of packet (coded_counted from 0 sent))

-- ## Its size

length-marked : (octets : List ℕ) → length (last_marked octets) ≡ length octets
length-marked [] = refl
length-marked (octet ∷ []) = refl
length-marked (octet ∷ next ∷ later) = omega (arith, length-marked (next ∷ later))

one-len : (event : SysexEvent) (octets : List ℕ) → is_logged event ≡ true → event_len event octets ≡ 2 + length (last_marked octets)
one-len Kept octets t = omega (arith, length-marked octets)
one-len ResetMessage octets t = omega (arith, length-marked octets)
one-len Reset octets t = absurd (let none : false ≡ true = t in cc)
one-len Other octets t = absurd (let none : false ≡ true = t in cc)

none-len : (event : SysexEvent) (octets : List ℕ) → is_logged event ≡ false → event_len event octets ≡ 0
none-len Kept octets f = absurd (let none : true ≡ false = f in cc)
none-len ResetMessage octets f = absurd (let none : true ≡ false = f in cc)
none-len Reset octets f = refl
none-len Other octets f = refl

len-of : (xs : List Counted) → sum_by log_len (map {B = Sent} (λ (c : Counted). c.1) xs) ≡ kept_octets (logs_of xs)
len-of [] = refl
len-of (x ∷ xs) =
    let places = map {B = Sent} (λ (c : Counted). c.1) xs in
    let ih = len-of xs in
    let step = sum_by-cons log_len x.1 places in
    elim (cases_Bool (logged_at x)) [
      | inl t ↦
          let one = one-len (event_at x.1) (data_of x.1.command) t in
          rw t (step ∙ omega (arith, one, ih))
      | inr f ↦ let none = none-len (event_at x.1) (data_of x.1.command) f in rw f (step ∙ omega (arith, none, ih))
    ]

pub octets_kept : (from : ℕ) (sent : List Sent) → kept_octets (sysex_kept from sent).logs ≡ sysex_octets from sent
unfolding sysex_kept sysex_octets
octets_kept from sent = sym (ap (sum_by log_len) (sym (plain from 0 sent)) ∙ len-of (coded_counted from 0 sent))

count-of : (xs : List Counted) → count_by has_log (map {B = Sent} (λ (c : Counted). c.1) xs) ≡ length (logs_of xs)
count-of [] = refl
count-of (x ∷ xs) =
    let places = map {B = Sent} (λ (c : Counted). c.1) xs in
    let ih = count-of xs in
    let step = sum_by-cons (λ place. cond (has_log place) 1 0) x.1 places in
    elim (cases_Bool (logged_at x)) [
      | inl t ↦ rw t (rw t at step ∙ omega (arith, ih))
      | inr f ↦ rw f (rw f at step ∙ omega (arith, ih))
    ]

pub logs_kept : (from : ℕ) (sent : List Sent) → length (sysex_kept from sent).logs ≡ sysex_logs from sent
unfolding sysex_kept sysex_logs
logs_kept from sent = sym (ap (count_by has_log) (sym (plain from 0 sent)) ∙ count-of (coded_counted from 0 sent))

-- ## Packets that none is past

pub noted_up_to : (event : SysexEvent) (octets : List ℕ) (packet later : ℕ) (table : SysexKept) → AreLogsUpTo packet table.logs → packet ≤ later → AreLogsUpTo later (sysex_noted event octets packet table).logs
noted_up_to Kept octets packet later table h l =
    let weaker = AllByRecursion-weaker (λ (log : SysexLog). log_packet log ≤ packet) (λ log. log_packet log ≤ later) (λ log m. omega (arith, m, l)) table.logs h in
    AllByRecursion-append (λ (log : SysexLog). log_packet log ≤ later) table.logs _ weaker (l, tt)
noted_up_to ResetMessage octets packet later table h l = (l, tt)
noted_up_to Reset octets packet later table h l = tt
noted_up_to Other octets packet later table h l =
    AllByRecursion-weaker (λ (log : SysexLog). log_packet log ≤ packet) (λ log. log_packet log ≤ later) (λ log m. omega (arith, m, l)) table.logs h

pub cut_up_to : (packet later : ℕ) (logs : List SysexLog) → AreLogsUpTo later logs → AreLogsUpTo later (logs_since packet logs)
cut_up_to packet later logs h = AllByRecursion-filter (λ (log : SysexLog). log_packet log ≤ later) (λ log. leb packet (log_packet log)) logs h
