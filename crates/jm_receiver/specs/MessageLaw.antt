-- The law of repair for the number of kept System Exclusive messages. No last log tells it: each log that counts adds one.
use Rattle.std.proofs.Common.{◌≡◌, ℕ, zero, suc, ◌+◌, ◌-◌, ◌%◌, ◌<◌, ◌≤◌, Bool, true, false, cond, ◌&&◌, ◌||◌, ltb, leb, List, [], ◌∷◌, ◌++◌, fold, refl, sym, ap, ◌∙◌, inl, inr, arith}
use Rattle.std.specs.Prelude.{count_by}
use Rattle.std.specs.List.{flat_map, list_any, AllByRecursion}
use Rattle.std.proofs.lemmas.Bool.{cases_Bool, ltb-true, ltb-false, lt-leb, le-leb, le-ltb, or_parts}
use Rattle.std.proofs.lemmas.List.Sums.{fold-append, sum_by-cons}
use Rattle.std.proofs.lemmas.Grind.{flat_map-append}
use Rattle.jm_cmds.specs.declared.commands.Command.{Command}
use Rattle.jm_cmds.specs.declared.commands.Command.TheVariants.{Sysex}
use Rattle.jm_cmds.specs.declared.history.Sent.{Sent}
use Rattle.jm_cmds.specs.Control.{is_reset, is_reset_message}
use Rattle.jm_cmds.specs.Data.{is_kept_message}
use Rattle.jm_cmds.specs.History.{standing, below, since, scanned, InOrder}
use Rattle.jm_cmds.specs.HistoryLaws.{AllByRecursion-weaker, AllByRecursion-scanned, InOrder-filter, InOrder-scanned, filter_none, filter-swap, since_all, since-standing, any-scanned}
use Rattle.jm_cmds.specs.Sent.{packet_of, is_fresh}
use Rattle.ch_sysex.specs.declared.events.SysexEvent.{SysexEvent}
use Rattle.ch_sysex.specs.declared.events.SysexEvent.TheVariants.{Kept, ResetMessage, Reset, Other}
use Rattle.ch_sysex.specs.SysexEvent.{sysex_event, event_at, data_of, is_logged, resets, sysex_ends, count_step}
use Rattle.ch_sysex.specs.ChapterLaws.{any-ends}
use Rattle.ch_sysex.specs.ChapterX.{counted_packet, counted_ends, has_log, sysex_logs}
use Rattle.jm_state.specs.declared.state.State.{State}
use Rattle.jm_state.specs.Apply.{applied}
use Rattle.jm_state.specs.Parts.{no_state, sysex_count_of}
use Rattle.jm_state.specs.Says.{count_after}
use Rattle.jm_state.specs.PartLaws.{count_behind}
use Rattle.jm_state.specs.Replay.{in_two}
use Rattle.jm_state.specs.ReplayLaws.{state_behind}
use Rattle.jm_reader.specs.declared.logs.Log.{Log}
use Rattle.jm_reader.specs.declared.logs.LogKind.{LogKind}
use Rattle.jm_reader.specs.declared.logs.LogKind.TheVariants as kinds
use Rattle.jm_reader.specs.WrittenD.{d_said}
use Rattle.jm_reader.specs.WrittenV.{v_said}
use Rattle.jm_reader.specs.WrittenQ.{q_said}
use Rattle.jm_reader.specs.WrittenF.{f_said}
use Rattle.jm_reader.specs.WrittenX.{x_said, event_said, sysex_said}
use Rattle.jm_reader.specs.WrittenSystem.{system_logs}
use Rattle.jm_reader.specs.WrittenJournal.{journal_logs, channels_logs}
use Rattle.jm_receiver.specs.Repair.{has_reset, cleared, is_ahead, counts, with_message, messages_repaired, with_session_log, repaired}
use Rattle.jm_receiver.specs.Chapters.{is_session, channels_of_channels}
use Rattle.jm_receiver.specs.SystemLogs.{d_all, v_all, q_all, f_all}
use Rattle.jm_receiver.specs.Repairs.{seen_since, below_next}
use Rattle.jm_receiver.specs.Resets.{reset_of_journal}
use Rattle.jm_receiver.specs.Session.{session_stays}

-- As `Repairs`, where a journal has at most 128 logs of messages, as the limits of a session ask (`KeepsLimits`).
abbrev pub RepairsMessages : Type 0
RepairsMessages =
    (checkpoint next packet tick : ℕ) (sent : List Sent) → InOrder packet_of sent → sysex_logs checkpoint (below packet_of packet sent) ≤ 128 → checkpoint ≤ next → next ≤ packet →
    sysex_count_of (repaired (state_behind no_state (below packet_of next sent)) (journal_logs checkpoint packet tick sent)) ≡ sysex_count_of (state_behind no_state (below packet_of packet sent))

-- ## What repair counts

-- the number behind a log
abbrev counted_on : (reset : Bool) → (before number : ℕ) → Log → ℕ
counted_on reset before number log = cond (counts reset before log.what) ((number + 1) % 256) number

abbrev all_counted : (reset : Bool) → (before number : ℕ) → List Log → ℕ
all_counted reset before number logs = fold (counted_on reset before) number logs

messages_counted : (reset : Bool) (before : ℕ) (s : State) (logs : List Log) → sysex_count_of (fold (with_message reset before) s logs) ≡ all_counted reset before (sysex_count_of s) logs
messages_counted reset before s [] = refl
messages_counted reset before s (log ∷ logs) =
    messages_counted reset before (with_message reset before s log) logs
    ∙ ap (λ (n : ℕ). all_counted reset before n logs)
    (elim (cases_Bool (counts reset before log.what)) [ inl t ↦ rw t refl | inr f ↦ rw f refl ])

session_left : (s : State) (log : LogKind) → sysex_count_of (with_session_log s log) ≡ sysex_count_of s
session_left s (kinds.Song song) = refl
session_left s (kinds.Sequencer running downbeat position) = refl
session_left s (kinds.TimeCode complete partial backward point) = refl
session_left s log = refl

sessions_left : (s : State) (logs : List Log) → sysex_count_of (fold (λ t log. with_session_log t log.what) s logs) ≡ sysex_count_of s
sessions_left s [] = refl
sessions_left s (log ∷ logs) = sessions_left (with_session_log s log.what) logs ∙ session_left s log.what

number_repaired : (s : State) (logs : List Log) → sysex_count_of (repaired s logs) ≡ all_counted (has_reset logs) (sysex_count_of (cleared logs s)) (sysex_count_of (cleared logs s)) logs
number_repaired s logs =
    let begins = cleared logs s in
    (session_stays s logs).sysex_count
    ∙ sessions_left (messages_repaired logs begins) logs
    ∙ messages_counted (has_reset logs) (sysex_count_of begins) begins logs

-- ## Chapter X alone

-- a log that never counts
abbrev NeverCounts : LogKind → Type 0
NeverCounts what = (reset : Bool) (before : ℕ) → counts reset before what ≡ false

none_counted : (reset : Bool) (before number : ℕ) (logs : List Log) → AllByRecursion (λ log. NeverCounts log.what) logs → all_counted reset before number logs ≡ number
none_counted reset before number [] h = refl
none_counted reset before number (log ∷ logs) h = rw (h.0 reset before) (none_counted reset before number logs h.1)

channel_log : (what : LogKind) → is_session what ≡ false → NeverCounts what
channel_log (kinds.Sysex count octets) h reset before = absurd (let f : true ≡ false = h in cc)
channel_log what h reset before = refl

channels_silent : (checkpoint packet tick : ℕ) (sent : List Sent) → AllByRecursion (λ log. NeverCounts log.what) (channels_logs checkpoint packet tick sent)
channels_silent checkpoint packet tick sent =
    AllByRecursion-weaker (λ (log : Log). is_session log.what ≡ false) (λ log. NeverCounts log.what) (λ log h. channel_log log.what h) (channels_logs checkpoint packet tick sent) (channels_of_channels checkpoint packet tick sent)

x_alone : (reset : Bool) (before number checkpoint packet tick : ℕ) (sent : List Sent) → all_counted reset before number (journal_logs checkpoint packet tick sent) ≡ all_counted reset before number (x_said checkpoint packet sent)
unfolding journal_logs system_logs
x_alone reset before number checkpoint packet tick sent =
    let step = counted_on reset before in
    let d = d_said checkpoint packet sent in
    let v = v_said checkpoint packet sent in
    let q = q_said checkpoint packet sent in
    let f = f_said checkpoint packet sent in
    let x = x_said checkpoint packet sent in
    let silent = none_counted reset before number in
    fold-append step number (system_logs checkpoint packet sent) (channels_logs checkpoint packet tick sent)
    ∙ none_counted reset before (all_counted reset before number (system_logs checkpoint packet sent)) (channels_logs checkpoint packet tick sent) (channels_silent checkpoint packet tick sent)
    ∙ fold-append step number (d ++ v ++ q ++ f) x
    ∙ ap (λ (n : ℕ). all_counted reset before n x)
    (fold-append step number (d ++ v ++ q) f
    ∙ ap (λ (n : ℕ). all_counted reset before n f)
    (fold-append step number (d ++ v) q
    ∙ ap (λ (n : ℕ). all_counted reset before n q)
    (fold-append step number d v
    ∙ ap (λ (n : ℕ). all_counted reset before n v) (silent d (d_all NeverCounts (λ n r b. refl) (λ n r b. refl) (λ n r b. refl) checkpoint packet sent))
    ∙ silent v (v_all NeverCounts (λ n r b. refl) checkpoint packet sent))
    ∙ silent q (q_all NeverCounts (λ r d p reset before. refl) checkpoint packet sent))
    ∙ silent f (f_all NeverCounts (λ c p b n reset before. refl) checkpoint packet sent))

-- ## One place

-- the number behind the log of an event, before which there were so many kept messages
abbrev log_counted : (reset : Bool) → (before number kept : ℕ) → SysexEvent → ℕ
log_counted reset before number kept Kept = cond (reset || is_ahead before ((kept + 1) % 256)) ((number + 1) % 256) number
log_counted reset before number kept ResetMessage = number
log_counted reset before number kept Reset = number
log_counted reset before number kept Other = number

command_counted : (fresh reset : Bool) (before number kept : ℕ) (command : Command) → all_counted reset before number (event_said fresh kept (sysex_event command) (data_of command)) ≡ log_counted reset before number kept (sysex_event command)
command_counted fresh reset before number kept (Sysex octets) =
    elim (cases_Bool (is_reset_message octets)) [
      | inl t ↦ rw (t, t) refl
      | inr f ↦ elim (cases_Bool (is_kept_message octets)) [ inl k ↦ rw (f, k, f) refl | inr n ↦ rw (f, n) refl ]
    ]
command_counted fresh reset before number kept command = refl

-- the number behind an event
abbrev event_counted : (number : ℕ) → SysexEvent → ℕ
event_counted number Kept = (number + 1) % 256
event_counted number ResetMessage = 0
event_counted number Reset = 0
event_counted number Other = number

number_after : (number : ℕ) (command : Command) → count_after number command ≡ event_counted number (sysex_event command)
number_after number (Sysex octets) =
    elim (cases_Bool (is_reset_message octets)) [
      | inl t ↦ rw t refl
      | inr f ↦ elim (cases_Bool (is_kept_message octets)) [ inl k ↦ rw (f, k) refl | inr n ↦ rw (f, n) refl ]
    ]
number_after number command = refl

-- an event that is a reset
abbrev is_cleared : SysexEvent → Bool
is_cleared Kept = false
is_cleared ResetMessage = true
is_cleared Reset = true
is_cleared Other = false

reset_event : (command : Command) → is_reset command ≡ is_cleared (sysex_event command)
reset_event (Sysex octets) =
    elim (cases_Bool (is_reset_message octets)) [
      | inl t ↦ rw t refl
      | inr f ↦ elim (cases_Bool (is_kept_message octets)) [ inl k ↦ rw (f, k) refl | inr n ↦ rw (f, n) refl ]
    ]
reset_event command = refl

-- the number behind a place, and behind places
abbrev number_on : (number : ℕ) → Sent → ℕ
number_on number place = count_after number place.command

number_behind : (s : State) (places : List Sent) → sysex_count_of (state_behind s places) ≡ fold number_on (sysex_count_of s) places
number_behind s [] = refl
number_behind s (x ∷ xs) = number_behind (applied s x.command) xs ∙ ap (λ (n : ℕ). fold number_on n xs) (count_behind s x.command)

-- ## Places, each with the number of kept messages before it

pub since-scanned : {S X : Type 0} (step : S → X → S) (at : X → ℕ) (from : ℕ) (s : S) (xs : List X) → InOrder at xs →
    since (λ p. at p.1) from (scanned step s xs) ≡ scanned step (fold step s (below at from xs)) (since at from xs)
since-scanned step at from s [] o = refl
since-scanned step at from s (x ∷ xs) o =
    elim (cases_Bool (ltb (at x) from)) [
      | inl t ↦ let under : at x < from = ltb-true (at x) from t in rw (t, lt-leb from (at x) under) (since-scanned step at from (step s x) xs o.1)
      | inr f ↦
          let begins : from ≤ at x = ltb-false (at x) from f in
          let later : AllByRecursion (λ y. from ≤ at y) xs = AllByRecursion-weaker (λ y. at x ≤ at y) (λ y. from ≤ at y) (λ y h. omega (arith, h, begins)) xs o.0 in
          let none : AllByRecursion (λ y. ltb (at y) from ≡ false) xs = AllByRecursion-weaker (λ y. from ≤ at y) (λ y. ltb (at y) from ≡ false) (λ y h. le-ltb (at y) from h) xs later in
          let placed : since (λ p. at p.1) from (scanned step (step s x) xs) ≡ scanned step (step s x) xs =
          since_all (λ p. at p.1) from (scanned step (step s x) xs) (AllByRecursion-scanned (λ y. from ≤ at y) step (step s x) xs later) in
          rw (f, le-leb from (at x) begins, filter_none (λ y. ltb (at y) from) xs none, since_all at from xs later, placed) refl
    ]

pub scanned-append : {S X : Type 0} (step : S → X → S) (s : S) (xs ys : List X) → scanned step s (xs ++ ys) ≡ scanned step s xs ++ scanned step (fold step s xs) ys
scanned-append step s [] ys = refl
scanned-append step s (x ∷ xs) ys = ap (λ (l : List _). (s, x) ∷ l) (scanned-append step (step s x) xs ys)

any-counted : (kept : ℕ) (x : Sent) (xs : List Sent) → list_any (counted_ends (kept, x)) (scanned count_step (count_step kept x) xs) ≡ (is_logged (event_at x) && list_any resets xs)
any-counted kept x xs =
    let all : list_any (counted_ends (kept, x)) (scanned count_step (count_step kept x) xs) ≡ list_any (sysex_ends x) xs = any-scanned count_step (sysex_ends x) (count_step kept x) xs in
    all ∙ any-ends x xs

pub and_false : (b : Bool) → (b && false) ≡ false
and_false true = refl
and_false false = refl

-- without a reset all stand
all_stand : (kept : ℕ) (xs : List Sent) → list_any resets xs ≡ false → standing counted_ends (scanned count_step kept xs) ≡ scanned count_step kept xs
all_stand kept [] h = refl
all_stand kept (x ∷ xs) h =
    let parts = or_parts (resets x) (list_any resets xs) h in
    let none : list_any (counted_ends (kept, x)) (scanned count_step (count_step kept x) xs) ≡ false = any-counted kept x xs ∙ rw (parts.1) (and_false (is_logged (event_at x))) in
    rw none (ap (λ (l : List _). (kept, x) ∷ l) (all_stand (count_step kept x) xs parts.1))

-- the number behind the logs of a place and those behind it
placed_counted : (packet : ℕ) (reset : Bool) (before number kept : ℕ) (x : Sent) (rest : List (ℕ × Sent)) →
    all_counted reset before number (flat_map (sysex_said packet) ((kept, x) ∷ rest)) ≡ all_counted reset before (log_counted reset before number kept (event_at x)) (flat_map (sysex_said packet) rest)
placed_counted packet reset before number kept x rest =
    fold-append (counted_on reset before) number (sysex_said packet (kept, x)) (flat_map (sysex_said packet) rest)
    ∙ ap (λ (n : ℕ). all_counted reset before n (flat_map (sysex_said packet) rest)) (command_counted (is_fresh packet x) reset before number kept x.command)

-- ## With a reset

kept_counts : (before number kept : ℕ) (event : SysexEvent) → is_cleared event ≡ false → log_counted true before number kept event ≡ event_counted number event
kept_counts before number kept Kept h = refl
kept_counts before number kept ResetMessage h = absurd (let f : true ≡ false = h in cc)
kept_counts before number kept Reset h = absurd (let f : true ≡ false = h in cc)
kept_counts before number kept Other h = refl

-- behind it each message counts
each_counts : (packet before number kept : ℕ) (xs : List Sent) → list_any resets xs ≡ false → all_counted true before number (flat_map (sysex_said packet) (scanned count_step kept xs)) ≡ fold number_on number xs
each_counts packet before number kept [] h = refl
each_counts packet before number kept (x ∷ xs) h =
    let parts = or_parts (resets x) (list_any resets xs) h in
    let plain : is_cleared (event_at x) ≡ false = sym (reset_event x.command) ∙ parts.0 in
    placed_counted packet true before number kept x (scanned count_step (count_step kept x) xs)
    ∙ each_counts packet before (log_counted true before number kept (event_at x)) (count_step kept x) xs parts.1
    ∙ ap (λ (n : ℕ). fold number_on n xs) (kept_counts before number kept (event_at x) plain ∙ sym (number_after number x.command))

cleared_none : (reset : Bool) (before number kept : ℕ) (event : SysexEvent) → is_cleared event ≡ true → log_counted reset before number kept event ≡ number
cleared_none reset before number kept Kept h = absurd (let f : false ≡ true = h in cc)
cleared_none reset before number kept ResetMessage h = refl
cleared_none reset before number kept Reset h = refl
cleared_none reset before number kept Other h = refl

unlogged_none : (reset : Bool) (before number kept : ℕ) (event : SysexEvent) → is_logged event ≡ false → log_counted reset before number kept event ≡ number
unlogged_none reset before number kept Kept h = absurd (let f : true ≡ false = h in cc)
unlogged_none reset before number kept ResetMessage h = absurd (let f : true ≡ false = h in cc)
unlogged_none reset before number kept Reset h = refl
unlogged_none reset before number kept Other h = refl

cleared_zero : (number : ℕ) (event : SysexEvent) → is_cleared event ≡ true → event_counted number event ≡ 0
cleared_zero number Kept h = absurd (let f : false ≡ true = h in cc)
cleared_zero number ResetMessage h = refl
cleared_zero number Reset h = refl
cleared_zero number Other h = absurd (let f : false ≡ true = h in cc)

-- what stands before the last reset has no log that counts
reset_counts : (packet before number kept : ℕ) (xs : List Sent) → list_any resets xs ≡ true → all_counted true before 0 (flat_map (sysex_said packet) (standing counted_ends (scanned count_step kept xs))) ≡ fold number_on number xs
reset_counts packet before number kept [] h = absurd (let f : false ≡ true = h in cc)
reset_counts packet before number kept (x ∷ xs) h =
    let rest = standing counted_ends (scanned count_step (count_step kept x) xs) in
    elim (cases_Bool (list_any resets xs)) [
      | inl t ↦
          let later = reset_counts packet before (number_on number x) (count_step kept x) xs t in
          elim (cases_Bool (is_logged (event_at x))) [
            | inl l ↦
                let over : list_any (counted_ends (kept, x)) (scanned count_step (count_step kept x) xs) ≡ true = any-counted kept x xs ∙ rw (l, t) refl in
                rw over later
            | inr u ↦
                let stands : list_any (counted_ends (kept, x)) (scanned count_step (count_step kept x) xs) ≡ false = any-counted kept x xs ∙ rw u refl in
                rw stands (placed_counted packet true before 0 kept x rest ∙ ap (λ (n : ℕ). all_counted true before n (flat_map (sysex_said packet) rest)) (unlogged_none true before 0 kept (event_at x) u) ∙ later)
          ]
      | inr f ↦
          let here : resets x ≡ true = last (resets x) (rw f at h) in
          let clears : is_cleared (event_at x) ≡ true = sym (reset_event x.command) ∙ here in
          let stands : list_any (counted_ends (kept, x)) (scanned count_step (count_step kept x) xs) ≡ false = any-counted kept x xs ∙ rw f (and_false (is_logged (event_at x))) in
          let zero_here : number_on number x ≡ 0 = number_after number x.command ∙ cleared_zero number (event_at x) clears in
          rw stands
          (placed_counted packet true before 0 kept x rest
          ∙ ap (λ (n : ℕ). all_counted true before n (flat_map (sysex_said packet) rest)) (cleared_none true before 0 kept (event_at x) clears)
          ∙ ap (λ (l : List _). all_counted true before 0 (flat_map (sysex_said packet) l)) (all_stand (count_step kept x) xs f)
          ∙ each_counts packet before 0 (count_step kept x) xs f
          ∙ ap (λ (n : ℕ). fold number_on n xs) (sym zero_here))
    ]
  where
    last : (b : Bool) → (b || false) ≡ true → b ≡ true
    last true e = refl
    last false e = e

-- ## Without a reset

-- so many are kept
abbrev kept_of : List Sent → ℕ
kept_of xs = count_by has_log xs

abbrev one_kept : SysexEvent → ℕ
one_kept event = cond (is_logged event) 1 0

kept_more : (x : Sent) (xs : List Sent) → kept_of (x ∷ xs) ≡ one_kept (event_at x) + kept_of xs
kept_more x xs = sum_by-cons (λ (y : Sent). cond (has_log y) 1 0) x xs

-- a message that the state has isn't ahead of it
behind : (before kept more : ℕ) → more ≤ 127 → before ≡ (kept + (1 + more)) % 256 → is_ahead before ((kept + 1) % 256) ≡ false
behind before kept zero l e =
    let none : ((kept + 1) % 256 + 256 - before) % 256 ≡ 0 = omega (arith, e) in
    rw none refl
behind before kept (suc more) l e =
    let far : 129 ≤ ((kept + 1) % 256 + 256 - before) % 256 = omega (arith, e, l) in
    let over : leb (((kept + 1) % 256 + 256 - before) % 256) 128 ≡ false = lt-leb (((kept + 1) % 256 + 256 - before) % 256) 128 (omega (arith, far)) in
    rw over (and_false (leb 1 (((kept + 1) % 256 + 256 - before) % 256)))

-- and one that it lacks is
ahead : (before kept more : ℕ) → before < 256 → more < 128 → kept % 256 ≡ (before + more) % 256 → is_ahead before ((kept + 1) % 256) ≡ true
ahead before kept more s l e =
    let far : ((kept + 1) % 256 + 256 - before) % 256 ≡ more + 1 = omega (arith, e, s, l) in
    let some : leb 1 (more + 1) ≡ true = le-leb 1 (more + 1) (omega arith) in
    let few : leb (more + 1) 128 ≡ true = le-leb (more + 1) 128 (omega (arith, l)) in
    rw (far, some, few) refl

behind_event : (before number kept rest : ℕ) (event : SysexEvent) → is_cleared event ≡ false → one_kept event + rest ≤ 128 → before ≡ (kept + (one_kept event + rest)) % 256 → log_counted false before number kept event ≡ number
behind_event before number kept rest Kept h l e = let none : is_ahead before ((kept + 1) % 256) ≡ false = behind before kept rest (omega (arith, l)) e in rw none refl
behind_event before number kept rest ResetMessage h l e = refl
behind_event before number kept rest Reset h l e = refl
behind_event before number kept rest Other h l e = refl

kept_on : (kept : ℕ) (event : SysexEvent) (x : Sent) → event_at x ≡ event → is_cleared event ≡ false → count_step kept x ≡ kept + one_kept event
kept_on kept Kept x e h = rw e refl
kept_on kept ResetMessage x e h = absurd (let f : true ≡ false = h in cc)
kept_on kept Reset x e h = absurd (let f : true ≡ false = h in cc)
kept_on kept Other x e h = rw e (omega arith)

-- what the state has doesn't count again
had : (packet before number kept : ℕ) (xs : List Sent) → list_any resets xs ≡ false → kept_of xs ≤ 128 → before ≡ (kept + kept_of xs) % 256 →
    all_counted false before number (flat_map (sysex_said packet) (scanned count_step kept xs)) ≡ number
had packet before number kept [] h l e = refl
had packet before number kept (x ∷ xs) h l e =
    let parts = or_parts (resets x) (list_any resets xs) h in
    let plain : is_cleared (event_at x) ≡ false = sym (reset_event x.command) ∙ parts.0 in
    let more = kept_more x xs in
    let on = kept_on kept (event_at x) x refl plain in
    let all : before ≡ (kept + (one_kept (event_at x) + kept_of xs)) % 256 = rw more at e in
    let few : one_kept (event_at x) + kept_of xs ≤ 128 = omega (arith, l, more) in
    placed_counted packet false before number kept x (scanned count_step (count_step kept x) xs)
    ∙ ap (λ (n : ℕ). all_counted false before n (flat_map (sysex_said packet) (scanned count_step (count_step kept x) xs))) (behind_event before number kept (kept_of xs) (event_at x) plain few all)
    ∙ had packet before number (count_step kept x) xs parts.1 (omega (arith, few)) (rw on (omega (arith, all)))

ahead_event : (before number kept more rest : ℕ) (event : SysexEvent) → is_cleared event ≡ false → before < 256 → more + (one_kept event + rest) ≤ 128 → kept % 256 ≡ (before + more) % 256 → log_counted false before number kept event ≡ event_counted number event
ahead_event before number kept more rest Kept h s l e = let some : is_ahead before ((kept + 1) % 256) ≡ true = ahead before kept more s (omega (arith, l)) e in rw some refl
ahead_event before number kept more rest ResetMessage h s l e = absurd (let f : true ≡ false = h in cc)
ahead_event before number kept more rest Reset h s l e = absurd (let f : true ≡ false = h in cc)
ahead_event before number kept more rest Other h s l e = refl

-- what it lacks counts
lacked : (packet before number kept more : ℕ) (xs : List Sent) → list_any resets xs ≡ false → before < 256 → more + kept_of xs ≤ 128 → kept % 256 ≡ (before + more) % 256 →
    all_counted false before number (flat_map (sysex_said packet) (scanned count_step kept xs)) ≡ fold number_on number xs
lacked packet before number kept more [] h s l e = refl
lacked packet before number kept more (x ∷ xs) h s l e =
    let parts = or_parts (resets x) (list_any resets xs) h in
    let plain : is_cleared (event_at x) ≡ false = sym (reset_event x.command) ∙ parts.0 in
    let one = kept_more x xs in
    let on = kept_on kept (event_at x) x refl plain in
    let few : more + (one_kept (event_at x) + kept_of xs) ≤ 128 = omega (arith, l, one) in
    let next : (kept + one_kept (event_at x)) % 256 ≡ (before + (more + one_kept (event_at x))) % 256 = omega (arith, e) in
    placed_counted packet false before number kept x (scanned count_step (count_step kept x) xs)
    ∙ lacked packet before (log_counted false before number kept (event_at x)) (count_step kept x) (more + one_kept (event_at x)) xs parts.1 s (omega (arith, few)) (rw on next)
    ∙ ap (λ (n : ℕ). fold number_on n xs) (ahead_event before number kept more (kept_of xs) (event_at x) plain s few e ∙ sym (number_after number x.command))

-- ## The law

kept_all : (kept : ℕ) (xs : List Sent) → list_any resets xs ≡ false → fold count_step kept xs ≡ kept + kept_of xs
kept_all kept [] h = omega arith
kept_all kept (x ∷ xs) h =
    let parts = or_parts (resets x) (list_any resets xs) h in
    let plain : is_cleared (event_at x) ≡ false = sym (reset_event x.command) ∙ parts.0 in
    let on = kept_on kept (event_at x) x refl plain in
    let later = kept_all (count_step kept x) xs parts.1 in
    let more = kept_more x xs in
    later ∙ omega (arith, on, more)

-- the number is that of the kept messages, modulo 256
number_kept : (number kept : ℕ) (xs : List Sent) → number ≡ kept % 256 → fold number_on number xs ≡ fold count_step kept xs % 256
number_kept number kept [] e = e
number_kept number kept (x ∷ xs) e = number_kept (number_on number x) (count_step kept x) xs (number_after number x.command ∙ by_event (event_at x) refl)
  where
    by_event : (event : SysexEvent) → event_at x ≡ event → event_counted number event ≡ count_step kept x % 256
    by_event Kept s = rw s (omega (arith, e))
    by_event ResetMessage s = rw s refl
    by_event Reset s = rw s refl
    by_event Other s = rw s e

-- without a reset all places have their log
kept_logs : (checkpoint packet : ℕ) (sent : List Sent) → InOrder packet_of sent → list_any resets (seen_since checkpoint packet sent) ≡ false → sysex_logs checkpoint (below packet_of packet sent) ≡ kept_of (seen_since checkpoint packet sent)
unfolding sysex_logs
kept_logs checkpoint packet sent o h =
    let seen = below packet_of packet sent in
    ap kept_of (since-standing sysex_ends packet_of checkpoint seen (InOrder-filter packet_of _ sent o) ∙ whole (seen_since checkpoint packet sent) h)
  where
    whole : (xs : List Sent) → list_any resets xs ≡ false → standing sysex_ends xs ≡ xs
    whole [] h = refl
    whole (x ∷ xs) h =
        let parts = or_parts (resets x) (list_any resets xs) h in
        let none : list_any (sysex_ends x) xs ≡ false = any-ends x xs ∙ rw (parts.1) (and_false (is_logged (event_at x))) in
        rw none (ap (λ (l : List Sent). x ∷ l) (whole xs parts.1))

-- what is coded are the places from the checkpoint on that no reset ends
x_placed : (checkpoint packet : ℕ) (sent : List Sent) → InOrder packet_of sent →
    x_said checkpoint packet sent ≡ flat_map (sysex_said packet) (standing counted_ends (scanned count_step (fold count_step 0 (below packet_of checkpoint (below packet_of packet sent))) (seen_since checkpoint packet sent)))
unfolding x_said
x_placed checkpoint packet sent o =
    let seen = below packet_of packet sent in
    let ordered : InOrder packet_of seen = InOrder-filter packet_of _ sent o in
    ap (flat_map (sysex_said packet))
    (since-standing counted_ends counted_packet checkpoint (scanned count_step 0 seen) (InOrder-scanned packet_of count_step 0 seen ordered)
    ∙ ap (standing counted_ends) (since-scanned count_step packet_of checkpoint 0 seen ordered))

count_small : (s : State) (places : List Sent) → sysex_count_of s ≡ 0 → sysex_count_of (state_behind s places) ≡ fold count_step 0 places % 256
count_small s places h = number_behind s places ∙ rw h (number_kept 0 0 places refl)

-- The number of messages is repaired.
pub number_of_messages_repaired : RepairsMessages
number_of_messages_repaired checkpoint next packet tick sent o few early late =
    let logs = journal_logs checkpoint packet tick sent in
    let seen = below packet_of packet sent in
    let ordered : InOrder packet_of seen = InOrder-filter packet_of _ sent o in
    let ys = seen_since checkpoint packet sent in
    let front = below packet_of checkpoint seen in
    let old = state_behind no_state (below packet_of next sent) in
    let kept = fold count_step 0 front in
    let two : seen ≡ front ++ ys = in_two packet_of checkpoint seen ordered in
    let all : sysex_count_of (state_behind no_state seen) ≡ fold number_on (fold number_on 0 front) ys =
    number_behind no_state seen ∙ ap (fold number_on 0) two ∙ fold-append number_on 0 front ys in
    let x = x_placed checkpoint packet sent o in
    let same_reset = reset_of_journal checkpoint packet tick sent o in
    number_repaired old logs
    ∙ elim (cases_Bool (list_any resets ys)) [
      | inl t ↦
          let reset : has_reset logs ≡ true = same_reset ∙ t in
          rw reset
          (x_alone true 0 0 checkpoint packet tick sent
          ∙ ap (all_counted true 0 0) x
          ∙ reset_counts packet 0 (fold number_on 0 front) kept ys t
          ∙ sym all)
      | inr f ↦
          let reset : has_reset logs ≡ false = same_reset ∙ f in
          let between = below packet_of next ys in
          let rest = since packet_of next ys in
          let before = sysex_count_of old in
          let parts : ys ≡ between ++ rest = in_two packet_of next ys (InOrder-filter packet_of _ seen ordered) in
          let none : (list_any resets between ≡ false) × (list_any resets rest ≡ false) = apart between rest (ap (list_any resets) (sym parts) ∙ f) in
          let size : kept_of ys ≡ kept_of between + kept_of rest = ap kept_of parts ∙ count_append between rest in
          let many : kept_of ys ≤ 128 = rw (kept_logs checkpoint packet sent o f) at few in
          let begins : below packet_of next sent ≡ front ++ between =
          sym (below_next next packet sent late)
          ∙ in_two packet_of checkpoint (below packet_of next seen) (InOrder-filter packet_of _ seen ordered)
          ∙ rw (below_next checkpoint next seen early, filter-swap (λ y. leb checkpoint (packet_of y)) (λ y. ltb (packet_of y) next) seen) refl in
          let behind_between : fold count_step kept between ≡ kept + kept_of between = kept_all kept between none.0 in
          let number : before ≡ (kept + kept_of between) % 256 =
          count_small no_state (below packet_of next sent) refl
          ∙ ap (λ (l : List Sent). fold count_step 0 l % 256) begins
          ∙ ap (λ (n : ℕ). n % 256) (fold-append count_step 0 front between ∙ behind_between) in
          let whole : sysex_count_of (state_behind no_state seen) ≡ fold number_on before rest =
          all
          ∙ ap (fold number_on (fold number_on 0 front)) parts
          ∙ fold-append number_on (fold number_on 0 front) between rest
          ∙ ap (λ (n : ℕ). fold number_on n rest) (sym (fold-append number_on 0 front between) ∙ ap (fold number_on 0) (sym begins) ∙ sym (number_behind no_state (below packet_of next sent))) in
          let places : x_said checkpoint packet sent ≡ flat_map (sysex_said packet) (scanned count_step kept between) ++ flat_map (sysex_said packet) (scanned count_step (fold count_step kept between) rest) =
          x
          ∙ ap (flat_map (sysex_said packet)) (all_stand kept ys f ∙ ap (scanned count_step kept) parts ∙ scanned-append count_step kept between rest)
          ∙ flat_map-append (sysex_said packet) (scanned count_step kept between) (scanned count_step (fold count_step kept between) rest) in
          rw reset
          (x_alone false before before checkpoint packet tick sent
          ∙ ap (all_counted false before before) places
          ∙ fold-append (counted_on false before) before (flat_map (sysex_said packet) (scanned count_step kept between)) (flat_map (sysex_said packet) (scanned count_step (fold count_step kept between) rest))
          ∙ ap (λ (n : ℕ). all_counted false before n (flat_map (sysex_said packet) (scanned count_step (fold count_step kept between) rest))) (had packet before before kept between none.0 (omega (arith, size, many)) number)
          ∙ lacked packet before before (fold count_step kept between) 0 rest none.1 (omega (arith, number)) (omega (arith, size, many)) (omega (arith, number, behind_between))
          ∙ sym whole)
    ]
  where
    apart : (xs ys : List Sent) → list_any resets (xs ++ ys) ≡ false → (list_any resets xs ≡ false) × (list_any resets ys ≡ false)
    apart [] ys h = (refl, h)
    apart (x ∷ xs) ys h =
        let parts = or_parts (resets x) (list_any resets (xs ++ ys)) h in
        let later = apart xs ys parts.1 in
        (rw (parts.0) later.0, later.1)

    count_append : (xs ys : List Sent) → kept_of (xs ++ ys) ≡ kept_of xs + kept_of ys
    count_append [] ys = omega arith
    count_append (x ∷ xs) ys =
        let whole = kept_more x (xs ++ ys) in
        let part = kept_more x xs in
        let later = count_append xs ys in
        omega (arith, whole, part, later)
