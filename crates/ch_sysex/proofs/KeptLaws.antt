-- The messages in their ring.
use Rattle.std.proofs.Common.{◌≡◌, ℕ, zero, suc, ◌+◌, ◌-◌, ◌<◌, ◌≤◌, true, false, ◌||◌, eqb, leb, List, [], ◌∷◌, ◌++◌, Some, None, length, refl, sym, ap, ◌∙◌, take, drop, get_or, set, arith, length-append}
use Rattle.std.specs.Prelude.{slice_get}
use Rattle.std.specs.List.{list_any}
use Rattle.std.proofs.lemmas.Bool.{le-leb, lt-leb}
use Rattle.std.proofs.lemmas.Grind.{take-set_at}
use Rattle.circular_buffer.specs.Buffer.{keep_last}
use Rattle.jm_cmds.specs.History.{InOrder}
use Rattle.jm_cmds.specs.HistoryLaws.{InOrder-append, AllByRecursion-append, AllByRecursion-weaker, filter_all}
use Rattle.ch_sysex.specs.declared.kept.KeptMessage.{KeptMessage}
use Rattle.ch_sysex.specs.ChapterX.{last_marked}
use Rattle.ch_sysex.specs.ChapterLaws.{last_marked-split}
use Rattle.ch_sysex.specs.SysexTable.{SysexLog, log_packet, AreLogsUpTo, logs_since, log_fresh, sysex_text, kept_octets, log_in, logs_in, IsShort, AreShort}

pub any_in : (packet : ℕ) (messages : List KeptMessage) → list_any (λ message. eqb (message.packet + 1) packet) messages ≡ list_any (log_fresh packet) (logs_in messages)
any_in packet [] = refl
any_in packet (m ∷ ms) = ap (λ b. eqb (m.packet + 1) packet || b) (any_in packet ms)

-- what has room is kept whole
pub keeps_all : {X : Type 0} (n : ℕ) (xs : List X) → length xs ≤ n → keep_last n xs ≡ xs
keeps_all n xs l = let none : length xs - n ≡ 0 = omega (arith, l) in rw none refl

pub length-logs_in : (messages : List KeptMessage) → length (logs_in messages) ≡ length messages
length-logs_in [] = refl
length-logs_in (m ∷ ms) = omega (arith, length-logs_in ms)

pub logs_in-append : (xs ys : List KeptMessage) → logs_in (xs ++ ys) ≡ logs_in xs ++ logs_in ys
logs_in-append [] ys = refl
logs_in-append (x ∷ xs) ys = ap (λ (l : List SysexLog). log_in x ∷ l) (logs_in-append xs ys)

-- ## One message more

pub order_push : (log : SysexLog) (logs : List SysexLog) → InOrder log_packet logs → AreLogsUpTo (log_packet log) logs → InOrder log_packet (logs ++ log ∷ [])
order_push log logs h up =
    let here : log_packet log ≤ log_packet log = omega arith in
    InOrder-append log_packet (log_packet log) logs (log ∷ []) h up (here, tt) (tt, tt)

-- ## From the front

pub late_all : (packet : ℕ) (log : SysexLog) (logs : List SysexLog) → InOrder log_packet (log ∷ logs) → packet ≤ log_packet log → logs_since packet (log ∷ logs) ≡ log ∷ logs
late_all packet log logs h l =
    let late = AllByRecursion-weaker (λ (k : SysexLog). log_packet log ≤ log_packet k) (λ k. leb packet (log_packet k) ≡ true) (λ k m. le-leb packet (log_packet k) (omega (arith, m, l))) logs h.0 in
    filter_all (λ k. leb packet (log_packet k)) (log ∷ logs) (le-leb packet (log_packet log) l, late)

pub first_none : (packet : ℕ) (messages : List KeptMessage) → slice_get messages 0 ≡ None → logs_since packet (logs_in messages) ≡ logs_in messages
first_none packet [] e = refl
first_none packet (m ∷ ms) e = absurd (let none : Some m ≡ None = e in cc)

pub first_late : (packet : ℕ) (message : KeptMessage) (messages : List KeptMessage) → InOrder log_packet (logs_in messages) → slice_get messages 0 ≡ Some message → packet ≤ message.packet → logs_since packet (logs_in messages) ≡ logs_in messages
first_late packet message [] h e l = refl
first_late packet message (m ∷ ms) h e l =
    let same : m ≡ message = (let some : Some m ≡ Some message = e in cc) in
    let late : packet ≤ m.packet = rw same l in
    late_all packet (log_in m) (logs_in ms) h late

pub first_early : (packet : ℕ) (message : KeptMessage) (messages : List KeptMessage) → slice_get messages 0 ≡ Some message → message.packet < packet →
    (logs_since packet (drop 1 (logs_in messages)) ≡ logs_since packet (logs_in messages)) × (0 < length (logs_in messages))
first_early packet message [] e l = absurd (let none : None ≡ Some message = e in cc)
first_early packet message (m ∷ ms) e l =
    let same : m ≡ message = (let some : Some m ≡ Some message = e in cc) in
    let early : m.packet < packet = rw same l in
    let gone : leb packet m.packet ≡ false = lt-leb packet m.packet early in
    (rw gone refl, omega arith)

-- ## A copy

pub copied : {X : Type 0} (n : ℕ) (front back xs : List X) → front ++ back ≡ xs → length xs ≤ n → keep_last n (keep_last n ([] ++ front) ++ back) ≡ xs
copied n front back xs e l =
    let all : length front + length back ≤ n = (let s = ap length e in omega (arith, l, s, length-append front back)) in
    let first : keep_last n front ≡ front = keeps_all n front (omega (arith, all)) in
    ap (λ (k : List _). keep_last n (k ++ back)) first
    ∙ keeps_all n (front ++ back) (omega (arith, all, length-append front back))
    ∙ e

-- ## In two slices

pub second_short : (front back xs : List KeptMessage) → front ++ back ≡ xs → AreShort xs → AreShort back
second_short front back xs e h = later front back (rw e h)
  where
    later : (front back : List KeptMessage) → AreShort (front ++ back) → AreShort back
    later [] back h = h
    later (m ∷ ms) back h = later ms back h.1

pub octets_joined : (front back xs : List KeptMessage) → front ++ back ≡ xs → kept_octets (logs_in xs) ≡ kept_octets (logs_in front) + kept_octets (logs_in back)
octets_joined front back xs e = ap (λ (k : List KeptMessage). kept_octets (logs_in k)) (sym e) ∙ joined front back
  where
    joined : (front back : List KeptMessage) → kept_octets (logs_in (front ++ back)) ≡ kept_octets (logs_in front) + kept_octets (logs_in back)
    joined [] back = omega arith
    joined (m ∷ ms) back = omega (arith, joined ms back)

pub length-sysex_text : (packet : ℕ) (logs : List SysexLog) → length (sysex_text packet logs) ≡ kept_octets logs
length-sysex_text packet [] = refl
length-sysex_text packet (log ∷ logs) = omega (arith, length-append log.marked (sysex_text packet logs), length-sysex_text packet logs)

pub push_kept : (new items : List KeptMessage) (m : KeptMessage) (packet : ℕ) → new ≡ items ++ m ∷ [] → AreShort items → IsShort m → InOrder log_packet (logs_in items) → AreLogsUpTo packet (logs_in items) →
    log_packet (log_in m) ≡ packet → AreShort new × InOrder log_packet (logs_in new)
push_kept new items m packet e short one order up same =
    let early : AreLogsUpTo (log_packet (log_in m)) (logs_in items) = rw same up in
    let ordered : InOrder log_packet (logs_in (items ++ m ∷ [])) = rw (logs_in-append items (m ∷ [])) (order_push (log_in m) (logs_in items) order early) in
    rw e (AllByRecursion-append IsShort items (m ∷ []) short (one, tt), ordered)

-- ## The last octet

take_less : (n m : ℕ) (xs : List ℕ) → n ≤ m → take n (take m xs) ≡ take n xs
take_less zero m xs l = refl
take_less (suc n) zero xs l = absurd (omega (arith, l))
take_less (suc n) (suc m) [] l = refl
take_less (suc n) (suc m) (x ∷ xs) l = ap (λ (k : List ℕ). x ∷ k) (take_less n m xs (omega (arith, l)))

pub marks : (octets array : List ℕ) → 1 ≤ length octets → length octets ≤ 254 → length array ≡ 254 → take (length octets) array ≡ octets →
    take (length octets) (set array (length octets - 1) (128 + get_or octets (length octets - 1) 0)) ≡ last_marked octets
marks octets array one few size h =
    let n = length octets - 1 in
    let last = 128 + get_or octets n 0 in
    let below : n ≤ length octets = omega arith in
    let front : take n array ≡ take n octets = sym (ap (take n) (sym h) ∙ take_less n (length octets) array below) in
    take-set_at array n (length octets) last (omega (arith, one)) (omega (arith, one, few, size))
    ∙ ap (λ (k : List ℕ). k ++ last ∷ []) front
    ∙ sym (last_marked-split octets one)

pub marks_none : (octets array : List ℕ) → length octets ≡ 0 → take (length octets) array ≡ last_marked octets
marks_none [] array e = refl
marks_none (octet ∷ octets) array e = absurd (omega (arith, e))
