-- A recovery journal: what is written is read.
use Rattle.std.proofs.Common.{◌≡◌, ℕ, zero, suc, ◌+◌, ◌-◌, ◌<◌, ◌≤◌, ◌%◌, Bool, true, false, cond, ltb, List, [], ◌∷◌, ◌++◌, length, drop, map, Result, Ok, refl, sym, ap, ◌∙◌, arith, inl, inr, append_assoc, append-nil}
use Rattle.std.specs.Prelude.{sum}
use Rattle.std.specs.List.{flat_map, AllByRecursion, range_with_len}
use Rattle.std.proofs.Math.Seq.{drop-append_seam}
use Rattle.std.proofs.lemmas.Bool.{cases_Bool, ltb-true, ltb-false}
use Rattle.std.proofs.lemmas.List.Sums.{sum_by-cons}
use Rattle.jm_wire.specs.declared.heads.JournalHead.{JournalHead}
use Rattle.jm_wire.specs.Heads.{FitsJournal, journal_octets}
use Rattle.jm_wire.specs.HeadLaws.{journal_back}
use Rattle.jm_cmds.specs.declared.history.Sent.{Sent}
use Rattle.jm_cmds.specs.History.{below}
use Rattle.jm_cmds.specs.Sent.{packet_of}
use Rattle.jm_journal.specs.Limits.{KeepsLimits}
use Rattle.jm_journal.specs.Channel.{is_there, channel_journal}
use Rattle.jm_journal.specs.System.{system_journal}
use Rattle.jm_journal.specs.Journal.{channels_from, channels, journal_at, journal_count, journal_head, journal}
use Rattle.jm_reader.specs.declared.faults.JournalFault.{JournalFault}
use Rattle.jm_reader.specs.declared.logs.Log.{Log}
use Rattle.jm_reader.specs.Journal.{behind_journal, channels_read, flagged_system, channel_count, logs_read, reported, journal_read}
use Rattle.jm_reader.specs.Written.{AreCommands}
use Rattle.jm_reader.specs.WrittenSystem.{system_logs, system_again, system_none}
use Rattle.jm_reader.specs.WrittenParts.{nothing}
use Rattle.jm_reader.specs.WrittenChannel.{channel_logs, channel_again, channel_none}

-- the logs of all channels, ascending
abbrev pub channels_logs : (checkpoint packet tick : ℕ) → List Sent → List Log
channels_logs checkpoint packet tick sent = flat_map (channel_logs checkpoint packet tick sent) channels

-- The logs of the journal of a packet: those of the system journal, then those of the channels.
unfoldable pub journal_logs : (checkpoint packet tick : ℕ) → List Sent → List Log
journal_logs checkpoint packet tick sent = system_logs checkpoint packet sent ++ channels_logs checkpoint packet tick sent

-- ## The channels

module _ (checkpoint packet tick : ℕ) (sent : List Sent) (h : AreCommands sent) (limits : KeepsLimits checkpoint (below packet_of packet sent)) where
  abbrev text : ℕ → List ℕ
  text channel = channel_journal checkpoint packet tick sent channel

  abbrev logs : ℕ → List Log
  logs channel = channel_logs checkpoint packet tick sent channel

  abbrev count_of : List ℕ → ℕ
  count_of cs = sum (map (journal_at checkpoint packet tick sent) cs)

  counted : (channel : ℕ) (later : List ℕ) → count_of (channel ∷ later) ≡ journal_at checkpoint packet tick sent channel + count_of later
  counted channel later = sum_by-cons (λ (n : ℕ). n) (journal_at checkpoint packet tick sent channel) (map (journal_at checkpoint packet tick sent) later)

  one_read : (channel count place : ℕ) (before : List Log) (octets : List ℕ) → channel < 16 → is_there (text channel) ≡ true →
      channels_read (suc count) place before (text channel ++ octets) ≡ channels_read count (place + length (text channel)) (before ++ logs channel) octets
  unfolding channels_read
  one_read channel count place before octets c there =
      ap (λ (read : Result (List Log × ℕ) JournalFault). behind_journal read (λ used. channels_read count (place + used.1) used.0 (drop used.1 (text channel ++ octets))))
      (channel_again checkpoint packet tick channel sent c h limits there place before octets)
      ∙ ap (channels_read count (place + length (text channel)) (before ++ logs channel)) (drop-append_seam (text channel) octets)

  channels_again : (cs : List ℕ) → AllByRecursion (λ channel. channel < 16) cs → (place : ℕ) (before : List Log) (rest : List ℕ) →
      channels_read (count_of cs) place before (flat_map text cs ++ rest) ≡ Ok (before ++ flat_map logs cs)
  unfolding channels_read
  channels_again [] few place before rest = ap (λ (all : List Log). Ok all) (sym (append-nil before))
  channels_again (c ∷ cs) few place before rest =
      let octets = flat_map text cs ++ rest in
      elim (cases_Bool (is_there (text c))) [
        | inl t ↦
            let number : count_of (c ∷ cs) ≡ suc (count_of cs) = counted c cs ∙ rw t (omega arith) in
            ap (λ (n : ℕ). channels_read n place before ((text c ++ flat_map text cs) ++ rest)) number
            ∙ ap (channels_read (suc (count_of cs)) place before) (append_assoc (text c) (flat_map text cs) rest)
            ∙ one_read c (count_of cs) place before octets few.0 t
            ∙ channels_again cs few.1 (place + length (text c)) (before ++ logs c) rest
            ∙ ap (λ (all : List Log). Ok all) (append_assoc before (logs c) (flat_map logs cs))
        | inr f ↦
            let number : count_of (c ∷ cs) ≡ count_of cs = counted c cs ∙ rw f (omega arith) in
            ap (λ (n : ℕ). channels_read n place before ((text c ++ flat_map text cs) ++ rest)) number
            ∙ ap (λ (t : List ℕ). channels_read (count_of cs) place before ((t ++ flat_map text cs) ++ rest)) (nothing (text c) f)
            ∙ channels_again cs few.1 place before rest
            ∙ ap (λ (l : List Log). Ok (before ++ (l ++ flat_map logs cs))) (sym (channel_none checkpoint packet tick c sent h f))
      ]

-- ## How many

few_from : (first n : ℕ) → first + n ≤ 16 → AllByRecursion (λ channel. channel < 16) (range_with_len first n)
few_from first zero l = tt
few_from first (suc n) l = (omega arith, few_from (first + 1) n (omega arith))

channels_few : AllByRecursion (λ channel. channel < 16) channels
unfolding channels_from
channels_few = few_from 0 16 (omega arith)

at_most : (b : Bool) (n m : ℕ) → n ≤ m → cond b 1 0 + n ≤ suc m
at_most true n m l = omega arith
at_most false n m l = omega arith

count_few : (checkpoint packet tick : ℕ) (sent : List Sent) (cs : List ℕ) → sum (map (journal_at checkpoint packet tick sent) cs) ≤ length cs
count_few checkpoint packet tick sent [] = omega arith
count_few checkpoint packet tick sent (c ∷ cs) =
    let more = sum_by-cons (λ (n : ℕ). n) (journal_at checkpoint packet tick sent c) (map (journal_at checkpoint packet tick sent) cs) in
    let one = at_most (is_there (channel_journal checkpoint packet tick sent c)) (sum (map (journal_at checkpoint packet tick sent) cs)) (length cs) (count_few checkpoint packet tick sent cs) in
    omega (arith, more, one)

channel_number : length channels ≡ 16
unfolding channels_from
channel_number = refl

head_fits : (checkpoint packet tick : ℕ) (sent : List Sent) → FitsJournal (journal_head checkpoint packet tick sent)
unfolding journal_head
head_fits checkpoint packet tick sent = omega (arith, count_few checkpoint packet tick sent channels, channel_number)

told_count : (n : ℕ) → cond (ltb 0 n) (n - 1 + 1) 0 ≡ n
told_count n = elim (cases_Bool (ltb 0 n)) [
  | inl t ↦ let some = ltb-true 0 n t in rw t (omega (arith, some))
  | inr f ↦ let none = ltb-false 0 n f in rw f (omega (arith, none))
]

head_count : (checkpoint packet tick : ℕ) (sent : List Sent) → channel_count (journal_head checkpoint packet tick sent) ≡ journal_count checkpoint packet tick sent
unfolding journal_head
head_count checkpoint packet tick sent = told_count (journal_count checkpoint packet tick sent)

-- ## The journal

flagged_again : (checkpoint packet tick : ℕ) (sent : List Sent) → AreCommands sent → KeepsLimits checkpoint (below packet_of packet sent) → (rest : List ℕ) →
    flagged_system (journal_head checkpoint packet tick sent) (system_journal checkpoint packet sent ++ rest) ≡ Ok (system_logs checkpoint packet sent, length (system_journal checkpoint packet sent))
unfolding journal_head
flagged_again checkpoint packet tick sent h limits rest =
    elim (cases_Bool (is_there (system_journal checkpoint packet sent))) [
      | inl t ↦ rw t (system_again checkpoint packet sent h limits.octets t 3 [] rest)
      | inr f ↦ rw (f, nothing (system_journal checkpoint packet sent) f, system_none checkpoint packet sent f) refl
    ]

head_checkpoint : (checkpoint packet tick : ℕ) (sent : List Sent) → (journal_head checkpoint packet tick sent).checkpoint ≡ checkpoint % 65536
unfolding journal_head
head_checkpoint checkpoint packet tick sent = refl

logs_again : (checkpoint packet tick : ℕ) (sent : List Sent) → AreCommands sent → KeepsLimits checkpoint (below packet_of packet sent) → (rest : List ℕ) →
    logs_read (journal_head checkpoint packet tick sent) (system_journal checkpoint packet sent ++ (flat_map (channel_journal checkpoint packet tick sent) channels ++ rest)) ≡ Ok (journal_logs checkpoint packet tick sent)
unfolding journal_logs
logs_again checkpoint packet tick sent h limits rest =
    let head = journal_head checkpoint packet tick sent in
    let system = system_journal checkpoint packet sent in
    let logs = system_logs checkpoint packet sent in
    let others = flat_map (channel_journal checkpoint packet tick sent) channels ++ rest in
    ap (λ (read : Result (List Log × ℕ) JournalFault). behind_journal read (λ used. channels_read (channel_count head) (3 + used.1) used.0 (drop used.1 (system ++ others))))
    (flagged_again checkpoint packet tick sent h limits others)
    ∙ ap (λ (n : ℕ). channels_read n (3 + length system) logs (drop (length system) (system ++ others))) (head_count checkpoint packet tick sent)
    ∙ ap (channels_read (journal_count checkpoint packet tick sent) (3 + length system) logs) (drop-append_seam system others)
    ∙ channels_again checkpoint packet tick sent h limits channels channels_few (3 + length system) logs rest

headed : (head : JournalHead) (octets : List ℕ) → FitsJournal head → journal_read (journal_octets head ++ octets) ≡ reported head (logs_read head octets)
unfolding journal_read
headed head octets fits = ap (λ (read : JournalHead). reported read (logs_read read octets)) (journal_back head fits)

regroup : (a b c d : List ℕ) → ((a ++ b) ++ c) ++ d ≡ a ++ (b ++ (c ++ d))
regroup a b c d = simp append_assoc

-- The journal of a packet is read as the checkpoint's low 16 bits and its logs, whatever octets follow.
pub journal_again : (checkpoint packet tick : ℕ) (sent : List Sent) → AreCommands sent → KeepsLimits checkpoint (below packet_of packet sent) → (rest : List ℕ) →
    journal_read (journal checkpoint packet tick sent ++ rest) ≡ Ok (record { checkpoint = checkpoint % 65536; logs = journal_logs checkpoint packet tick sent })
unfolding journal
journal_again checkpoint packet tick sent h limits rest =
    let head = journal_head checkpoint packet tick sent in
    let system = system_journal checkpoint packet sent in
    let others = flat_map (channel_journal checkpoint packet tick sent) channels in
    ap journal_read (regroup (journal_octets head) system others rest)
    ∙ headed head (system ++ (others ++ rest)) (head_fits checkpoint packet tick sent)
    ∙ ap (reported head) (logs_again checkpoint packet tick sent h limits rest)
    ∙ ap (λ (n : ℕ). reported (record head { checkpoint = n }) (Ok (journal_logs checkpoint packet tick sent))) (head_checkpoint checkpoint packet tick sent)

-- What is read of a written journal.
pub record JournalsAreRead : Type 0 where
  pub again : (checkpoint packet tick : ℕ) (sent : List Sent) → AreCommands sent → KeepsLimits checkpoint (below packet_of packet sent) → (rest : List ℕ) →
      journal_read (journal checkpoint packet tick sent ++ rest) ≡ Ok (record { checkpoint = checkpoint % 65536; logs = journal_logs checkpoint packet tick sent })

pub journals_are_read : JournalsAreRead
journals_are_read = record { again = journal_again }
