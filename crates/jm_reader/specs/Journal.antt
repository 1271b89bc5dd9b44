-- A recovery journal (RFC 6295, section 5, Figure 8).
use Rattle.std.specs.Prelude.{ℕ, zero, suc, ◌+◌, List, [], ◌∷◌, drop, Result, Ok, Err, if◌then◌else◌}
use Rattle.jm_wire.specs.declared.heads.JournalHead.{JournalHead}
use Rattle.jm_wire.specs.Heads.{journal_fields}
use Rattle.jm_reader.specs.declared.faults.JournalFault.{JournalFault}
use Rattle.jm_reader.specs.declared.faults.JournalFault.TheVariants.{Short}
use Rattle.jm_reader.specs.declared.journal.Report.{Report}
use Rattle.jm_reader.specs.declared.logs.Log.{Log}
use Rattle.jm_reader.specs.ChannelJournal.{channel_read}
use Rattle.jm_reader.specs.SystemJournal.{system_read}

-- what is read behind a journal, of which these are the logs and the octets
abbrev pub behind_journal : {A : Type 0} → Result (List Log × ℕ) JournalFault → (List Log × ℕ → Result A JournalFault) → Result A JournalFault
behind_journal (Err f) others = Err f
behind_journal (Ok read) others = others read

-- So many channel journals, one behind the other: the first one stands at this place behind these logs.
unfoldable pub channels_read : (count place : ℕ) → List Log → List ℕ → Result (List Log) JournalFault
channels_read zero place before octets = Ok before
channels_read (suc count) place before octets =
    behind_journal (channel_read place before octets) (λ read. channels_read count (place + read.1) read.0 (drop read.1 octets))

-- The system journal, where Y=1: its logs and its octets.
abbrev pub flagged_system : JournalHead → List ℕ → Result (List Log × ℕ) JournalFault
flagged_system head octets = if head.y then system_read 3 [] octets else Ok ([], 0)

-- How many channel journals there are: none where A=0, whatever TOTCHAN is.
abbrev pub channel_count : JournalHead → ℕ
channel_count head = if head.a then head.totchan + 1 else 0

-- the logs behind the header
abbrev pub logs_read : JournalHead → List ℕ → Result (List Log) JournalFault
logs_read head octets =
    behind_journal (flagged_system head octets) (λ read. channels_read (channel_count head) (3 + read.1) read.0 (drop read.1 octets))

abbrev pub reported : JournalHead → Result (List Log) JournalFault → Result Report JournalFault
reported head (Err f) = Err f
reported head (Ok logs) = Ok (record { checkpoint = head.checkpoint; logs = logs })

-- S Y A H TOTCHAN(4), checkpoint(16), the system journal, the channel journals. H is not looked at, and what stands behind
-- the last journal is passed over.
unfoldable pub journal_read : List ℕ → Result Report JournalFault
journal_read (first ∷ high ∷ low ∷ rest) =
    let head = journal_fields (first ∷ high ∷ low ∷ []) in reported head (logs_read head rest)
journal_read _ = Err (Short 0)
