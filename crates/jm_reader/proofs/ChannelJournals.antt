-- Reading channel journals one after the other, as a loop does.
use Rattle.std.proofs.Common.{◌≡◌, ℕ, suc, ◌+◌, ◌-◌, ◌<◌, ◌≤◌, List, drop, Result, Ok, sym, arith}
use Rattle.jm_cmds.specs.declared.outcome.ReadError.{ReadError}
use Rattle.jm_cmds.specs.declared.outcome.ReadError.TheVariants as errors
use Rattle.jm_reader.specs.declared.faults.JournalFault.{JournalFault}
use Rattle.jm_reader.specs.declared.logs.Log.{Log}
use Rattle.jm_reader.specs.Chapter.{Reads, Leaves}
use Rattle.jm_reader.specs.ChannelJournal.{channel_read}
use Rattle.jm_reader.specs.ChapterLaws.{failed, left_failed}
use Rattle.jm_reader.specs.Journal.{behind_journal, channels_read}

-- what is meant of the next journal and of those behind it
meant_of : (n i at : ℕ) (logs : List Log) (rest : List ℕ) (meant : Result (List Log) JournalFault) → i < n
    → channels_read (n - i) at logs rest ≡ meant
    → behind_journal (channel_read at logs rest) (λ read. channels_read (n - (i + 1)) (at + read.1) read.0 (drop read.1 rest)) ≡ meant
unfolding channels_read
meant_of n i at logs rest meant lt e =
    let k : n - i ≡ suc (n - (i + 1)) = omega arith in
    rw k at e

pub goes_on : (n i at size : ℕ) (logs after : List Log) (rest : List ℕ) (meant : Result (List Log) JournalFault) → i < n
    → channel_read at logs rest ≡ Ok (after, size) → channels_read (n - i) at logs rest ≡ meant
    → channels_read (n - (i + 1)) (at + size) after (drop size rest) ≡ meant
goes_on n i at size logs after rest meant lt read e = rw read at (meant_of n i at logs rest meant lt e)

pub fails_here : (e : ReadError JournalFault) (n i at : ℕ) (logs after : List Log) (rest : List ℕ) (meant : Result (List Log) JournalFault) → i < n
    → Reads (failed e) after (channel_read at logs rest) → channels_read (n - i) at logs rest ≡ meant → Leaves (left_failed e) after meant
fails_here errors.Memory n i at logs after rest meant lt read e = tt
fails_here (errors.Fault f) n i at logs after rest meant lt read e = sym (rw read at (meant_of n i at logs rest meant lt e))

pub all_read : (n i at : ℕ) (logs : List Log) (rest : List ℕ) (meant : Result (List Log) JournalFault) → n ≤ i
    → channels_read (n - i) at logs rest ≡ meant → meant ≡ Ok logs
unfolding channels_read
all_read n i at logs rest meant le e =
    let k : n - i ≡ 0 = omega arith in
    sym (rw k at e)
