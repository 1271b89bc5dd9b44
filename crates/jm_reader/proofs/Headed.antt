-- A channel journal from its header and what stands inside.
use Rattle.std.proofs.Common.{◌≡◌, ℕ, ◌+◌, ◌-◌, List, Ok, Err, take, drop, sym, ap, ◌∙◌}
use Rattle.jm_wire.specs.declared.heads.ChannelHead.{ChannelHead}
use Rattle.jm_cmds.specs.declared.outcome.ReadError.{ReadError}
use Rattle.jm_cmds.specs.declared.outcome.ReadError.TheVariants as errors
use Rattle.jm_reader.specs.declared.faults.JournalFault.{JournalFault}
use Rattle.jm_reader.specs.declared.logs.Log.{Log}
use Rattle.jm_reader.specs.Chapter.{Reads, Leaves, with_size}
use Rattle.jm_reader.specs.ChannelJournal.{channel_read, behind_head, head_read, inside_read}

headed : (place : ℕ) (before : List Log) (octets : List ℕ) (head : ChannelHead) → Ok head ≡ head_read place octets →
    channel_read place before octets ≡ with_size head.length (inside_read head (place + 3) before (take (head.length - 3) (drop 3 octets)))
unfolding channel_read
headed place before octets head h = ap (behind_head place before octets) (sym h)

pub journal_read : (place : ℕ) (before after : List Log) (octets : List ℕ) (head : ChannelHead) → Ok head ≡ head_read place octets →
    inside_read head (place + 3) before (take (head.length - 3) (drop 3 octets)) ≡ Ok after →
    channel_read place before octets ≡ Ok (after, head.length)
journal_read place before after octets head h i = headed place before octets head h ∙ ap (with_size head.length) i

pub journal_refused : (place : ℕ) (before after : List Log) (octets : List ℕ) (head : ChannelHead) (error : ReadError JournalFault) →
    Ok head ≡ head_read place octets →
    Leaves {A = Unit {0}} (Err error) after (inside_read head (place + 3) before (take (head.length - 3) (drop 3 octets))) →
    Reads (Err error) after (channel_read place before octets)
journal_refused place before after octets head errors.Memory h i = tt
journal_refused place before after octets head (errors.Fault f) h i = headed place before octets head h ∙ ap (with_size head.length) i
