-- The recovery journal (RFC 6295, section 5, Figure 8): its header, the system journal, and a journal for each channel
-- of which something is coded, channels ascending.
use Rattle.std.specs.Prelude.{ℕ, zero, suc, ◌≡◌, ◌<◌, ◌≤◌, ◌+◌, ◌-◌, ◌%◌, Bool, false, not, ◌||◌, List, [], ◌∷◌, ◌++◌, length, map, sum, nat_lt, if◌then◌else◌}
use Rattle.std.specs.List.{list_any, flat_map, range_with_len}
use Rattle.std.proofs.Common.{refl, arith, length-append}
use Rattle.std.proofs.lemmas.List.Sums.{sum_by-cons}
use Rattle.jm_wire.specs.declared.heads.JournalHead.{JournalHead}
use Rattle.jm_wire.specs.Heads.{journal_octets}
use Rattle.jm_cmds.specs.declared.history.Sent.{Sent}
use Rattle.jm_journal.specs.Channel.{is_there, channel_journal, channel_fresh}
use Rattle.jm_journal.specs.System.{system_journal, system_fresh}

-- the channels from this one on, ascending
unfoldable pub channels_from : (first : ℕ) → List ℕ
channels_from first = range_with_len first (16 - first)

abbrev pub channels : List ℕ
channels = channels_from 0

-- whether a channel journal is there, as a number
abbrev pub journal_at : (checkpoint packet tick : ℕ) → List Sent → (channel : ℕ) → ℕ
journal_at checkpoint packet tick sent channel = if is_there (channel_journal checkpoint packet tick sent channel) then 1 else 0

-- how many channel journals there are
abbrev pub journal_count : (checkpoint packet tick : ℕ) → List Sent → ℕ
journal_count checkpoint packet tick sent = sum (map (journal_at checkpoint packet tick sent) channels)

-- whether a log is of the packet before
abbrev pub journal_fresh : (checkpoint packet : ℕ) → List Sent → Bool
journal_fresh checkpoint packet sent = system_fresh checkpoint packet sent || list_any (channel_fresh checkpoint packet sent) channels

-- TOTCHAN is one less than the number of channel journals
unfoldable pub journal_head : (checkpoint packet tick : ℕ) → List Sent → JournalHead
journal_head checkpoint packet tick sent = record {
  s = not (journal_fresh checkpoint packet sent);
  y = is_there (system_journal checkpoint packet sent);
  a = nat_lt 0 (journal_count checkpoint packet tick sent);
  h = false;
  totchan = journal_count checkpoint packet tick sent - 1;
  checkpoint = checkpoint % 65536;
}

-- The journal of a packet: what the packets from the checkpoint on and before this one left.
unfoldable pub journal : (checkpoint packet tick : ℕ) → List Sent → List ℕ
journal checkpoint packet tick sent =
    journal_octets (journal_head checkpoint packet tick sent)
    ++ system_journal checkpoint packet sent
    ++ flat_map (channel_journal checkpoint packet tick sent) channels

-- the bounds of its parts: 1,019 octets of the system journal, 998 of each channel's
pub record HasShortParts (checkpoint packet tick : ℕ) (sent : List Sent) : Type 0 where
  pub system : length (system_journal checkpoint packet sent) ≤ 1019
  pub channel : (channel : ℕ) → channel < 16 → length (channel_journal checkpoint packet tick sent channel) ≤ 998

pub channels_from_more : (first : ℕ) → first < 16 → channels_from first ≡ first ∷ channels_from (first + 1)
unfolding channels_from
channels_from_more first few =
    let more : 16 - first ≡ suc (16 - (first + 1)) = omega arith in
    rw more refl

pub channels_from_none : (first : ℕ) → 16 ≤ first → channels_from first ≡ []
unfolding channels_from
channels_from_none first many = let none : 16 - first ≡ zero = omega arith in rw none refl

-- one more channel
pub count_more : (checkpoint packet tick : ℕ) (sent : List Sent) (first : ℕ) → first < 16 → sum (map (journal_at checkpoint packet tick sent) (channels_from first)) ≡ journal_at checkpoint packet tick sent first + sum (map (journal_at checkpoint packet tick sent) (channels_from (first + 1)))
count_more checkpoint packet tick sent first few = rw (channels_from_more first few) (sum-cons_map checkpoint packet tick sent first (channels_from (first + 1)))
  where
    sum-cons_map : (checkpoint packet tick : ℕ) (sent : List Sent) (first : ℕ) (others : List ℕ) → sum (map (journal_at checkpoint packet tick sent) (first ∷ others)) ≡ journal_at checkpoint packet tick sent first + sum (map (journal_at checkpoint packet tick sent) others)
    sum-cons_map checkpoint packet tick sent first others = sum_by-cons (λ (n : ℕ). n) (journal_at checkpoint packet tick sent first) (map (journal_at checkpoint packet tick sent) others)

pub journal_length : (checkpoint packet tick : ℕ) (sent : List Sent) → length (journal checkpoint packet tick sent) ≡ 3 + (length (system_journal checkpoint packet sent) + length (flat_map (channel_journal checkpoint packet tick sent) channels))
unfolding journal
journal_length checkpoint packet tick sent = simp length-append (omega arith)
