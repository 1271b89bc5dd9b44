use Rattle.std.proofs.Common.{ℕ, ◌≡◌, ◌+◌, ◌*◌, ◌≤◌, ◌<◌, length}
use Rattle.std.specs.List.{flat_map}
use Rattle.jm_journal.specs.Channel.{channel_journal}
use Rattle.jm_journal.specs.Journal.{channels, channels_from}
use Rattle.jm_journal.proofs.channels.channels_len.Given as goal

abbrev pub invariant-loop-number : goal.invariant-loop-number
invariant-loop-number l = record {
  whole : l.len + length (flat_map (channel_journal l.span.checkpoint l.span.packet l.span.tick l.list) (channels_from l.number))
      ≡ length (flat_map (channel_journal l.span.checkpoint l.span.packet l.span.tick l.list) channels);
  few : l.len ≤ 998 * l.number;
  each : (channel : ℕ) → channel < l.number → length (channel_journal l.span.checkpoint l.span.packet l.span.tick l.list channel) ≤ 998;
}
