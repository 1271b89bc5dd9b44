use Rattle.std.proofs.Common.{◌≡◌, ◌+◌, ◌≤◌, map, sum}
use Rattle.jm_journal.specs.Journal.{journal_at, journal_count, channels_from}
use Rattle.jm_journal.proofs.channels.count_channels.Given as goal

abbrev pub invariant-loop-number : goal.invariant-loop-number
invariant-loop-number l = record {
  sum : l.count + sum (map (journal_at l.span.checkpoint l.span.packet l.span.tick l.list) (channels_from l.number)) ≡ journal_count l.span.checkpoint l.span.packet l.span.tick l.list;
  few : l.count ≤ l.number;
}
