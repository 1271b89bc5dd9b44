use Rattle.std.proofs.Common.{◌≡◌}
use Rattle.std.specs.List.{list_any}
use Rattle.jm_journal.specs.Channel.{channel_fresh}
use Rattle.jm_journal.specs.Journal.{channels, channels_from}
use Rattle.jm_journal.proofs.channels.has_fresh.Given as goal

abbrev pub invariant-loop-number : goal.invariant-loop-number
invariant-loop-number l =
    list_any (channel_fresh l.span.checkpoint l.span.packet l.list) (channels_from l.number)
    ≡ list_any (channel_fresh l.span.checkpoint l.span.packet l.list) channels
