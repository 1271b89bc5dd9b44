use Rattle.std.proofs.Common.{◌≤◌, length}
use Rattle.std.specs.List.{flat_map}
use Rattle.jm_wire.specs.Octets.{Owes}
use Rattle.jm_journal.specs.Channel.{channel_journal}
use Rattle.jm_journal.specs.Journal.{channels, channels_from}
use Rattle.jm_journal.proofs.channels.write_channels.Given as goal

abbrev pub invariant-loop-number : goal.invariant-loop-number
invariant-loop-number l = record {
  owes : Owes l.initial.out l.out (flat_map (channel_journal l.span.checkpoint l.span.packet l.span.tick l.list) channels)
      (flat_map (channel_journal l.span.checkpoint l.span.packet l.span.tick l.list) (channels_from l.number));
  room : length (flat_map (channel_journal l.span.checkpoint l.span.packet l.span.tick l.list) (channels_from l.number)) ≤ l.out.spare;
}
