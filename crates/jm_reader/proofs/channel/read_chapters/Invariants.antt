use Rattle.std.proofs.Common.{◌≡◌, ◌+◌, ◌≤◌, ◌^◌, drop, length}
use Rattle.jm_reader.specs.ChannelJournal.{chapters_read}
use Rattle.jm_reader.proofs.channel.read_chapters.Given as goal

abbrev pub invariant-loop-which : goal.invariant-loop-which
invariant-loop-which l = record {
  near : l.at + length l.rest ≤ 2 ^ 32;
  so_far : chapters_read l.head (drop l.which-index l.chapters) l.at l.logs l.rest
      ≡ chapters_read l.head l.chapters l.place l.initial.logs l.octets;
}
