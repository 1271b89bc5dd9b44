use Rattle.std.proofs.Common.{◌≡◌, ◌+◌, ◌-◌, ◌*◌, ◌≤◌}
use Rattle.jm_reader.specs.Journal.{channels_read}
use Rattle.jm_reader.proofs.journal.read_channels.Given as goal

abbrev pub invariant-loop : goal.invariant-loop
invariant-loop l = record {
  gives : channels_read (l.count - l.counter) l.at l.logs l.rest ≡ channels_read l.count l.place l.fn.logs l.octets;
  near : l.at ≤ 1026 + 1023 * l.counter;
}
