use Rattle.std.proofs.Common.{◌≡◌, ◌+◌, ◌*◌, ◌≤◌, drop}
use Rattle.ch_sysex.specs.SysexTable.{AreShort, kept_octets, logs_in}
use Rattle.ch_sysex.proofs.kept.octets_of.Given as goal

abbrev pub invariant-loop-message : goal.invariant-loop-message
invariant-loop-message l =
    AreShort (drop l.message-index l.messages)
    × (l.octets + kept_octets (logs_in (drop l.message-index l.messages)) ≡ kept_octets (logs_in l.messages))
    × (l.octets ≤ 256 * l.message-index)
