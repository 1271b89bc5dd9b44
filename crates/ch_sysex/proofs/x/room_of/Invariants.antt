use Rattle.std.proofs.Common.{◌≡◌, ◌+◌, ◌-◌, ◌^◌, ◌≤◌, length, min}
use Rattle.std.specs.Prelude.{sum_by, count_by}
use Rattle.ch_sysex.specs.ChapterX.{coded_sysex, has_log, log_len}
use Rattle.ch_sysex.proofs.x.room_of.Given as goal

abbrev pub invariant-loop-place : goal.invariant-loop-place
invariant-loop-place l =
    (l.logs + count_by has_log (coded_sysex l.checkpoint l.rest) ≡ count_by has_log (coded_sysex l.checkpoint l.places))
    × (min (l.octets + sum_by log_len (coded_sysex l.checkpoint l.rest)) (2 ^ 64 - 1) ≡ min (sum_by log_len (coded_sysex l.checkpoint l.places)) (2 ^ 64 - 1))
    × (l.logs + length l.rest ≤ length l.places)
    × (l.octets ≤ 2 ^ 64 - 1)

abbrev pub decreases-loop-place : goal.decreases-loop-place
decreases-loop-place l = length l.rest
