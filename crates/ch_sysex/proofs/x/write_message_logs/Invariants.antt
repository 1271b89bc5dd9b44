use Rattle.std.proofs.Common.{◌+◌, ◌≤◌, length}
use Rattle.std.specs.List.{flat_map}
use Rattle.jm_wire.specs.Octets.{Owes}
use Rattle.ch_sysex.specs.ChapterX.{sysex_log, coded_counted}
use Rattle.ch_sysex.proofs.x.write_message_logs.Given as goal

abbrev pub invariant-loop-place : goal.invariant-loop-place
invariant-loop-place l =
    Owes l.initial.out l.out
    (flat_map (sysex_log l.packet) (coded_counted l.checkpoint 0 l.places))
    (flat_map (sysex_log l.packet) (coded_counted l.checkpoint l.count l.rest))
    × (l.count + length l.rest ≤ length l.places)

abbrev pub decreases-loop-place : goal.decreases-loop-place
decreases-loop-place l = length l.rest
