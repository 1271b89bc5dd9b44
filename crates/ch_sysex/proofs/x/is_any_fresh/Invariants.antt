use Rattle.std.proofs.Common.{◌≡◌, length}
use Rattle.std.specs.List.{list_any}
use Rattle.ch_sysex.specs.ChapterX.{coded_sysex, is_fresh_log}
use Rattle.ch_sysex.proofs.x.is_any_fresh.Given as goal

abbrev pub invariant-loop-place : goal.invariant-loop-place
invariant-loop-place l =
    list_any (is_fresh_log l.packet) (coded_sysex l.checkpoint l.rest) ≡ list_any (is_fresh_log l.packet) (coded_sysex l.checkpoint l.places)

abbrev pub decreases-loop-place : goal.decreases-loop-place
decreases-loop-place l = length l.rest
