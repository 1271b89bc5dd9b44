use Rattle.std.proofs.Common.{◌≡◌, ◌+◌, ◌≤◌, drop}
use Rattle.ch_control.specs.ControlEvent.{control_count}
use Rattle.ch_control.proofs.events.count_of.Given as goal

abbrev pub invariant-loop-place : goal.invariant-loop-place
invariant-loop-place l =
    (l.count + control_count l.channel l.number (drop l.place-index l.session) ≡ control_count l.channel l.number l.session)
    × (l.count ≤ l.place-index)
