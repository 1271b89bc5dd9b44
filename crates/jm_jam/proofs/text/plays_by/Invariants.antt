use Rattle.std.proofs.Common.{◌≡◌, ◌+◌, ◌≤◌, drop}
use Rattle.jm_jam.specs.Summary.{plays_by}
use Rattle.jm_jam.proofs.text.plays_by.Given as goal

abbrev pub invariant-loop-step : goal.invariant-loop-step
invariant-loop-step l =
    (l.count + plays_by l.player (drop l.step-index l.tape) ≡ plays_by l.player l.tape)
    × (l.count ≤ l.step-index)
