use Rattle.std.proofs.Common.{◌≡◌, ◌+◌, ◌≤◌, drop}
use Rattle.jm_book.specs.Plays.{play_count}
use Rattle.jm_jam.proofs.text.play_count.Given as goal

abbrev pub invariant-loop-step : goal.invariant-loop-step
invariant-loop-step l =
    (l.count + play_count (drop l.step-index l.tape) ≡ play_count l.tape)
    × (l.count ≤ l.step-index)
