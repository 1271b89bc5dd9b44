use Rattle.std.proofs.Common.{◌≡◌, drop}
use Rattle.std.specs.List.{fold}
use Rattle.jm_jam.specs.Summary.{after_step, state_behind}
use Rattle.jm_jam.proofs.text.state_behind.Given as goal

abbrev pub invariant-loop-step : goal.invariant-loop-step
invariant-loop-step l = fold after_step l.state (drop l.step-index l.tape) ≡ state_behind l.tape
