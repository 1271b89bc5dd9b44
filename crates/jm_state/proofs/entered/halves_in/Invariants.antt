use Rattle.std.proofs.Common.{◌≡◌, drop}
use Rattle.jm_state.specs.Entered.{halves_in}
use Rattle.jm_state.proofs.entered.halves_in.Given as goal

abbrev pub invariant-loop-entry : goal.invariant-loop-entry
invariant-loop-entry l = halves_in (drop l.entry-index l.entries) l.param ≡ halves_in l.entries l.param
