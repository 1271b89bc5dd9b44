use Rattle.std.proofs.Common.{◌≡◌, drop}
use Rattle.jm_state.specs.Entered.{agrees}
use Rattle.jm_state.proofs.entered.agrees.Given as goal

abbrev pub invariant-loop-entry : goal.invariant-loop-entry
invariant-loop-entry l = agrees l.ours l.theirs (drop l.entry-index l.entries) ≡ agrees l.ours l.theirs l.entries
