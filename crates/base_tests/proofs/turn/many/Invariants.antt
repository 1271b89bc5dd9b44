use Rattle.std.proofs.Common.{◌≡◌}
use Rattle.jm_turn.specs.declared.view.Stage.TheVariants.{Idle}
use Rattle.base_tests.proofs.turn.many.Given as goal

abbrev pub invariant-loop : goal.invariant-loop
invariant-loop g l =
    (l.pass.table ≡ l.fn.pass.table) × (l.pass.view.stage ≡ Idle) × (l.pass.view.kind ≡ l.fn.pass.view.kind) × (l.pass.view.out ≡ l.fn.pass.view.out)
