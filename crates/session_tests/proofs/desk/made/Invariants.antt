use Rattle.std.proofs.Common.{◌≡◌}
use Rattle.jm_desk.specs.Sharing.{IsOf}
use Rattle.session_tests.proofs.desk.made.Given as goal

abbrev pub invariant-loop-line : goal.invariant-loop-line
invariant-loop-line g l =
    IsOf l.fn.desk l.pass × (l.pass.view.kind ≡ l.initial.pass.view.kind) × (l.pass.view.out ≡ l.initial.pass.view.out)
