use Rattle.std.proofs.Common.{◌≡◌}
use Rattle.jm_desk.specs.Sharing.{IsOf}
use Rattle.session_tests.proofs.desk.play_notes.Given as goal

abbrev pub invariant-loop-note : goal.invariant-loop-note
invariant-loop-note g l =
    IsOf l.desk l.pass × (l.pass.view.kind ≡ l.fn.pass.view.kind) × (l.pass.view.out ≡ l.fn.pass.view.out)
