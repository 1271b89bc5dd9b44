use Rattle.std.proofs.Common.{◌≡◌}
use Rattle.jm_turn.specs.Turns.{Follows}
use Rattle.jm_turn.specs.Views.{saw}
use Rattle.jm_turn.proofs.turn.Turn.take.Given as goal

abbrev pub invariant-loop : goal.invariant-loop
invariant-loop g l =
    (goal.iterator-loop g).can_next l.iterator' × (goal.iterator-loop g).is_finite l.iterator'
    × (l.pass.table ≡ l.initial.pass.table) × (l.pass.seat ≡ l.initial.pass.seat) × (l.pass.view ≡ saw l.pass.view.seen l.initial.pass.view)
    × Follows l.initial.pass.view.number l.initial.pass.view.seen l.pass.view.seen
