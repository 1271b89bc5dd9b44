use Rattle.jm_desk.specs.Sharing.{IsOf}
use Rattle.jm_jam.specs.Parting.{Entering}
use Rattle.jm_jam.proofs.opening.enter_all.Given as goal

abbrev pub invariant-loop-entered : goal.invariant-loop-entered
invariant-loop-entered g l = record {
  own : IsOf l.desk l.pass;
  entering : Entering l._entered l.initial.pass l.pass;
}
