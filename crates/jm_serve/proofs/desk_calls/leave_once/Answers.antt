use Rattle.std.proofs.Common.{refl}
use Rattle.jm_book.specs.declared.steps.Step.TheVariants as step
use Rattle.jm_book.specs.declared.answers.Gone.TheVariants as gone
use Rattle.jm_desk.specs.declared.turn.Outcome.TheVariants as outcome
use Rattle.jm_desk.specs.History.{before_last}
use Rattle.jm_serve.proofs.Joins.{gains_call}
use Rattle.jm_serve.proofs.desk_calls.leave_once.Goals as goal

pub returns-in-Err-clause-leaves : goal.returns-in-Err-clause-leaves
returns-in-Err-clause-leaves g c = record {
  before = before_last c.leave-came.new.pass.view.seen;
  gains = gains_call c.args.desk.now c.args.pass.now c.leave-came.new.pass (step.Leave c.args.ssrc) outcome.NoMemory c.in-Err.ensures.turn;
  calls = refl;
}

pub returns-in-Left-clause-leaves : goal.returns-in-Left-clause-leaves
returns-in-Left-clause-leaves g c = record {
  before = before_last c.leave-came.new.pass.view.seen;
  gains = gains_call c.args.desk.now c.args.pass.now c.leave-came.new.pass (step.Leave c.args.ssrc) (outcome.Gone gone.Left) (rw c.in-Left.is at c.in-Ok.ensures.turn);
  calls = refl;
}

pub returns-in-UnknownSsrc-clause-leaves : goal.returns-in-UnknownSsrc-clause-leaves
returns-in-UnknownSsrc-clause-leaves g c = record {
  before = before_last c.leave-came.new.pass.view.seen;
  gains = gains_call c.args.desk.now c.args.pass.now c.leave-came.new.pass (step.Leave c.args.ssrc) (outcome.Gone gone.UnknownSsrc) (rw c.in-UnknownSsrc.is at c.in-Ok.ensures.turn);
  calls = refl;
}

pub returns-in-RecordFull-clause-leaves : goal.returns-in-RecordFull-clause-leaves
returns-in-RecordFull-clause-leaves g c = record {
  before = before_last c.leave-came.new.pass.view.seen;
  gains = gains_call c.args.desk.now c.args.pass.now c.leave-came.new.pass (step.Leave c.args.ssrc) (outcome.Gone (gone.RecordFull c.in-RecordFull.events)) (rw c.in-RecordFull.is at c.in-Ok.ensures.turn);
  calls = refl;
}
