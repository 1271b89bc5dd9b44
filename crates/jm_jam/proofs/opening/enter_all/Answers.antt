use Rattle.std.proofs.Common.{[], ◌∷◌}
use Rattle.jm_book.specs.declared.steps.Step.TheVariants as step
use Rattle.jm_desk.specs.declared.turn.Outcome.TheVariants as outcome
use Rattle.jm_desk.specs.History.{turned}
use Rattle.jm_jam.specs.Whole.{enter_turns, Enters}
use Rattle.jm_jam.proofs.Adding.{adds_call, not_done}
use Rattle.jm_jam.proofs.OpeningTurns.{entering_more}
use Rattle.jm_jam.proofs.opening.enter_all.Goals as goal

pub returns-in-Err-clause-worked : goal.returns-in-Err-clause-worked
returns-in-Err-clause-worked g c =
    let entering = c.loop-entered.invariant.entering in
    not_done (Enters c.args.count) (enter_turns entering.answers) (turned step.Enter outcome.NoMemory ∷ []) c.args.pass.now c.loop-entered.pass c.enter.new.pass entering.adds
    (adds_call c.args.desk.now c.loop-entered.pass c.enter.new.pass step.Enter outcome.NoMemory c.in-Err.ensures.turn)

pub loop-entered-preserved : goal.loop-entered-preserved
loop-entered-preserved g c =
    let answer = c.in-Ok._turn.answer in
    record {
      own = c.in-Ok.ensures.own;
      entering = entering_more c.loop-entered._entered answer c.args.pass.now c.loop-entered.pass c.enter.new.pass c.loop-entered.invariant.entering
          (adds_call c.args.desk.now c.loop-entered.pass c.enter.new.pass step.Enter (outcome.Entered answer) c.in-Ok.ensures.turn);
    }
