use Rattle.std.proofs.Common.{◌≡◌, ◌*◌, [], ◌∷◌, arith}
use Rattle.jm_book.specs.declared.steps.Step.TheVariants as step
use Rattle.jm_desk.specs.declared.turn.Outcome.TheVariants as outcome
use Rattle.jm_desk.specs.History.{turned}
use Rattle.jm_jam.specs.Made.{tick_at}
use Rattle.jm_jam.specs.Workers.{Cuts, cut_turns}
use Rattle.jm_jam.proofs.Adding.{adds_call, not_done, cut_adds, cutting_more}
use Rattle.jm_jam.proofs.sender.cut_all.Goals as goal

pub returns-in-Err-clause-worked : goal.returns-in-Err-clause-worked
returns-in-Err-clause-worked g c =
    let cutting = c.loop-step.invariant.cutting in
    let call = step.Cut (10 * c.from-tick.result) in
    not_done (Cuts c.args.count) (cut_turns 0 cutting.answers) (turned call outcome.NoMemory ∷ []) c.args.pass.now c.loop-step.pass c.cut_once.new.pass cutting.adds
    (adds_call c.args.desk.now c.loop-step.pass c.cut_once.new.pass call outcome.NoMemory c.in-Err.ensures.turn)

pub loop-step-preserved : goal.loop-step-preserved
loop-step-preserved g c =
    let answer = c.in-Ok._turn.answer in
    let same : 10 * c.from-tick.result ≡ tick_at c.loop-step.step = omega (arith, c.from-tick.ensures) in
    record {
      own = c.in-Ok.ensures.own;
      room = c.in-Ok.ensures.room;
      cutting = cutting_more c.loop-step.step answer c.args.pass.now c.loop-step.pass c.cut_once.new.pass c.loop-step.invariant.cutting
          (cut_adds c.args.desk.now c.loop-step.pass c.cut_once.new.pass (tick_at c.loop-step.step) (10 * c.from-tick.result) answer c.in-Ok.ensures.turn same);
    }
