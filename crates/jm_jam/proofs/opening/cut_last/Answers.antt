use Rattle.std.proofs.Common.{◌≡◌, ◌*◌, [], ◌∷◌, refl, arith}
use Rattle.jm_book.specs.declared.steps.Step.TheVariants as step
use Rattle.jm_desk.specs.declared.turn.Outcome.TheVariants as outcome
use Rattle.jm_desk.specs.History.{turned}
use Rattle.jm_jam.specs.Made.{tick_at}
use Rattle.jm_jam.specs.Workers.{cut_turn}
use Rattle.jm_jam.specs.Whole.{CutsLast}
use Rattle.jm_jam.proofs.Adding.{adds_none, adds_call, not_done, cut_adds}
use Rattle.jm_jam.proofs.opening.cut_last.Goals as goal

pub returns-in-Err-clause-worked : goal.returns-in-Err-clause-worked
returns-in-Err-clause-worked g c =
    let call = step.Cut (10 * c.from.result) in
    not_done (CutsLast c.args.count) [] (turned call outcome.NoMemory ∷ []) c.args.pass.now c.args.pass.now c.cut.new.pass (adds_none c.args.pass.now)
    (adds_call c.args.desk.now c.args.pass.now c.cut.new.pass call outcome.NoMemory c.in-Err.ensures.turn)

pub returns-clause-worked : goal.returns-clause-worked
returns-clause-worked g c =
    let answer = c.in-Ok-cut._turn.answer in
    let same : 10 * c.from.result ≡ tick_at c.args.count = omega (arith, c.from.ensures) in
    record {
      turns = cut_turn (tick_at c.args.count) answer ∷ [];
      adds = cut_adds c.args.desk.now c.args.pass.now c.cut.new.pass (tick_at c.args.count) (10 * c.from.result) answer c.in-Ok-cut.ensures.turn same;
      did = λ _. record { answer = answer; turns_are = refl };
    }
