use Rattle.std.proofs.Common.{[], ◌∷◌, refl}
use Rattle.jm_book.specs.declared.steps.Step.TheVariants as step
use Rattle.jm_desk.specs.declared.turn.Outcome.TheVariants as outcome
use Rattle.jm_desk.specs.History.{turned}
use Rattle.jm_jam.specs.Whole.{join_turn, JoinsBoth}
use Rattle.jm_jam.proofs.Adding.{adds_none, adds_call, adds_then, not_done}
use Rattle.jm_jam.proofs.opening.join_both.Goals as goal

pub returns-in-Err-clause-worked : goal.returns-in-Err-clause-worked
returns-in-Err-clause-worked g c =
    not_done JoinsBoth [] (turned (step.Join 1) outcome.NoMemory ∷ []) c.args.pass.now c.args.pass.now c.join.new.pass (adds_none c.args.pass.now)
    (adds_call c.args.desk.now c.args.pass.now c.join.new.pass (step.Join 1) outcome.NoMemory c.in-Err.ensures.turn)

pub returns-in-Err-join-clause-worked : goal.returns-in-Err-join-clause-worked
returns-in-Err-join-clause-worked g c =
    let answer = c.in-Ok._turn.answer in
    not_done JoinsBoth (join_turn 1 answer ∷ []) (turned (step.Join 2) outcome.NoMemory ∷ []) c.args.pass.now c.join.new.pass c.join-in-Ok.new.pass
    (adds_call c.args.desk.now c.args.pass.now c.join.new.pass (step.Join 1) (outcome.Joined answer) c.in-Ok.ensures.turn)
    (adds_call c.args.desk.now c.join.new.pass c.join-in-Ok.new.pass (step.Join 2) outcome.NoMemory c.in-Err-join.ensures.turn)

pub returns-in-Ok-join-clause-worked : goal.returns-in-Ok-join-clause-worked
returns-in-Ok-join-clause-worked g c =
    let first = c.in-Ok._turn.answer in
    let second = c.in-Ok-join._second.answer in
    record {
      turns = join_turn 1 first ∷ join_turn 2 second ∷ [];
      adds = adds_then (join_turn 1 first ∷ []) (join_turn 2 second ∷ []) c.args.pass.now c.join.new.pass c.join-in-Ok.new.pass
          (adds_call c.args.desk.now c.args.pass.now c.join.new.pass (step.Join 1) (outcome.Joined first) c.in-Ok.ensures.turn)
          (adds_call c.args.desk.now c.join.new.pass c.join-in-Ok.new.pass (step.Join 2) (outcome.Joined second) c.in-Ok-join.ensures.turn);
      did = λ _. record { first = first; second = second; turns_are = refl };
    }
