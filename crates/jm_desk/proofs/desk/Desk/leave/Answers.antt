use Rattle.std.proofs.Common.{ap}
use Rattle.jm_book.specs.declared.steps.Step.TheVariants as step
use Rattle.jm_desk.specs.declared.turn.Outcome.TheVariants as outcome
use Rattle.jm_desk.specs.Sharing.{MakesTurn}
use Rattle.jm_desk.specs.SharingLaws.{call_stands, call_makes}
use Rattle.jm_desk.proofs.desk.Desk.leave.Goals as goal

pub end-requires-clause-stands : goal.end-requires-clause-stands
end-requires-clause-stands g c =
    let a = c.leave-answer in
    call_stands c.args.self.now c.pass.inside.pass c.begin.new.pass c.in_ok-held.held record { book = a.new.self } (step.Leave c.args.ssrc) c.of-call.result.value (outcome.Gone a.result) c.of-call.ensures c.in_ok-held.ensures.came.0 (ap (λ x. outcome.Gone x) a.ensures.answer) a.ensures.taken

pub returns-clause-turn : goal.returns-clause-turn
returns-clause-turn g c =
    let a = c.leave-answer in
    let makes : MakesTurn c.args.self.now c.pass.inside.pass c.end.new.pass (step.Leave c.args.ssrc) (outcome.Gone a.result) =
    call_makes c.args.self.now c.pass.inside.pass c.begin.new.pass c.end.new.pass c.in_ok-held.held record { book = a.new.self } (step.Leave c.args.ssrc) c.of-call.result.value (outcome.Gone a.result) c.of-call.ensures c.in_ok-held.ensures.came.0 (ap (λ x. outcome.Gone x) a.ensures.answer) a.ensures.taken c.end.ensures.given in
    rw (c.end.ensures.answer, ← c.pass.view_is) makes
