use Rattle.std.proofs.Common.{◌∙◌, sym, ap}
use Rattle.jm_book.specs.declared.steps.Step.TheVariants as step
use Rattle.jm_desk.specs.declared.turn.Outcome.TheVariants as outcome
use Rattle.jm_desk.specs.Sharing.{MakesTurn}
use Rattle.jm_desk.specs.SharingLaws.{call_stands, call_makes}
use Rattle.jm_desk.proofs.desk.Desk.play.Goals as goal

pub end-requires-clause-stands : goal.end-requires-clause-stands
end-requires-clause-stands g c =
    let a = c.play-answer in
    let told = c.play_call-call.ensures.call ∙ ap (λ x. step.Play c.args.player x c.args.tick) (sym c.play_call-call.ensures.same) in
    call_stands c.args.self.now c.pass.inside.pass c.begin.new.pass c.in-Ok.held record { book = a.new.self } (step.Play c.args.player c.play_call-call.result.1 c.args.tick) c.play_call-call.result.0.value (outcome.Played a.result) told c.in-Ok.ensures.came.0 (ap (λ x. outcome.Played x) a.ensures.answer) a.ensures.taken

pub returns-clause-turn : goal.returns-clause-turn
returns-clause-turn g c =
    let a = c.play-answer in
    let told = c.play_call-call.ensures.call ∙ ap (λ x. step.Play c.args.player x c.args.tick) (sym c.play_call-call.ensures.same) in
    let makes : MakesTurn c.args.self.now c.pass.inside.pass c.end.new.pass (step.Play c.args.player c.play_call-call.result.1 c.args.tick) (outcome.Played a.result) =
    call_makes c.args.self.now c.pass.inside.pass c.begin.new.pass c.end.new.pass c.in-Ok.held record { book = a.new.self } (step.Play c.args.player c.play_call-call.result.1 c.args.tick) c.play_call-call.result.0.value (outcome.Played a.result) told c.in-Ok.ensures.came.0 (ap (λ x. outcome.Played x) a.ensures.answer) a.ensures.taken c.end.ensures.given in
    rw (c.end.ensures.answer, ← c.pass.view_is, ← c.play_call-call.ensures.same) makes
