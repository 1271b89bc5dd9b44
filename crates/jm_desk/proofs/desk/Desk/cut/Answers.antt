use Rattle.std.proofs.Common.{ap}
use Rattle.jm_book.specs.declared.steps.Step.TheVariants as step
use Rattle.jm_desk.specs.declared.turn.Outcome.TheVariants as outcome
use Rattle.jm_desk.specs.Sharing.{MakesTurn}
use Rattle.jm_desk.specs.SharingLaws.{call_stands, call_makes, call_steps}
use Rattle.jm_desk.proofs.desk.Desk.cut.Goals as goal

pub end-requires-clause-stands : goal.end-requires-clause-stands
end-requires-clause-stands g c =
    let a = c.cut_with_addresses-answer in
    call_stands c.args.self.now c.pass.inside.pass c.begin.new.pass c.in_ok-held.held record { book = a.new.book } (step.Cut c.args.tick) c.of-call.result.value (outcome.Cut a.result) c.of-call.ensures c.in_ok-held.ensures.came.0 (ap (λ x. outcome.Cut x) a.ensures.answer) a.ensures.taken

pub returns-clause-turn : goal.returns-clause-turn
returns-clause-turn g c =
    let a = c.cut_with_addresses-answer in
    let makes : MakesTurn c.args.self.now c.pass.inside.pass c.end.new.pass (step.Cut c.args.tick) (outcome.Cut a.result) =
    call_makes c.args.self.now c.pass.inside.pass c.begin.new.pass c.end.new.pass c.in_ok-held.held record { book = a.new.book } (step.Cut c.args.tick) c.of-call.result.value (outcome.Cut a.result) c.of-call.ensures c.in_ok-held.ensures.came.0 (ap (λ x. outcome.Cut x) a.ensures.answer) a.ensures.taken c.end.ensures.given in
    rw (c.end.ensures.answer, ← c.pass.view_is) makes

pub returns-clause-packet : goal.returns-clause-packet
returns-clause-packet g c = λ is.
    let h = c.in_ok-held.ensures.came.0 in
    let steps = call_steps c.args.self.now c.pass.inside.pass c.begin.new.pass c.end.new.pass c.in_ok-held.held _ h c.end.ensures.given in
    let sent = rw c.end.ensures.answer at is in
    rw (h.stands.config, steps) at (c.cut_with_addresses-answer.ensures.packet sent)

pub returns-clause-addresses : goal.returns-clause-addresses
returns-clause-addresses g c = λ is.
    let h = c.in_ok-held.ensures.came.0 in
    let steps = call_steps c.args.self.now c.pass.inside.pass c.begin.new.pass c.end.new.pass c.in_ok-held.held _ h c.end.ensures.given in
    let sent = rw c.end.ensures.answer at is in
    rw (h.stands.config, steps) at (c.cut_with_addresses-answer.ensures.addresses sent)
