use Rattle.std.proofs.Common.{ap, ◌∙◌, subst}
use Rattle.jm_turn.specs.Views.{saw}
use Rattle.jm_turn.specs.Steps.{Sees}
use Rattle.jm_turn.proofs.Passes.{sees_on, sees_drew}
use Rattle.jm_turn.proofs.turn.Turn.take.Goals as goal

pub loop-preserved : goal.loop-preserved
loop-preserved g c =
    let i = c.loop.invariant in
    let more = subst (λ v. Sees g.T.Told.stands v c.come.new.pass.view.seen) i.4 c.come.ensures.seen in
    let s = sees_on g.T.Told.stands c.draw-ticket.new.pass.view c.loop.pass.view.seen c.come.new.pass.view.seen i.5 more in
    (tt, tt, c.come.ensures.same.0 ∙ i.2, c.come.ensures.same.1 ∙ i.3, c.in_default.ensures.view ∙ ap (saw c.come.new.pass.view.seen) i.4, s.more)

pub returns-in-Some-come-clause-seen : goal.returns-in-Some-come-clause-seen
returns-in-Some-come-clause-seen g c =
    let i = c.loop.invariant in
    let more = subst (λ v. Sees g.T.Told.stands v c.come.new.pass.view.seen) i.4 c.come.ensures.seen in
    let s = sees_on g.T.Told.stands c.draw-ticket.new.pass.view c.loop.pass.view.seen c.come.new.pass.view.seen i.5 more in
    sees_drew g.T.Told.stands c.args.pass.now.view c.draw-ticket.new.pass.view.ticket c.come.new.pass.view.seen (subst (λ v. Sees g.T.Told.stands v c.come.new.pass.view.seen) c.draw-ticket.ensures.drew s)
