use Rattle.std.proofs.Common.{sym, ◌∙◌}
use Rattle.ch_sysex.specs.ChapterLaws.{fresh_here, fresh_later}
use Rattle.ch_sysex.proofs.x.is_any_fresh.Goals as goal

pub returns-then-is_fresh_log : goal.returns-then-is_fresh_log
returns-then-is_fresh_log c =
    sym (fresh_here c.args.checkpoint c.args.packet c.is_fresh_log.result c.coded_event-event.result c.in-Some.place.now c.loop-place.rest.now c.in-Some.later.now c.in-Some.ensures c.coded_event-event.ensures c.is_fresh_log.ensures c.if-is_fresh_log.true)
    ∙ c.loop-place.invariant

pub loop-place-preserved : goal.loop-place-preserved
loop-place-preserved c =
    sym (fresh_later c.args.checkpoint c.args.packet c.is_fresh_log.result c.coded_event-event.result c.in-Some.place.now c.loop-place.rest.now c.in-Some.later.now c.in-Some.ensures c.coded_event-event.ensures c.is_fresh_log.ensures c.if-is_fresh_log.false)
    ∙ c.loop-place.invariant
