use Rattle.std.proofs.Common.{length}
use Rattle.std.proofs.lemmas.Result.{err_from_is_err_and}
use Rattle.jm_smf.proofs.Loops.{one_event, track_ended, event_failed, track_short}
use Rattle.jm_smf.proofs.track.read_track.Goals as goal

pub returns-in_err-read_event : goal.returns-in_err-read_event
returns-in_err-read_event c =
    let p = err_from_is_err_and c.from_residual.result c.from_residual.ensures.1 in
    rw (p.1, p.2) (event_failed c.in_err-read_event.field-0.0 _ _ c.loop.list.items (length c.args.b.now) c.loop.counter c.loop.at c.loop.tick c.loop.before c.loop.rest.now c.loop-test.true c.in_err-read_event.ensures.value c.loop.invariant)

pub returns-in-None : goal.returns-in-None
returns-in-None c =
    track_ended _ _ c.loop.list.items (length c.args.b.now) c.loop.counter c.loop.at c.loop.tick c.loop.before c.loop.rest.now c.loop-test.true (rw c.in-None.is at c.in_ok-read_event.ensures.value) c.loop.invariant

pub loop-preserved : goal.loop-preserved
loop-preserved c =
    let bound = rw c.in-Some.is at c.in_ok-read_event.ensures.bound in
    rw (c.in_ok-append_at-in-Some.ensures, c.behind-rest.ensures, c.from-tick.ensures)
    (one_event _ _ c.loop.list.items (length c.args.b.now) c.loop.counter c.loop.at c.loop.tick c.loop.before c.loop.rest.now c.in-Some.delta c.in-Some.heard c.loop-test.true (rw c.in-Some.is at c.in_ok-read_event.ensures.value) bound.0 bound.1 bound.2 c.loop.invariant)

pub returns : goal.returns
returns c =
    track_short _ _ c.loop.list.items (length c.args.b.now) c.loop.counter c.loop.at c.loop.tick c.loop.before c.loop.rest.now c.loop-test.false c.loop.invariant
