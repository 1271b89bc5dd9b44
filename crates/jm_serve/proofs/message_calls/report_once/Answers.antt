use Rattle.std.proofs.Common.{Ok, Err, refl}
use Rattle.jm_book.specs.declared.answers.Given.TheVariants as given
use Rattle.jm_serve.proofs.Joins.{posts_nothing}
use Rattle.jm_serve.proofs.Telling.{reports_once, reports_posts}
use Rattle.jm_serve.proofs.message_calls.report_once.Goals as goal

pub returns-in-Err-clause-reports : goal.returns-in-Err-clause-reports
returns-in-Err-clause-reports g c =
    let wire = g.P.Port.wire c.args.port.now in
    reports_once c.args.desk.now (Err c.in-Err._none) c.args.pass.now c.feedback-came.new.pass wire wire c.args.call.now _ c.args.faults.now c.args.faults.now c.in-Err.ensures.turn (posts_nothing c.args.faults.now wire) refl

pub returns-in-RecordFull-clause-reports : goal.returns-in-RecordFull-clause-reports
returns-in-RecordFull-clause-reports g c =
    let wire = g.P.Port.wire c.args.port.now in
    reports_once c.args.desk.now (Ok (given.RecordFull c.in-RecordFull._events)) c.args.pass.now c.feedback-came.new.pass wire wire c.args.call.now _ c.args.faults.now c.args.faults.now (rw c.in-RecordFull.is at c.in-Ok.ensures.turn) (posts_nothing c.args.faults.now wire) refl

pub returns-in-Given-clause-reports : goal.returns-in-Given-clause-reports
returns-in-Given-clause-reports g c =
    reports_once c.args.desk.now (Ok given.Given) c.args.pass.now c.feedback-came.new.pass (g.P.Port.wire c.args.port.now) (g.P.Port.wire c.send_reports.new.port) c.args.call.now _ c.args.faults.now c.send_reports.new.faults (rw c.in-Given.is at c.in-Ok.ensures.turn)
    (reports_posts c.args.desk.now c.ssrc.result c.as_slice.result.now _ _ _ _ _ _ c.ssrc.ensures c.as_slice.ensures (rw c.in-Given.is at c.in-Ok.ensures.list) c.send_reports.ensures.posts) refl
