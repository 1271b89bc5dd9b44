use Rattle.jm_book.specs.declared.lists.FeedbackEntry.{FeedbackEntry}
use Rattle.jm_serve.proofs.Telling.{reports_step}
use Rattle.jm_serve.proofs.message_calls.send_reports.Goals as goal

pub loop-entry-preserved : goal.loop-entry-preserved
loop-entry-preserved g c =
    let nothing : FeedbackEntry = record { to = record { host = 0; port = 0 }; seq = 0 } in
    record {
      room = c.post.ensures.room;
      posts = reports_step c.args.ssrc c.args.entries.now c.loop-entry.entry-index nothing c.args.faults.now c.loop-entry.faults c.post.new.faults (g.P.Port.wire c.args.port.now) (g.P.Port.wire c.loop-entry.port) (g.P.Port.wire c.post.new.port) c.loop-entry-test.true c.loop-entry.invariant.posts c.post.ensures.posts;
    }
