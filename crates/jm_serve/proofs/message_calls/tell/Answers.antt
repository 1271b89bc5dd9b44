use Rattle.std.proofs.Common.{Ok, Err}
use Rattle.jm_book.specs.declared.answers.Said.TheVariants as said
use Rattle.jm_serve.proofs.Joins.{posts_nothing}
use Rattle.jm_serve.proofs.Telling.{tells}
use Rattle.jm_serve.proofs.message_calls.tell.Goals as goal

pub returns-in-Err-clause-tells : goal.returns-in-Err-clause-tells
returns-in-Err-clause-tells g c =
    let wire = g.P.Port.wire c.args.port.now in
    tells c.args.desk.now c.args.kind c.args.from c.args.message.now c.args.now (Err c.in-Err._none) c.args.pass.now c.say_once.new.pass wire wire c.args.call.now c.say_once.new.call c.args.faults.now c.args.faults.now
    c.in-Err.ensures.says (posts_nothing c.args.faults.now wire)

pub returns-in-RecordFull-clause-tells : goal.returns-in-RecordFull-clause-tells
returns-in-RecordFull-clause-tells g c =
    let wire = g.P.Port.wire c.args.port.now in
    tells c.args.desk.now c.args.kind c.args.from c.args.message.now c.args.now (Ok (said.RecordFull c.in-RecordFull._events)) c.args.pass.now c.say_once.new.pass wire wire c.args.call.now c.say_once.new.call c.args.faults.now c.args.faults.now
    (rw c.in-RecordFull.is at c.in-Ok.ensures.says) (posts_nothing c.args.faults.now wire)

pub returns-in-Done-clause-tells : goal.returns-in-Done-clause-tells
returns-in-Done-clause-tells g c =
    tells c.args.desk.now c.args.kind c.args.from c.args.message.now c.args.now (Ok (said.Done c.in-Done.message c.in-Done.act)) c.args.pass.now c.say_once.new.pass (g.P.Port.wire c.args.port.now) (g.P.Port.wire c.reply.new.port) c.args.call.now c.say_once.new.call c.args.faults.now c.reply.new.faults
    (rw c.in-Done.is at c.in-Ok.ensures.says) c.reply.ensures.posts
