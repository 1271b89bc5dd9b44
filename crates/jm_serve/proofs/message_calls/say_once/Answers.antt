use Rattle.std.proofs.Common.{Ok, Err, refl}
use Rattle.jm_book.specs.declared.answers.Said.TheVariants as said
use Rattle.jm_serve.proofs.Telling.{says_once}
use Rattle.jm_serve.proofs.message_calls.say_once.Goals as goal

pub returns-in-Err-clause-says : goal.returns-in-Err-clause-says
returns-in-Err-clause-says g c =
    says_once c.args.desk.now c.args.kind c.args.from c.args.message.now c.args.now (Err c.in-Err.none) c.args.pass.now c.say-came.new.pass c.args.call.now _ c.in-Err.ensures.turn refl

pub returns-in-RecordFull-clause-says : goal.returns-in-RecordFull-clause-says
returns-in-RecordFull-clause-says g c =
    says_once c.args.desk.now c.args.kind c.args.from c.args.message.now c.args.now (Ok (said.RecordFull c.in-RecordFull.events)) c.args.pass.now c.say-came.new.pass c.args.call.now _ (rw c.in-RecordFull.is at c.in-Ok.ensures.turn) refl

pub returns-in-Done-clause-says : goal.returns-in-Done-clause-says
returns-in-Done-clause-says g c =
    says_once c.args.desk.now c.args.kind c.args.from c.args.message.now c.args.now (Ok (said.Done c.in-Done.message c.in-Done.act)) c.args.pass.now c.say-came.new.pass c.args.call.now _ (rw c.in-Done.is at c.in-Ok.ensures.turn) refl
