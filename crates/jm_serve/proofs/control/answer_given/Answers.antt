use Rattle.std.proofs.Common.{Option, ◌∙◌, ap}
use Rattle.jm_edge.specs.declared.Addr.{Addr}
use Rattle.jm_serve.specs.Acts.{Scene}
use Rattle.jm_serve.specs.declared.message_calls.Told.TheVariants as told
use Rattle.jm_serve.specs.Messages.{message_in}
use Rattle.jm_serve.specs.Rounds.{letter_of}
use Rattle.jm_serve.proofs.Telling.{answers_none, unread, was_read, answers_told}
use Rattle.jm_serve.proofs.control.answer_given.Goals as goal

pub returns-in-None-clause-answers : goal.returns-in-None-clause-answers
returns-in-None-clause-answers g c =
    let here : Scene = record { pass = c.args.pass.now; wire = g.P.Port.wire c.args.port.now; call = c.args.call.now; faults = c.args.faults.now } in
    answers_none c.args.desk.now (letter_of c.args.from c.args.octets.now) c.args.now here (ap (λ (k : Option Addr). message_in (letter_of k c.args.octets.now)) c.in-None.is)

pub returns-in-Err-clause-answers : goal.returns-in-Err-clause-answers
returns-in-Err-clause-answers g c =
    let here : Scene = record { pass = c.args.pass.now; wire = g.P.Port.wire c.args.port.now; call = c.args.call.now; faults = c.args.faults.now } in
    answers_none c.args.desk.now (letter_of c.args.from c.args.octets.now) c.args.now here
    (ap (λ (k : Option Addr). message_in (letter_of k c.args.octets.now)) c.in-Some.is ∙ unread c.in-Some.from c.args.octets.now c.in-Err._fault c.in-Err.ensures.exact)

pub returns-in-Done-clause-answers : goal.returns-in-Done-clause-answers
returns-in-Done-clause-answers g c =
    answers_told c.args.desk.now (letter_of c.args.from c.args.octets.now) c.in-Some.from c.in-Ok.message c.args.now (told.Done c.in-Done._act) _ _
    (ap (λ (k : Option Addr). message_in (letter_of k c.args.octets.now)) c.in-Some.is ∙ was_read c.in-Some.from c.args.octets.now c.in-Ok.message c.in-Ok.ensures.exact) c.in-Done.ensures.tells

pub returns-in-RecordFull-clause-answers : goal.returns-in-RecordFull-clause-answers
returns-in-RecordFull-clause-answers g c =
    answers_told c.args.desk.now (letter_of c.args.from c.args.octets.now) c.in-Some.from c.in-Ok.message c.args.now told.RecordFull _ _
    (ap (λ (k : Option Addr). message_in (letter_of k c.args.octets.now)) c.in-Some.is ∙ was_read c.in-Some.from c.args.octets.now c.in-Ok.message c.in-Ok.ensures.exact) c.in-RecordFull.ensures.tells

pub returns-in-NoMemory-clause-answers : goal.returns-in-NoMemory-clause-answers
returns-in-NoMemory-clause-answers g c =
    answers_told c.args.desk.now (letter_of c.args.from c.args.octets.now) c.in-Some.from c.in-Ok.message c.args.now told.NoMemory _ _
    (ap (λ (k : Option Addr). message_in (letter_of k c.args.octets.now)) c.in-Some.is ∙ was_read c.in-Some.from c.args.octets.now c.in-Ok.message c.in-Ok.ensures.exact) c.in-NoMemory.ensures.tells
