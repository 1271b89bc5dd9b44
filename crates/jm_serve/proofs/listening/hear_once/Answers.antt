use Rattle.std.proofs.Common.{Ok, Err, refl}
use Rattle.jm_book.specs.declared.answers.Heard.TheVariants as heard
use Rattle.jm_serve.proofs.Hearing.{hears_once}
use Rattle.jm_serve.proofs.listening.hear_once.Goals as goal

pub returns-in-Err-clause-hears : goal.returns-in-Err-clause-hears
returns-in-Err-clause-hears g c =
    hears_once c.args.desk.now c.args.ssrc c.args.number (Err c.in-Err.none) c.args.pass.now c.hear-came.new.pass c.args.call.now _ c.in-Err.ensures.turn refl

pub returns-in-Noted-clause-hears : goal.returns-in-Noted-clause-hears
returns-in-Noted-clause-hears g c =
    hears_once c.args.desk.now c.args.ssrc c.args.number (Ok heard.Noted) c.args.pass.now c.hear-came.new.pass c.args.call.now _ (rw c.in-Noted.is at c.in-Ok.ensures.turn) refl

pub returns-in-UnknownSsrc-clause-hears : goal.returns-in-UnknownSsrc-clause-hears
returns-in-UnknownSsrc-clause-hears g c =
    hears_once c.args.desk.now c.args.ssrc c.args.number (Ok heard.UnknownSsrc) c.args.pass.now c.hear-came.new.pass c.args.call.now _ (rw c.in-UnknownSsrc.is at c.in-Ok.ensures.turn) refl

pub returns-in-RecordFull-clause-hears : goal.returns-in-RecordFull-clause-hears
returns-in-RecordFull-clause-hears g c =
    hears_once c.args.desk.now c.args.ssrc c.args.number (Ok (heard.RecordFull c.in-RecordFull.events)) c.args.pass.now c.hear-came.new.pass c.args.call.now _ (rw c.in-RecordFull.is at c.in-Ok.ensures.turn) refl
