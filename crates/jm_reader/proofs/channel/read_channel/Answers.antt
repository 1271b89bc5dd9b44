use Rattle.std.proofs.lemmas.Result.{err_from_is_err_and}
use Rattle.jm_reader.proofs.Headed.{journal_read, journal_refused}
use Rattle.jm_reader.proofs.channel.read_channel.Goals as goal

pub returns-in_err-read_inside-clause-value : goal.returns-in_err-read_inside-clause-value
returns-in_err-read_inside-clause-value c =
    let p = err_from_is_err_and c.from_residual.result c.from_residual.ensures.1 in
    let e = rw c.from-length.ensures at c.in_err-read_inside.ensures in
    rw (p.1, p.2) (journal_refused c.args.place c.args.logs.now c.read_inside.new.logs c.args.b.now c.in-Ok.head c.in_err-read_inside.field-0.0 c.in-Ok.ensures.value e)

pub returns-clause-value : goal.returns-clause-value
returns-clause-value c =
    let e = rw c.from-length.ensures at c.in_ok-read_inside.ensures in
    rw c.from-length.ensures (journal_read c.args.place c.args.logs.now c.read_inside.new.logs c.args.b.now c.in-Ok.head c.in-Ok.ensures.value e)
