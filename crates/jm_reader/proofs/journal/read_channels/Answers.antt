use Rattle.std.proofs.Common.{arith}
use Rattle.std.proofs.lemmas.Result.{err_from_is_err_and}
use Rattle.jm_reader.proofs.ChannelJournals.{goes_on, fails_here, all_read}
use Rattle.jm_reader.proofs.journal.read_channels.Goals as goal

pub returns-in_err-size : goal.returns-in_err-size
returns-in_err-size c =
    let p = err_from_is_err_and c.from_residual.result c.from_residual.ensures.1 in
    rw (p.1, p.2) (fails_here c.in_err-size.field-0.0 _ _ _ _ _ _ _ c.loop-test.true c.in_err-size.ensures.value c.loop.invariant.gives)

pub loop-preserved : goal.loop-preserved
loop-preserved c = record {
  gives = rw c.behind-rest.ensures (goes_on _ _ _ _ _ _ _ _ c.loop-test.true c.in_ok-size.ensures.value c.loop.invariant.gives);
  near = omega (arith, c.in_ok-size.ensures.used);
}

pub returns : goal.returns
returns c = all_read _ _ _ _ _ _ c.loop-test.false c.loop.invariant.gives
