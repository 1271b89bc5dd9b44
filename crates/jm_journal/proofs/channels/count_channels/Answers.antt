use Rattle.std.proofs.Common.{arith}
use Rattle.std.proofs.lemmas.Bool.Decides.{nat_tests}
use Rattle.jm_journal.specs.Journal.{count_more, channels_from_none}
use Rattle.jm_journal.proofs.channels.count_channels.Goals as goal

pub loop-number-preserved : goal.loop-number-preserved
loop-number-preserved c =
    let span = c.args.span in
    let more = count_more span.checkpoint span.packet span.tick c.args.list.now c.loop-number.number (omega arith) in
    grind (arith, nat_tests, more)

pub returns-clause-value : goal.returns-clause-value
returns-clause-value c =
    let all = rw (channels_from_none c.loop-number.number (omega arith)) at c.loop-number.invariant.sum in
    omega (arith, all)
