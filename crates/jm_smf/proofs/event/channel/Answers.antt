use Rattle.std.proofs.Common.{arith}
use Rattle.jm_smf.proofs.Bounds.{read_within}
use Rattle.jm_smf.proofs.event.channel.Goals as goal

pub returns-in_ok-one-in-Ok-clause-bound : goal.returns-in_ok-one-in-Ok-clause-bound
returns-in_ok-one-in-Ok-clause-bound c =
    let w = read_within c.args.text.now c.in-Ok.command c.in-Ok.used c.in-Ok.ensures.answer in
    omega (arith, c.saturating_sub.ensures)
