use Rattle.jm_section.proofs.Bounds.{command_within}
use Rattle.jm_section.proofs.reading.whole.Goals as goal

pub returns-in-Ok-clause-bound : goal.returns-in-Ok-clause-bound
returns-in-Ok-clause-bound c = command_within c.args.b.now c.in-Ok.command c.in-Ok.used c.in-Ok.ensures.answer
