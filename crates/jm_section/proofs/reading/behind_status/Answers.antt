use Rattle.std.proofs.Common.{◌+◌, length, arith}
use Rattle.jm_section.proofs.Bounds.{read_within}
use Rattle.jm_section.proofs.reading.behind_status.Goals as goal

pub returns-then-b-eq1-clause-bound : goal.returns-then-b-eq1-clause-bound
returns-then-b-eq1-clause-bound c = read_within _ (length c.args.b.now + 1) c.read_command.result c.read_command.ensures.answer (omega arith)

pub returns-clause-bound : goal.returns-clause-bound
returns-clause-bound c = read_within _ (length c.args.b.now + 1) c.read_command-2.result c.read_command-2.ensures.answer (omega arith)
