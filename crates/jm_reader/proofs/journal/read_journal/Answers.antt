use Rattle.std.proofs.Common.{arith}
use Rattle.jm_reader.proofs.JournalBounds.{given_within}
use Rattle.jm_reader.proofs.journal.read_journal.Goals as goal

pub returns-clause-within : goal.returns-clause-within
returns-clause-within c = given_within c.args.b.now c.journal_at.result c.journal_at.ensures (λ i. omega (arith, c.type_inv.b i))
