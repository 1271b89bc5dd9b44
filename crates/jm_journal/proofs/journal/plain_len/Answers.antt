use Rattle.std.proofs.Common.{arith}
use Rattle.jm_journal.specs.Journal.{journal_length}
use Rattle.jm_journal.proofs.journal.plain_len.Goals as goal

pub returns-clause-number : goal.returns-clause-number
returns-clause-number c =
    omega (arith, journal_length c.args.checkpoint c.args.packet c.args.tick c.args.list.now, c.system_len.ensures.value, c.channels_len.ensures.value)
