use Rattle.std.proofs.Common.{refl}
use Rattle.jm_journal.specs.Journal.{journal_head}
use Rattle.jm_journal.proofs.journal.head_of.Goals as goal

pub returns-clause-head : goal.returns-clause-head
unfolding journal_head
returns-clause-head c =
    rw (c.is_fresh.ensures, c.system_len.ensures.value, c.saturating_sub.ensures, c.count_channels-count.ensures.value) refl
