use Rattle.jm_wire.specs.Octets.{joined}
use Rattle.jm_journal.specs.System.{system_chapters}
use Rattle.jm_journal.proofs.system.write_chapters.Goals as goal

pub returns : goal.returns
unfolding system_chapters
returns c =
    joined (joined (joined (joined c.plain_write.ensures c.plain_write-2.ensures) c.plain_write-3.ensures) c.plain_write-4.ensures) c.plain_write-5.ensures
