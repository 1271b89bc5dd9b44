use Rattle.jm_wire.specs.Octets.{joined}
use Rattle.jm_journal.specs.Channel.{channel_chapters}
use Rattle.jm_journal.proofs.channel.write_chapters.Goals as goal

pub returns : goal.returns
unfolding channel_chapters
returns c =
    joined (joined (joined (joined (joined (joined (joined c.plain_write.ensures c.plain_write-2.ensures) c.plain_write-3.ensures)
    c.plain_write-4.ensures) c.plain_write-5.ensures) c.plain_write-6.ensures) c.plain_write-7.ensures) c.plain_write-8.ensures
