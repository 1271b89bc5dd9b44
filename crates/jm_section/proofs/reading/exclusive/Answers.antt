use Rattle.std.proofs.Common.{arith}
use Rattle.jm_cmds.specs.DataLaws.{IsSysex-front}
use Rattle.jm_section.proofs.reading.exclusive.Goals as goal

pub of-requires : goal.of-requires
of-requires c =
    IsSysex-front _ c.data_len-count.result c.data_len-count.ensures.number c.data_len-count.ensures.bound (omega arith)
