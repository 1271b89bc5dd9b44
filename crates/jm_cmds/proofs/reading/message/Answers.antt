use Rattle.std.proofs.Common.{arith}
use Rattle.jm_cmds.specs.DataLaws.{IsSysex-front}
use Rattle.jm_cmds.proofs.reading.message.Goals as goal

pub of-requires : goal.of-requires
of-requires c =
    IsSysex-front c.args.rest.now c.data_len-len.result c.data_len-len.ensures.number (omega arith) (omega arith)
