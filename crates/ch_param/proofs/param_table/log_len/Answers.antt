use Rattle.std.proofs.Common.{◌+◌, eqb}
use Rattle.jm_cmds.specs.Sent.{s_of}
use Rattle.ch_param.proofs.param_table.log_len.Goals as goal

pub returns-clause-number : goal.returns-clause-number
returns-clause-number c = λ packet.
    let number = c.len.ensures.number (s_of (eqb (c.args.row.now.packet + 1) packet)) in
    rw c.log_of.ensures at number
