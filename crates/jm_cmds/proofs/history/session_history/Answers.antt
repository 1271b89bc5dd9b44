use Rattle.std.proofs.Common.{ltb}
use Rattle.jm_cmds.specs.HistoryLaws.{InOrder-filter}
use Rattle.jm_cmds.specs.Sent.{packet_of}
use Rattle.jm_cmds.proofs.history.session_history.Goals as goal

pub returns-clause-order : goal.returns-clause-order
returns-clause-order c =
    rw c.place_of.ensures.before (InOrder-filter packet_of (λ s. ltb (packet_of s) c.args.packet) c.args.list.now c.requires)
