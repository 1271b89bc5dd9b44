use Rattle.std.proofs.Common.{length}
use Rattle.jm_cmds.specs.History.{InOrder}
use Rattle.jm_cmds.specs.Sent.{packet_of}
use Rattle.jm_cmds.proofs.history.in_order.Given as goal

abbrev pub invariant-loop-place : goal.invariant-loop-place
invariant-loop-place l =
    (InOrder packet_of l.rest → InOrder packet_of l.list) × (InOrder packet_of l.list → InOrder packet_of l.rest)

abbrev pub decreases-loop-place : goal.decreases-loop-place
decreases-loop-place l = length l.rest
