use Rattle.std.proofs.Common.{drop}
use Rattle.jm_serve.proofs.Joins.{PostsOn}
use Rattle.jm_serve.proofs.sending.send_each.Given as goal

abbrev pub invariant-loop-addr : goal.invariant-loop-addr
invariant-loop-addr g l = PostsOn l.octets l.to (drop l.addr-index l.to) l.initial.faults l.faults (g.P.Port.wire l.initial.port) (g.P.Port.wire l.port)
