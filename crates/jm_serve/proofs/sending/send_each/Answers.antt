use Rattle.jm_edge.specs.declared.Addr.{Addr}
use Rattle.jm_serve.proofs.Joins.{posts_step}
use Rattle.jm_serve.proofs.sending.send_each.Goals as goal

pub loop-addr-preserved : goal.loop-addr-preserved
loop-addr-preserved g c =
    let nowhere : Addr = record { host = 0; port = 0 } in
    posts_step c.args.octets.now c.args.to.now c.loop-addr.addr-index nowhere c.args.faults.now c.loop-addr.faults c.send_one.new.faults (g.P.Port.wire c.args.port.now) (g.P.Port.wire c.loop-addr.port) (g.P.Port.wire c.send_one.new.port) c.loop-addr-test.true c.loop-addr.invariant c.send_one.ensures.posts
