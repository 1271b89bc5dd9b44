use Rattle.std.proofs.Common.{arith}
use Rattle.jm_serve.proofs.Joins.{posts_gone, posts_lost}
use Rattle.jm_serve.proofs.sending.send_one.Goals as goal

pub returns-in-Gone : goal.returns-in-Gone
returns-in-Gone g c = record {
  posts = posts_gone c.args.to c.args.octets.now c.args.faults.now (g.P.Port.wire c.args.port.now) (g.P.Port.wire c.send.new.self) c.in-Gone.ensures.sends;
}

pub returns-in-Failed : goal.returns-in-Failed
returns-in-Failed g c = record {
  posts = posts_lost c.args.to c.args.octets.now c.args.faults.now c.saturating_add.result (g.P.Port.wire c.args.port.now) (g.P.Port.wire c.send.new.self) (omega (arith, c.saturating_add.ensures)) c.in-Failed.ensures.sends;
}
