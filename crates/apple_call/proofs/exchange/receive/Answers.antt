use Rattle.std.proofs.Common.{take, Some, ap}
use Rattle.jm_edge.specs.Wire.{Letter}
use Rattle.apple_msg.specs.declared.message.Message.{Message}
use Rattle.apple_msg.specs.declared.message.MsgFault.{MsgFault}
use Rattle.std.specs.declared.result.Result.{Result}
use Rattle.apple_call.specs.Turns.{said}
use Rattle.jm_edge.specs.ExchangeLaws.{takes_one}
use Rattle.apple_call.proofs.exchange.receive.Goals as goal

pub returns-in-Ok-clause-ok : goal.returns-in-Ok-clause-ok
returns-in-Ok-clause-ok g c =
    let letter : Letter = record { addr = c.in-Got.from; octets = take c.in-Got.len c.recv.new.buf } in
    record {
      given = Some letter;
      says = ap (λ (r : Result Message MsgFault). said c.in-Got.from r) c.in-Ok.ensures.exact;
      exchanges = takes_one c.in-Got.len c.in-Got.from c.recv.new.buf (g.P.Port.wire c.args.port.now) (g.P.Port.wire c.recv.new.self) c.in-Got.ensures.receives;
    }

pub returns-in-Err-clause-ok : goal.returns-in-Err-clause-ok
returns-in-Err-clause-ok g c =
    let letter : Letter = record { addr = c.in-Got.from; octets = take c.in-Got.len c.recv.new.buf } in
    record {
      given = Some letter;
      says = ap (λ (r : Result Message MsgFault). said c.in-Got.from r) c.in-Err.ensures.exact;
      exchanges = takes_one c.in-Got.len c.in-Got.from c.recv.new.buf (g.P.Port.wire c.args.port.now) (g.P.Port.wire c.recv.new.self) c.in-Got.ensures.receives;
    }
