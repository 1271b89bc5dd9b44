use Rattle.std.proofs.Common.{Option, [], subst}
use Rattle.jm_edge.specs.declared.Addr.{Addr}
use Rattle.apple_msg.specs.declared.message.Message.{Message}
use Rattle.apple_session.specs.declared.answer.PortKind.TheVariants.{Ctl, Rtp}
use Rattle.apple_call.specs.Turns.{hearing, Does}
use Rattle.apple_call.proofs.Joins.{turn_made, turn_control_broke, turn_data_broke}
use Rattle.apple_call.proofs.turns.take_turn.Goals as goal

pub returns-in-Err-clause-comes : goal.returns-in-Err-clause-comes
returns-in-Err-clause-comes g c =
    turn_control_broke c.now-now.result c.tick-first.result c.args.to c.args.inviter.now c.tick-first.new.inviter
    (g.P.Port.wire c.args.control.now) (g.P.Port.wire c.tick-first.new.control) (g.P.Port.wire c.receive.new.port)
    (g.P.Port.wire c.args.data_port.now) (g.P.Port.wire c.tick-first.new.data_port)
    (g.C.Ticker.coming c.args.clock.now) (g.C.Ticker.coming c.now-now.new.self)
    c.now-now.ensures.ticks c.tick-first.ensures.does c.in-Err.ensures.err

pub returns-in-Err-receive-clause-comes : goal.returns-in-Err-receive-clause-comes
returns-in-Err-receive-clause-comes g c =
    let took = c.in-Ok.ensures.ok in
    turn_data_broke c.now-now.result took.given c.tick-first.result c.hear-second.result c.args.to c.args.inviter.now c.tick-first.new.inviter c.hear-second.new.inviter
    (g.P.Port.wire c.args.control.now) (g.P.Port.wire c.tick-first.new.control) (g.P.Port.wire c.receive.new.port) (g.P.Port.wire c.hear-second.new.control)
    (g.P.Port.wire c.args.data_port.now) (g.P.Port.wire c.tick-first.new.data_port) (g.P.Port.wire c.hear-second.new.data_port) (g.P.Port.wire c.receive-2.new.port)
    (g.C.Ticker.coming c.args.clock.now) (g.C.Ticker.coming c.now-now.new.self)
    c.now-now.ensures.ticks c.tick-first.ensures.does took.exchanges
    (subst (λ (k : Option (Addr × Message)). Does (hearing Ctl k c.now-now.result) [] [] c.hear-second.result c.args.to c.tick-first.new.inviter c.hear-second.new.inviter (g.P.Port.wire c.receive.new.port) (g.P.Port.wire c.hear-second.new.control) (g.P.Port.wire c.tick-first.new.data_port) (g.P.Port.wire c.hear-second.new.data_port)) took.says c.hear-second.ensures.does)
    c.in-Err-receive.ensures.err

pub returns-clause-comes : goal.returns-clause-comes
returns-clause-comes g c =
    let took = c.in-Ok.ensures.ok in
    let heard = c.in-Ok-receive.ensures.ok in
    turn_made c.now-now.result took.given heard.given c.tick-first.result c.hear-second.result c.hear-third.result c.args.to c.args.inviter.now c.tick-first.new.inviter c.hear-second.new.inviter c.hear-third.new.inviter
    (g.P.Port.wire c.args.control.now) (g.P.Port.wire c.tick-first.new.control) (g.P.Port.wire c.receive.new.port) (g.P.Port.wire c.hear-second.new.control) (g.P.Port.wire c.hear-third.new.control)
    (g.P.Port.wire c.args.data_port.now) (g.P.Port.wire c.tick-first.new.data_port) (g.P.Port.wire c.hear-second.new.data_port) (g.P.Port.wire c.receive-2.new.port) (g.P.Port.wire c.hear-third.new.data_port)
    (g.C.Ticker.coming c.args.clock.now) (g.C.Ticker.coming c.now-now.new.self)
    c.now-now.ensures.ticks c.tick-first.ensures.does took.exchanges
    (subst (λ (k : Option (Addr × Message)). Does (hearing Ctl k c.now-now.result) [] [] c.hear-second.result c.args.to c.tick-first.new.inviter c.hear-second.new.inviter (g.P.Port.wire c.receive.new.port) (g.P.Port.wire c.hear-second.new.control) (g.P.Port.wire c.tick-first.new.data_port) (g.P.Port.wire c.hear-second.new.data_port)) took.says c.hear-second.ensures.does)
    heard.exchanges
    (subst (λ (k : Option (Addr × Message)). Does (hearing Rtp k c.now-now.result) [] [] c.hear-third.result c.args.to c.hear-second.new.inviter c.hear-third.new.inviter (g.P.Port.wire c.hear-second.new.control) (g.P.Port.wire c.hear-third.new.control) (g.P.Port.wire c.receive-2.new.port) (g.P.Port.wire c.hear-third.new.data_port)) heard.says c.hear-third.ensures.does)
