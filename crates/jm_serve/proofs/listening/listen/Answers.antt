use Rattle.std.proofs.Common.{Option, sym, ap, ◌∙◌}
use Rattle.jm_edge.specs.declared.Addr.{Addr}
use Rattle.jm_edge.specs.Wire.{Letter}
use Rattle.jm_serve.specs.Messages.{message_in}
use Rattle.jm_serve.specs.Rounds.{letter_of}
use Rattle.jm_serve.specs.Playing.{pace_of, scene_of}
use Rattle.jm_serve.proofs.Telling.{unread, was_read}
use Rattle.jm_serve.proofs.Hearing.{listens_quiet, listens_message, listens_over, listens_packet}
use Rattle.jm_serve.proofs.listening.listen.Goals as goal

pub returns-in-None-clause-listens : goal.returns-in-None-clause-listens
returns-in-None-clause-listens g c =
    listens_quiet c.args.desk.now (letter_of c.args.from c.args.octets.now) c.args.now c.args.listener.now.receivers (pace_of c.args.listener.now.sender)
    (scene_of c.args.pass.now (g.P.Port.wire c.args.port.now) c.args.listener.now.sender) (ap (λ (k : Option Addr). letter_of k c.args.octets.now) c.in-None.is)

pub returns-then-not-begins_as_message-clause-listens : goal.returns-then-not-begins_as_message-clause-listens
returns-then-not-begins_as_message-clause-listens g c =
    let letter : Letter = record { addr = c.in-Some.from; octets = c.args.octets.now } in
    listens_packet c.args.desk.now (letter_of c.args.from c.args.octets.now) c.args.now letter c.take_packet.result c.args.listener.now.receivers c.take_packet.new.listener.receivers (pace_of c.args.listener.now.sender) (pace_of c.take_packet.new.listener.sender)
    (scene_of c.args.pass.now (g.P.Port.wire c.args.port.now) c.args.listener.now.sender) (scene_of c.take_packet.new.pass (g.P.Port.wire c.take_packet.new.port) c.take_packet.new.listener.sender)
    (ap (λ (k : Option Addr). letter_of k c.args.octets.now) c.in-Some.is) (sym c.begins_as_message.ensures ∙ c.if-not-begins_as_message.true) c.take_packet.ensures.takes

pub returns-in-Err-clause-listens : goal.returns-in-Err-clause-listens
returns-in-Err-clause-listens g c =
    let letter : Letter = record { addr = c.in-Some.from; octets = c.args.octets.now } in
    listens_over c.args.desk.now (letter_of c.args.from c.args.octets.now) c.args.now letter c.args.listener.now.receivers (pace_of c.args.listener.now.sender)
    (scene_of c.args.pass.now (g.P.Port.wire c.args.port.now) c.args.listener.now.sender)
    (ap (λ (k : Option Addr). letter_of k c.args.octets.now) c.in-Some.is) (sym c.begins_as_message.ensures ∙ c.if-not-begins_as_message.false)
    (ap (λ (k : Option Addr). message_in (letter_of k c.args.octets.now)) c.in-Some.is ∙ unread c.in-Some.from c.args.octets.now c.in-Err._fault c.in-Err.ensures.exact)

pub returns-in-Ok-clause-listens : goal.returns-in-Ok-clause-listens
returns-in-Ok-clause-listens g c =
    listens_message c.args.desk.now (letter_of c.args.from c.args.octets.now) c.args.now c.in-Some.from c.in-Ok.message c.take_message.result c.args.listener.now.receivers c.take_message.new.listener.receivers (pace_of c.args.listener.now.sender) (pace_of c.take_message.new.listener.sender)
    (scene_of c.args.pass.now (g.P.Port.wire c.args.port.now) c.args.listener.now.sender) (scene_of c.take_message.new.pass (g.P.Port.wire c.take_message.new.port) c.take_message.new.listener.sender)
    (ap (λ (k : Option Addr). message_in (letter_of k c.args.octets.now)) c.in-Some.is ∙ was_read c.in-Some.from c.args.octets.now c.in-Ok.message c.in-Ok.ensures.exact) c.take_message.ensures.tells c.take_message.ensures.pace
