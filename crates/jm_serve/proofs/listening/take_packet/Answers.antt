use Rattle.jm_serve.specs.Playing.{pace_of, scene_of}
use Rattle.jm_serve.proofs.Hearing.{takes_nothing, takes_starved, takes_taken}
use Rattle.jm_serve.proofs.listening.take_packet.Goals as goal

pub returns-in-Err-clause-takes : goal.returns-in-Err-clause-takes
returns-in-Err-clause-takes g c =
    takes_starved c.args.desk.now c.args.octets.now c.args.now c.in-Err._none c.args.listener.now.receivers c.take.new.self (pace_of c.args.listener.now.sender)
    (scene_of c.args.pass.now (g.P.Port.wire c.args.port.now) c.args.listener.now.sender) c.in-Err.ensures.takes

pub returns-in-None-clause-takes : goal.returns-in-None-clause-takes
returns-in-None-clause-takes g c =
    takes_nothing c.args.desk.now c.args.octets.now c.args.now c.args.listener.now.receivers c.take.new.self (pace_of c.args.listener.now.sender)
    (scene_of c.args.pass.now (g.P.Port.wire c.args.port.now) c.args.listener.now.sender) (rw c.in-None.is at c.in-Ok.ensures.takes)

pub returns-in-Some-clause-takes : goal.returns-in-Some-clause-takes
returns-in-Some-clause-takes g c =
    takes_taken c.args.desk.now c.args.octets.now c.args.now c.in-Some.came c.hear_packet-course.result c.settle.result c.args.listener.now.receivers c.take.new.self c.settle.new.receivers (pace_of c.args.listener.now.sender) (pace_of c.hear_packet-course.new.sender)
    (scene_of c.args.pass.now (g.P.Port.wire c.args.port.now) c.args.listener.now.sender) (scene_of c.hear_packet-course.new.pass (g.P.Port.wire c.hear_packet-course.new.port) c.hear_packet-course.new.sender)
    (rw c.in-Some.is at c.in-Ok.ensures.takes) c.hear_packet-course.ensures.hears c.settle.ensures.came c.settle.ensures.slots
