use Rattle.std.proofs.Common.{◌∙◌, refl}
use Rattle.jm_serve.specs.declared.worked.Rounded.TheVariants as rounded
use Rattle.jm_serve.specs.declared.listener.Listener.{Listener}
use Rattle.jm_serve.specs.Rounds.{letter_of}
use Rattle.jm_serve.specs.Playing.{pace_of, scene_of}
use Rattle.jm_serve.proofs.Hearing.{listens_begun, round_whole, round_full, round_starved}
use Rattle.jm_serve.proofs.data.data_round.Goals as goal

pub returns-in-Whole-clause-round : goal.returns-in-Whole-clause-round
returns-in-Whole-clause-round g c =
    let listens =
    listens_begun c.args.desk.now (letter_of c.args.from c.args.octets.now) c.args.now c.args.listener.now c.begin.new.listener rounded.Whole c.listen.new.listener.receivers (pace_of c.listen.new.listener.sender) c.args.pass.now (g.P.Port.wire c.args.port.now)
    (scene_of c.listen.new.pass (g.P.Port.wire c.listen.new.port) c.listen.new.listener.sender) c.begin.ensures.pace c.begin.ensures.receivers c.begin.ensures.call c.begin.ensures.faults c.in-Whole.ensures.listens in
    let after : Listener = record { sender = c.send_what_is_due.new.sender; has_begun = c.listen.new.listener.has_begun; receivers = c.listen.new.listener.receivers } in
    round_whole c.args.desk.now (letter_of c.args.from c.args.octets.now) c.args.now c.args.listener.now c.send_what_is_due.result after (pace_of c.listen.new.listener.sender) c.listen.new.listener.receivers
    (scene_of c.args.pass.now (g.P.Port.wire c.args.port.now) c.args.listener.now.sender) (scene_of c.listen.new.pass (g.P.Port.wire c.listen.new.port) c.listen.new.listener.sender) (scene_of c.send_what_is_due.new.pass (g.P.Port.wire c.send_what_is_due.new.port) c.send_what_is_due.new.sender)
    listens c.send_what_is_due.ensures.sends refl (c.in-Whole.ensures.begun ∙ c.begin.ensures.begun)

pub returns-in-RecordFull-clause-round : goal.returns-in-RecordFull-clause-round
returns-in-RecordFull-clause-round g c =
    let listens =
    listens_begun c.args.desk.now (letter_of c.args.from c.args.octets.now) c.args.now c.args.listener.now c.begin.new.listener rounded.RecordFull c.listen.new.listener.receivers (pace_of c.listen.new.listener.sender) c.args.pass.now (g.P.Port.wire c.args.port.now)
    (scene_of c.listen.new.pass (g.P.Port.wire c.listen.new.port) c.listen.new.listener.sender) c.begin.ensures.pace c.begin.ensures.receivers c.begin.ensures.call c.begin.ensures.faults c.in-RecordFull.ensures.listens in
    round_full c.args.desk.now (letter_of c.args.from c.args.octets.now) c.args.now c.args.listener.now c.listen.new.listener
    (scene_of c.args.pass.now (g.P.Port.wire c.args.port.now) c.args.listener.now.sender) (scene_of c.listen.new.pass (g.P.Port.wire c.listen.new.port) c.listen.new.listener.sender) listens (c.in-RecordFull.ensures.begun ∙ c.begin.ensures.begun)

pub returns-in-NoMemory-clause-round : goal.returns-in-NoMemory-clause-round
returns-in-NoMemory-clause-round g c =
    let listens =
    listens_begun c.args.desk.now (letter_of c.args.from c.args.octets.now) c.args.now c.args.listener.now c.begin.new.listener rounded.NoMemory c.listen.new.listener.receivers (pace_of c.listen.new.listener.sender) c.args.pass.now (g.P.Port.wire c.args.port.now)
    (scene_of c.listen.new.pass (g.P.Port.wire c.listen.new.port) c.listen.new.listener.sender) c.begin.ensures.pace c.begin.ensures.receivers c.begin.ensures.call c.begin.ensures.faults c.in-NoMemory.ensures.listens in
    round_starved c.args.desk.now (letter_of c.args.from c.args.octets.now) c.args.now c.args.listener.now c.listen.new.listener
    (scene_of c.args.pass.now (g.P.Port.wire c.args.port.now) c.args.listener.now.sender) (scene_of c.listen.new.pass (g.P.Port.wire c.listen.new.port) c.listen.new.listener.sender) listens (c.in-NoMemory.ensures.begun ∙ c.begin.ensures.begun)
