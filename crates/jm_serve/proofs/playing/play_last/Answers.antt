use Rattle.std.proofs.Common.{refl}
use Rattle.jm_serve.specs.Playing.{pace_of, scene_of}
use Rattle.jm_serve.proofs.Retrying.{ends_last}
use Rattle.jm_serve.proofs.playing.play_last.Goals as goal

pub returns-clause-ends : goal.returns-clause-ends
returns-clause-ends g c =
    ends_last c.args.desk.now c.args.player c.args.command.now c.args.now c.play_once-what.new.call c.play_once-what.result c.course_of.result (pace_of c.args.sender.now) (pace_of c.owe.new.sender)
    (scene_of c.args.pass.now (g.P.Port.wire c.args.port.now) c.args.sender.now) (scene_of c.play_once-what.new.pass (g.P.Port.wire c.args.port.now) c.owe.new.sender)
    c.play_once-what.ensures.plays c.course_of.ensures c.owe.ensures.owed c.owe.ensures.call refl c.owe.ensures.faults
