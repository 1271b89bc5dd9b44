use Rattle.std.proofs.Common.{refl}
use Rattle.jm_serve.specs.Acts.{Scene}
use Rattle.jm_serve.specs.Playing.{pace_of, scene_of}
use Rattle.jm_serve.specs.declared.playing.Course.TheVariants as course
use Rattle.jm_serve.proofs.Joins.{goes_on-then}
use Rattle.jm_serve.proofs.Retrying.{plays_start, plays_step, plays_stop, plays_done}
use Rattle.jm_serve.proofs.playing.play_each.Goals as goal

pub loop-one-init : goal.loop-one-init
loop-one-init g c = record {
  own = c.requires.own;
  rest = refl;
  room = c.requires.room;
  plays = plays_start c.args.desk.now c.args.player c.args.now c.args.heard.now (pace_of c.args.sender.now) (scene_of c.args.pass.now (g.P.Port.wire c.args.port.now) c.args.sender.now);
}

pub returns-in-Dropped-clause-plays : goal.returns-in-Dropped-clause-plays
returns-in-Dropped-clause-plays g c =
    let start : Scene = scene_of c.args.pass.now (g.P.Port.wire c.args.port.now) c.args.sender.now in
    let middle : Scene = scene_of c.loop-one.pass (g.P.Port.wire c.loop-one.port) c.loop-one.sender in
    let now : Scene = scene_of c.play_command.new.pass (g.P.Port.wire c.play_command.new.port) c.play_command.new.sender in
    plays_stop c.args.desk.now c.args.player c.args.now c.args.heard.now c.loop-one.one-index c.one-item.result course.Dropped (pace_of c.args.sender.now) (pace_of c.loop-one.sender) (pace_of c.play_command.new.sender) start middle now c.loop-one-test.true c.one-item.is c.loop-one.invariant.plays refl c.in-Dropped.ensures.plays

pub returns-in-RecordFull-clause-plays : goal.returns-in-RecordFull-clause-plays
returns-in-RecordFull-clause-plays g c =
    let start : Scene = scene_of c.args.pass.now (g.P.Port.wire c.args.port.now) c.args.sender.now in
    let middle : Scene = scene_of c.loop-one.pass (g.P.Port.wire c.loop-one.port) c.loop-one.sender in
    let now : Scene = scene_of c.play_command.new.pass (g.P.Port.wire c.play_command.new.port) c.play_command.new.sender in
    plays_stop c.args.desk.now c.args.player c.args.now c.args.heard.now c.loop-one.one-index c.one-item.result course.RecordFull (pace_of c.args.sender.now) (pace_of c.loop-one.sender) (pace_of c.play_command.new.sender) start middle now c.loop-one-test.true c.one-item.is c.loop-one.invariant.plays refl c.in-RecordFull.ensures.plays

pub returns-in-NoMemory-clause-plays : goal.returns-in-NoMemory-clause-plays
returns-in-NoMemory-clause-plays g c =
    let start : Scene = scene_of c.args.pass.now (g.P.Port.wire c.args.port.now) c.args.sender.now in
    let middle : Scene = scene_of c.loop-one.pass (g.P.Port.wire c.loop-one.port) c.loop-one.sender in
    let now : Scene = scene_of c.play_command.new.pass (g.P.Port.wire c.play_command.new.port) c.play_command.new.sender in
    plays_stop c.args.desk.now c.args.player c.args.now c.args.heard.now c.loop-one.one-index c.one-item.result course.NoMemory (pace_of c.args.sender.now) (pace_of c.loop-one.sender) (pace_of c.play_command.new.sender) start middle now c.loop-one-test.true c.one-item.is c.loop-one.invariant.plays refl c.in-NoMemory.ensures.plays

pub loop-one-preserved : goal.loop-one-preserved
loop-one-preserved g c =
    let start : Scene = scene_of c.args.pass.now (g.P.Port.wire c.args.port.now) c.args.sender.now in
    let middle : Scene = scene_of c.loop-one.pass (g.P.Port.wire c.loop-one.port) c.loop-one.sender in
    let now : Scene = scene_of c.play_command.new.pass (g.P.Port.wire c.play_command.new.port) c.play_command.new.sender in
    record {
      own = c.in-Next.ensures.own;
      rest = goes_on-then c.args.pass.now c.loop-one.pass c.play_command.new.pass c.loop-one.invariant.rest c.in-Next.ensures.rest;
      room = c.in-Next.ensures.room;
      plays = plays_step c.args.desk.now c.args.player c.args.now c.args.heard.now c.loop-one.one-index c.one-item.result (pace_of c.args.sender.now) (pace_of c.loop-one.sender) (pace_of c.play_command.new.sender) start middle now c.loop-one-test.true c.one-item.is c.loop-one.invariant.plays c.in-Next.ensures.plays;
    }

pub returns-clause-plays : goal.returns-clause-plays
returns-clause-plays g c =
    let start : Scene = scene_of c.args.pass.now (g.P.Port.wire c.args.port.now) c.args.sender.now in
    let now : Scene = scene_of c.loop-one.pass (g.P.Port.wire c.loop-one.port) c.loop-one.sender in
    plays_done c.args.desk.now c.args.player c.args.now c.args.heard.now c.loop-one.one-index (pace_of c.args.sender.now) (pace_of c.loop-one.sender) start now c.loop-one-test.false c.loop-one.invariant.plays
