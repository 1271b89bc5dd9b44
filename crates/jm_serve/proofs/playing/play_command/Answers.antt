use Rattle.std.proofs.Common.{◌≡◌, ℕ, refl, subst, arith}
use Rattle.jm_serve.specs.Acts.{Scene}
use Rattle.jm_serve.specs.Playing.{pace_of, scene_of, PlaysLast}
use Rattle.jm_serve.proofs.Joins.{goes_on-then}
use Rattle.jm_serve.proofs.Retrying.{retries_none, retries_more, plays_ended}
use Rattle.jm_serve.proofs.playing.play_command.Goals as goal

pub loop-cut-init : goal.loop-cut-init
loop-cut-init g c = record {
  own = c.requires.own;
  rest = refl;
  room = c.requires.room;
  retried = retries_none c.args.desk.now c.args.player c.args.command.now c.args.now (pace_of c.args.sender.now) (scene_of c.args.pass.now (g.P.Port.wire c.args.port.now) c.args.sender.now);
}

pub returns-in-Some-clause-plays : goal.returns-in-Some-clause-plays
returns-in-Some-clause-plays g c =
    let start : Scene = scene_of c.args.pass.now (g.P.Port.wire c.args.port.now) c.args.sender.now in
    let middle : Scene = scene_of c.loop-cut.pass (g.P.Port.wire c.loop-cut.port) c.loop-cut.sender in
    let now : Scene = scene_of c.try_once.new.pass (g.P.Port.wire c.try_once.new.port) c.try_once.new.sender in
    plays_ended c.args.desk.now c.args.player c.args.command.now c.args.now c.loop-cut._cut c.in-Some.course (pace_of c.args.sender.now) (pace_of c.loop-cut.sender) (pace_of c.try_once.new.sender) start middle now
    (omega (arith, c.loop-cut-test.true)) c.loop-cut.invariant.retried (c.in-Some.ensures.tries c.loop-cut._cut (omega (arith, c.loop-cut-test.true)))

pub loop-cut-preserved : goal.loop-cut-preserved
loop-cut-preserved g c =
    let start : Scene = scene_of c.args.pass.now (g.P.Port.wire c.args.port.now) c.args.sender.now in
    let middle : Scene = scene_of c.loop-cut.pass (g.P.Port.wire c.loop-cut.port) c.loop-cut.sender in
    let now : Scene = scene_of c.try_once.new.pass (g.P.Port.wire c.try_once.new.port) c.try_once.new.sender in
    record {
      own = c.in-None.ensures.own;
      rest = goes_on-then c.args.pass.now c.loop-cut.pass c.try_once.new.pass c.loop-cut.invariant.rest c.in-None.ensures.rest;
      room = c.in-None.ensures.room;
      retried = retries_more c.args.desk.now c.args.player c.args.command.now c.args.now c.loop-cut._cut (pace_of c.args.sender.now) (pace_of c.loop-cut.sender) (pace_of c.try_once.new.sender) start middle now
          c.loop-cut.invariant.retried c.in-None.ensures.tries;
    }

pub returns-clause-plays : goal.returns-clause-plays
returns-clause-plays g c =
    let start : Scene = scene_of c.args.pass.now (g.P.Port.wire c.args.port.now) c.args.sender.now in
    let middle : Scene = scene_of c.loop-cut.pass (g.P.Port.wire c.loop-cut.port) c.loop-cut.sender in
    let now : Scene = scene_of c.play_last.new.pass (g.P.Port.wire c.play_last.new.port) c.play_last.new.sender in
    let all : 34 ≡ c.loop-cut._cut = omega (arith, c.loop-cut-test.false, c.loop-cut.auto._cut-end) in
    plays_ended c.args.desk.now c.args.player c.args.command.now c.args.now c.loop-cut._cut c.play_last.result (pace_of c.args.sender.now) (pace_of c.loop-cut.sender) (pace_of c.play_last.new.sender) start middle now
    (omega (arith, c.loop-cut.auto._cut-end)) c.loop-cut.invariant.retried
    (subst (λ (k : ℕ). PlaysLast c.args.desk.now c.args.player c.args.command.now c.args.now k c.play_last.result (pace_of c.loop-cut.sender) (pace_of c.play_last.new.sender) middle now) all c.play_last.ensures.ends)
