use Rattle.std.proofs.Common.{◌%◌, Ok, Err, refl}
use Rattle.jm_book.specs.declared.answers.Heard.TheVariants as heard
use Rattle.jm_serve.specs.Acts.{Scene}
use Rattle.jm_serve.specs.Playing.{pace_of, scene_of}
use Rattle.jm_serve.proofs.Hearing.{hears_unplayed, hears_played}
use Rattle.jm_serve.proofs.listening.hear_packet.Goals as goal

pub returns-in-Err-clause-hears : goal.returns-in-Err-clause-hears
returns-in-Err-clause-hears g c =
    let start : Scene = scene_of c.args.pass.now (g.P.Port.wire c.args.port.now) c.args.sender.now in
    let middle : Scene = record { pass = c.hear_once.new.pass; wire = g.P.Port.wire c.args.port.now; call = c.hear_once.new.call; faults = c.args.sender.now.send_faults } in
    hears_unplayed c.args.desk.now c.args.came.now c.args.now (c.args.came.now.took.number % 65536) (Err c.in-Err._none) (pace_of c.args.sender.now) start middle refl refl (c.in-Err.ensures.hears) refl refl

pub returns-in-UnknownSsrc-clause-hears : goal.returns-in-UnknownSsrc-clause-hears
returns-in-UnknownSsrc-clause-hears g c =
    let start : Scene = scene_of c.args.pass.now (g.P.Port.wire c.args.port.now) c.args.sender.now in
    let middle : Scene = record { pass = c.hear_once.new.pass; wire = g.P.Port.wire c.args.port.now; call = c.hear_once.new.call; faults = c.args.sender.now.send_faults } in
    hears_unplayed c.args.desk.now c.args.came.now c.args.now (c.args.came.now.took.number % 65536) (Ok heard.UnknownSsrc) (pace_of c.args.sender.now) start middle refl refl (rw c.in-UnknownSsrc.is at c.in-Ok.ensures.hears) refl refl

pub returns-in-RecordFull-clause-hears : goal.returns-in-RecordFull-clause-hears
returns-in-RecordFull-clause-hears g c =
    let start : Scene = scene_of c.args.pass.now (g.P.Port.wire c.args.port.now) c.args.sender.now in
    let middle : Scene = record { pass = c.hear_once.new.pass; wire = g.P.Port.wire c.args.port.now; call = c.hear_once.new.call; faults = c.args.sender.now.send_faults } in
    hears_unplayed c.args.desk.now c.args.came.now c.args.now (c.args.came.now.took.number % 65536) (Ok (heard.RecordFull c.in-RecordFull._events)) (pace_of c.args.sender.now) start middle refl refl (rw c.in-RecordFull.is at c.in-Ok.ensures.hears) refl refl

pub returns-in-Noted-clause-hears : goal.returns-in-Noted-clause-hears
returns-in-Noted-clause-hears g c =
    let start : Scene = scene_of c.args.pass.now (g.P.Port.wire c.args.port.now) c.args.sender.now in
    let middle : Scene = record { pass = c.hear_once.new.pass; wire = g.P.Port.wire c.args.port.now; call = c.hear_once.new.call; faults = c.args.sender.now.send_faults } in
    let now : Scene = scene_of c.play_each.new.pass (g.P.Port.wire c.play_each.new.port) c.play_each.new.sender in
    hears_played c.args.desk.now c.args.came.now c.args.now (c.args.came.now.took.number % 65536) c.play_each.result (pace_of c.args.sender.now) (pace_of c.play_each.new.sender) start middle now refl (rw c.in-Noted.is at c.in-Ok.ensures.hears) refl refl
    (rw c.as_slice.ensures at c.play_each.ensures.plays)
