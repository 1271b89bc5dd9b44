use Rattle.std.proofs.Common.{refl, sym, subst, ◌∙◌}
use Rattle.jm_serve.specs.declared.playing.Tried.{Tried}
use Rattle.jm_serve.specs.declared.worked.Rounded.TheVariants as rounded
use Rattle.jm_serve.specs.Acts.{Scene}
use Rattle.jm_serve.specs.Playing.{pace_of, scene_of, PlaysOnce}
use Rattle.jm_serve.proofs.Retrying.{is_cut_needed, ends_settled, retried, ends_stopped}
use Rattle.jm_serve.proofs.playing.try_once.Goals as goal

pub returns-then-not-needs_cut-clause-tries : goal.returns-then-not-needs_cut-clause-tries
returns-then-not-needs_cut-clause-tries g c = λ cuts few.
    ends_settled c.args.desk.now c.args.player c.args.command.now c.args.now cuts c.play_once-what.new.call c.play_once-what.result c.course_of.result (pace_of c.args.sender.now) (pace_of c.owe.new.sender)
    (scene_of c.args.pass.now (g.P.Port.wire c.args.port.now) c.args.sender.now) (scene_of c.play_once-what.new.pass (g.P.Port.wire c.args.port.now) c.owe.new.sender)
    c.play_once-what.ensures.plays (sym c.needs_cut.ensures ∙ c.if-not-needs_cut.true) c.course_of.ensures c.owe.ensures.owed c.owe.ensures.call refl c.owe.ensures.faults

pub returns-in-Whole-clause-tries : goal.returns-in-Whole-clause-tries
returns-in-Whole-clause-tries g c =
    let here = scene_of c.args.pass.now (g.P.Port.wire c.args.port.now) c.args.sender.now in
    let middle : Scene = record { pass = c.play_once-what.new.pass; wire = g.P.Port.wire c.args.port.now; call = c.play_once-what.new.call; faults = c.args.sender.now.send_faults } in
    let there = scene_of c.cut_at_once.new.pass (g.P.Port.wire c.cut_at_once.new.port) c.cut_at_once.new.sender in
    let needs = is_cut_needed c.play_once-what.result (sym c.needs_cut.ensures ∙ c.if-not-needs_cut.false) in
    let once = subst (λ (k : Tried). PlaysOnce c.args.desk.now c.args.player c.args.command.now c.args.now k c.args.pass.now c.play_once-what.new.pass c.args.sender.now.call c.play_once-what.new.call) needs c.play_once-what.ensures.plays in
    retried c.args.desk.now c.args.player c.args.command.now c.args.now (pace_of c.args.sender.now) (pace_of c.cut_at_once.new.sender) here middle there once refl refl rounded.Whole c.in-Whole.ensures.cuts refl

pub returns-in-RecordFull-clause-tries : goal.returns-in-RecordFull-clause-tries
returns-in-RecordFull-clause-tries g c =
    let here = scene_of c.args.pass.now (g.P.Port.wire c.args.port.now) c.args.sender.now in
    let middle : Scene = record { pass = c.play_once-what.new.pass; wire = g.P.Port.wire c.args.port.now; call = c.play_once-what.new.call; faults = c.args.sender.now.send_faults } in
    let there = scene_of c.cut_at_once.new.pass (g.P.Port.wire c.cut_at_once.new.port) c.cut_at_once.new.sender in
    let needs = is_cut_needed c.play_once-what.result (sym c.needs_cut.ensures ∙ c.if-not-needs_cut.false) in
    let once = subst (λ (k : Tried). PlaysOnce c.args.desk.now c.args.player c.args.command.now c.args.now k c.args.pass.now c.play_once-what.new.pass c.args.sender.now.call c.play_once-what.new.call) needs c.play_once-what.ensures.plays in
    λ cuts few. ends_stopped c.args.desk.now c.args.player c.args.command.now c.args.now (pace_of c.args.sender.now) (pace_of c.cut_at_once.new.sender) here middle there once refl refl rounded.RecordFull c.in-RecordFull.ensures.cuts cuts few refl

pub returns-in-NoMemory-clause-tries : goal.returns-in-NoMemory-clause-tries
returns-in-NoMemory-clause-tries g c =
    let here = scene_of c.args.pass.now (g.P.Port.wire c.args.port.now) c.args.sender.now in
    let middle : Scene = record { pass = c.play_once-what.new.pass; wire = g.P.Port.wire c.args.port.now; call = c.play_once-what.new.call; faults = c.args.sender.now.send_faults } in
    let there = scene_of c.cut_at_once.new.pass (g.P.Port.wire c.cut_at_once.new.port) c.cut_at_once.new.sender in
    let needs = is_cut_needed c.play_once-what.result (sym c.needs_cut.ensures ∙ c.if-not-needs_cut.false) in
    let once = subst (λ (k : Tried). PlaysOnce c.args.desk.now c.args.player c.args.command.now c.args.now k c.args.pass.now c.play_once-what.new.pass c.args.sender.now.call c.play_once-what.new.call) needs c.play_once-what.ensures.plays in
    λ cuts few. ends_stopped c.args.desk.now c.args.player c.args.command.now c.args.now (pace_of c.args.sender.now) (pace_of c.cut_at_once.new.sender) here middle there once refl refl rounded.NoMemory c.in-NoMemory.ensures.cuts cuts few refl
