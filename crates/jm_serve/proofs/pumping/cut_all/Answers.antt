use Rattle.std.proofs.Common.{◌≡◌, ℕ, Ok, Err, refl, subst, arith}
use Rattle.jm_serve.specs.Acts.{Scene}
use Rattle.jm_serve.specs.Pump.{Ended}
use Rattle.jm_serve.proofs.Joins.{goes_on-then}
use Rattle.jm_serve.proofs.Departing.{departs_none, departs_more, cuts_ended}
use Rattle.jm_serve.proofs.pumping.cut_all.Goals as goal

pub loop-departed-init : goal.loop-departed-init
loop-departed-init g c = record {
  own = c.requires.own;
  rest = refl;
  room = c.requires.room;
  departed = departs_none c.args.desk.now c.args.now (record { pass = c.args.pass.now; wire = g.P.Port.wire c.args.port.now; call = c.args.call.now; faults = c.args.faults.now });
}

pub returns-in-Err-clause-cuts : goal.returns-in-Err-clause-cuts
returns-in-Err-clause-cuts g c =
    let start : Scene = record { pass = c.args.pass.now; wire = g.P.Port.wire c.args.port.now; call = c.args.call.now; faults = c.args.faults.now } in
    let middle : Scene = record { pass = c.loop-departed.pass; wire = g.P.Port.wire c.loop-departed.port; call = c.loop-departed.call; faults = c.loop-departed.faults } in
    let now : Scene = record { pass = c.part_once.new.pass; wire = g.P.Port.wire c.part_once.new.port; call = c.part_once.new.call; faults = c.part_once.new.faults } in
    cuts_ended c.args.desk.now c.args.now c.loop-departed._departed (Err c.in-Err.none) start middle now c.loop-departed.invariant.departed (omega (arith, c.loop-departed-test.true)) (c.in-Err.ensures.parts c.loop-departed._departed (omega (arith, c.loop-departed-test.true)))

pub returns-in-Some-clause-cuts : goal.returns-in-Some-clause-cuts
returns-in-Some-clause-cuts g c =
    let start : Scene = record { pass = c.args.pass.now; wire = g.P.Port.wire c.args.port.now; call = c.args.call.now; faults = c.args.faults.now } in
    let middle : Scene = record { pass = c.loop-departed.pass; wire = g.P.Port.wire c.loop-departed.port; call = c.loop-departed.call; faults = c.loop-departed.faults } in
    let now : Scene = record { pass = c.part_once.new.pass; wire = g.P.Port.wire c.part_once.new.port; call = c.part_once.new.call; faults = c.part_once.new.faults } in
    cuts_ended c.args.desk.now c.args.now c.loop-departed._departed (Ok c.in-Some.pumped) start middle now c.loop-departed.invariant.departed (omega (arith, c.loop-departed-test.true)) ((rw c.in-Some.is at c.in-Ok.ensures.parts) c.loop-departed._departed (omega (arith, c.loop-departed-test.true)))

pub loop-departed-preserved : goal.loop-departed-preserved
loop-departed-preserved g c =
    let start : Scene = record { pass = c.args.pass.now; wire = g.P.Port.wire c.args.port.now; call = c.args.call.now; faults = c.args.faults.now } in
    let middle : Scene = record { pass = c.loop-departed.pass; wire = g.P.Port.wire c.loop-departed.port; call = c.loop-departed.call; faults = c.loop-departed.faults } in
    let now : Scene = record { pass = c.part_once.new.pass; wire = g.P.Port.wire c.part_once.new.port; call = c.part_once.new.call; faults = c.part_once.new.faults } in
    record {
      own = c.in-Ok.ensures.own;
      rest = goes_on-then c.args.pass.now c.loop-departed.pass c.part_once.new.pass c.loop-departed.invariant.rest c.in-Ok.ensures.rest;
      room = c.in-Ok.ensures.room;
      departed = departs_more c.args.desk.now c.args.now c.loop-departed._departed start middle now c.loop-departed.invariant.departed (rw c.in-None.is at c.in-Ok.ensures.parts);
    }

pub returns-clause-cuts : goal.returns-clause-cuts
returns-clause-cuts g c =
    let start : Scene = record { pass = c.args.pass.now; wire = g.P.Port.wire c.args.port.now; call = c.args.call.now; faults = c.args.faults.now } in
    let middle : Scene = record { pass = c.loop-departed.pass; wire = g.P.Port.wire c.loop-departed.port; call = c.loop-departed.call; faults = c.loop-departed.faults } in
    let now : Scene = record { pass = c.cut_last.new.pass; wire = g.P.Port.wire c.cut_last.new.port; call = c.cut_last.new.call; faults = c.cut_last.new.faults } in
    let all : 32 ≡ c.loop-departed._departed = omega (arith, c.loop-departed-test.false, c.loop-departed.auto._departed-end) in
    cuts_ended c.args.desk.now c.args.now c.loop-departed._departed c.cut_last.result start middle now c.loop-departed.invariant.departed (omega (arith, c.loop-departed.auto._departed-end))
    (subst (λ (k : ℕ). Ended c.args.desk.now c.args.now k c.cut_last.result middle now) all c.cut_last.ensures.ended)
