use Rattle.std.proofs.Common.{refl, arith}
use Rattle.jm_desk.specs.Sharing.{config_of}
use Rattle.jm_serve.specs.Rounds.{Outside}
use Rattle.jm_serve.proofs.Joins.{goes_on-then}
use Rattle.jm_serve.proofs.Making.{makes_nothing, makes_more, rounds_made, rounds_broken, rounds_full, rounds_starved}
use Rattle.jm_serve.proofs.serving.make_rounds.Goals as goal

pub loop-made-init : goal.loop-made-init
loop-made-init g c = record {
  own = c.requires.own;
  rest = refl;
  len = c.requires.len;
  room = c.requires.room;
  makes = makes_nothing (g.W.Worker.does (config_of c.args.desk.now)) c.args.desk.now c.args.worker.now
      (record { scene = record { pass = c.args.pass.now; wire = g.P.Port.wire c.args.port.now; call = g.W.Worker.call c.args.worker.now; faults = g.W.Worker.faults c.args.worker.now }; coming = g.C.Ticker.coming c.args.ticks.now });
}

pub loop-made-preserved : goal.loop-made-preserved
loop-made-preserved g c =
    let start : Outside = record { scene = record { pass = c.args.pass.now; wire = g.P.Port.wire c.args.port.now; call = g.W.Worker.call c.args.worker.now; faults = g.W.Worker.faults c.args.worker.now }; coming = g.C.Ticker.coming c.args.ticks.now } in
    let middle : Outside = record { scene = record { pass = c.loop-made.pass; wire = g.P.Port.wire c.loop-made.port; call = g.W.Worker.call c.loop-made.worker; faults = g.W.Worker.faults c.loop-made.worker }; coming = g.C.Ticker.coming c.loop-made.ticks } in
    let now : Outside = record { scene = record { pass = c.take_round.new.pass; wire = g.P.Port.wire c.take_round.new.port; call = g.W.Worker.call c.take_round.new.worker; faults = g.W.Worker.faults c.take_round.new.worker }; coming = g.C.Ticker.coming c.take_round.new.ticks } in
    record {
      own = c.in-Ok.ensures.own;
      rest = goes_on-then c.args.pass.now c.loop-made.pass c.take_round.new.pass c.loop-made.invariant.rest c.in-Ok.ensures.rest;
      len = c.in-Ok.ensures.len;
      room = c.in-Ok.ensures.room;
      makes = makes_more (g.W.Worker.does (config_of c.args.desk.now)) c.args.desk.now c.args.worker.now c.loop-made.worker c.take_round.new.worker c.loop-made._made _ start middle now c.loop-made.invariant.makes (rw c.in-Whole.is at c.in-Ok.ensures.takes);
    }

pub returns-in-Err-clause-makes : goal.returns-in-Err-clause-makes
returns-in-Err-clause-makes g c =
    let start : Outside = record { scene = record { pass = c.args.pass.now; wire = g.P.Port.wire c.args.port.now; call = g.W.Worker.call c.args.worker.now; faults = g.W.Worker.faults c.args.worker.now }; coming = g.C.Ticker.coming c.args.ticks.now } in
    let middle : Outside = record { scene = record { pass = c.loop-made.pass; wire = g.P.Port.wire c.loop-made.port; call = g.W.Worker.call c.loop-made.worker; faults = g.W.Worker.faults c.loop-made.worker }; coming = g.C.Ticker.coming c.loop-made.ticks } in
    let now : Outside = record { scene = record { pass = c.take_round.new.pass; wire = g.P.Port.wire c.take_round.new.port; call = g.W.Worker.call c.take_round.new.worker; faults = g.W.Worker.faults c.take_round.new.worker }; coming = g.C.Ticker.coming c.take_round.new.ticks } in
    rounds_broken (g.W.Worker.does (config_of c.args.desk.now)) c.args.desk.now c.args.worker.now c.loop-made.worker c.loop-made._made c.args.turns start middle now (omega (arith, c.loop-made-test.true)) c.loop-made.invariant.makes c.in-Err.ensures.takes.1

pub returns-in-RecordFull-clause-makes : goal.returns-in-RecordFull-clause-makes
returns-in-RecordFull-clause-makes g c =
    let start : Outside = record { scene = record { pass = c.args.pass.now; wire = g.P.Port.wire c.args.port.now; call = g.W.Worker.call c.args.worker.now; faults = g.W.Worker.faults c.args.worker.now }; coming = g.C.Ticker.coming c.args.ticks.now } in
    let middle : Outside = record { scene = record { pass = c.loop-made.pass; wire = g.P.Port.wire c.loop-made.port; call = g.W.Worker.call c.loop-made.worker; faults = g.W.Worker.faults c.loop-made.worker }; coming = g.C.Ticker.coming c.loop-made.ticks } in
    let now : Outside = record { scene = record { pass = c.take_round.new.pass; wire = g.P.Port.wire c.take_round.new.port; call = g.W.Worker.call c.take_round.new.worker; faults = g.W.Worker.faults c.take_round.new.worker }; coming = g.C.Ticker.coming c.take_round.new.ticks } in
    rounds_full (g.W.Worker.does (config_of c.args.desk.now)) c.args.desk.now c.args.worker.now c.loop-made.worker c.take_round.new.worker c.loop-made._made c.args.turns start middle now (omega (arith, c.loop-made-test.true)) c.loop-made.invariant.makes (rw c.in-RecordFull.is at c.in-Ok.ensures.takes)

pub returns-in-NoMemory-clause-makes : goal.returns-in-NoMemory-clause-makes
returns-in-NoMemory-clause-makes g c =
    let start : Outside = record { scene = record { pass = c.args.pass.now; wire = g.P.Port.wire c.args.port.now; call = g.W.Worker.call c.args.worker.now; faults = g.W.Worker.faults c.args.worker.now }; coming = g.C.Ticker.coming c.args.ticks.now } in
    let middle : Outside = record { scene = record { pass = c.loop-made.pass; wire = g.P.Port.wire c.loop-made.port; call = g.W.Worker.call c.loop-made.worker; faults = g.W.Worker.faults c.loop-made.worker }; coming = g.C.Ticker.coming c.loop-made.ticks } in
    let now : Outside = record { scene = record { pass = c.take_round.new.pass; wire = g.P.Port.wire c.take_round.new.port; call = g.W.Worker.call c.take_round.new.worker; faults = g.W.Worker.faults c.take_round.new.worker }; coming = g.C.Ticker.coming c.take_round.new.ticks } in
    rounds_starved (g.W.Worker.does (config_of c.args.desk.now)) c.args.desk.now c.args.worker.now c.loop-made.worker c.take_round.new.worker c.loop-made._made c.args.turns start middle now (omega (arith, c.loop-made-test.true)) c.loop-made.invariant.makes (rw c.in-NoMemory.is at c.in-Ok.ensures.takes)

pub returns-clause-makes : goal.returns-clause-makes
returns-clause-makes g c =
    let start : Outside = record { scene = record { pass = c.args.pass.now; wire = g.P.Port.wire c.args.port.now; call = g.W.Worker.call c.args.worker.now; faults = g.W.Worker.faults c.args.worker.now }; coming = g.C.Ticker.coming c.args.ticks.now } in
    let now : Outside = record { scene = record { pass = c.loop-made.pass; wire = g.P.Port.wire c.loop-made.port; call = g.W.Worker.call c.loop-made.worker; faults = g.W.Worker.faults c.loop-made.worker }; coming = g.C.Ticker.coming c.loop-made.ticks } in
    rounds_made (g.W.Worker.does (config_of c.args.desk.now)) c.args.desk.now c.args.worker.now c.loop-made.worker c.loop-made._made c.args.turns start now (omega (arith, c.loop-made-test.false, c.loop-made.auto._made-end)) c.loop-made.invariant.makes
