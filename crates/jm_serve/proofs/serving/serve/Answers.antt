use Rattle.jm_desk.specs.Sharing.{config_of}
use Rattle.jm_serve.specs.Rounds.{Outside}
use Rattle.jm_serve.proofs.Making.{rounds_none}
use Rattle.jm_serve.proofs.serving.serve.Goals as goal

pub returns-in-Err-clause-makes : goal.returns-in-Err-clause-makes
returns-in-Err-clause-makes g c =
    let here : Outside = record { scene = record { pass = c.args.pass.now; wire = g.P.Port.wire c.args.port.now; call = g.W.Worker.call c.args.worker.now; faults = g.W.Worker.faults c.args.worker.now }; coming = g.C.Ticker.coming c.args.ticks.now } in
    rounds_none (g.W.Worker.does (config_of c.args.desk.now)) c.args.desk.now c.args.worker.now c.args.turns here

pub returns-in-Err-with_room-clause-makes : goal.returns-in-Err-with_room-clause-makes
returns-in-Err-with_room-clause-makes g c =
    let here : Outside = record { scene = record { pass = c.args.pass.now; wire = g.P.Port.wire c.args.port.now; call = g.W.Worker.call c.args.worker.now; faults = g.W.Worker.faults c.args.worker.now }; coming = g.C.Ticker.coming c.args.ticks.now } in
    rounds_none (g.W.Worker.does (config_of c.args.desk.now)) c.args.desk.now c.args.worker.now c.args.turns here
