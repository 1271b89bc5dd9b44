use Rattle.std.proofs.Common.{List, false, subst}
use Rattle.jm_desk.specs.Sharing.{config_of}
use Rattle.jm_serve.specs.declared.receivers.Slot.{Slot}
use Rattle.jm_serve.specs.Rounds.{MakesRounds}
use Rattle.jm_serve.specs.Data.{DataRound}
use Rattle.jm_serve.proofs.data.serve_data.Goals as goal

pub returns-clause-serves : goal.returns-clause-serves
returns-clause-serves g c = record {
  calls = c.serve-end.new.worker.sender.call;
  rounds = subst
      (λ (k : List Slot). MakesRounds (DataRound (config_of c.args.desk.now)) (record { sender = record { last_cut = 0; owed = false; call = 0; send_faults = 0 }; has_begun = false; receivers = k }) c.args.desk.now c.args.turns c.serve-end.result
      (record { scene = record { pass = c.args.pass.now; wire = g.P.Port.wire c.args.port.now; call = 0; faults = 0 }; coming = g.C.Ticker.coming c.args.ticks.now })
      (record { scene = record { pass = c.serve-end.new.pass; wire = g.P.Port.wire c.serve-end.new.port; call = c.serve-end.new.worker.sender.call; faults = c.serve-end.new.worker.sender.send_faults }; coming = g.C.Ticker.coming c.serve-end.new.ticks }))
      c.none.ensures c.serve-end.ensures.makes;
}
