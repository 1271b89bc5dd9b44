use Rattle.std.proofs.Common.{◌+◌, ◌≤◌, length}
use Rattle.jm_desk.specs.Sharing.{IsOf}
use Rattle.jm_serve.specs.Acts.{GoesOn}
use Rattle.jm_serve.specs.Pump.{DepartsAll}
use Rattle.jm_serve.proofs.pumping.cut_all.Given as goal

abbrev pub invariant-loop-departed : goal.invariant-loop-departed
invariant-loop-departed g l = record {
  own : IsOf l.desk l.pass;
  rest : GoesOn l.initial.pass l.pass;
  room : 21100 ≤ l.out.spare + length l.out.octets;
  departed : DepartsAll l.desk l.now l._departed
      (record { pass = l.initial.pass; wire = g.P.Port.wire l.initial.port; call = l.initial.call; faults = l.initial.faults })
      (record { pass = l.pass; wire = g.P.Port.wire l.port; call = l.call; faults = l.faults });
}
