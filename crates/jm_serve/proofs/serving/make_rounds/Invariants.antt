use Rattle.std.proofs.Common.{◌≡◌, ◌+◌, ◌≤◌, length}
use Rattle.jm_desk.specs.Sharing.{IsOf, config_of}
use Rattle.jm_serve.specs.declared.worked.Rounded.TheVariants as rounded
use Rattle.jm_serve.specs.Acts.{GoesOn}
use Rattle.jm_serve.specs.Rounds.{Makes}
use Rattle.jm_serve.proofs.serving.make_rounds.Given as goal

abbrev pub invariant-loop-made : goal.invariant-loop-made
invariant-loop-made g l = record {
  own : IsOf l.desk l.pass;
  rest : GoesOn l.initial.pass l.pass;
  len : length l.buf ≡ 65536;
  room : 21100 ≤ l.out.spare + length l.out.octets;
  makes : Makes (g.W.Worker.does (config_of l.desk)) l.initial.worker l.desk l._made rounded.Whole l.worker
      (record { scene = record { pass = l.initial.pass; wire = g.P.Port.wire l.initial.port; call = g.W.Worker.call l.initial.worker; faults = g.W.Worker.faults l.initial.worker }; coming = g.C.Ticker.coming l.initial.ticks })
      (record { scene = record { pass = l.pass; wire = g.P.Port.wire l.port; call = g.W.Worker.call l.worker; faults = g.W.Worker.faults l.worker }; coming = g.C.Ticker.coming l.ticks });
}
