use Rattle.std.proofs.Common.{◌≤◌, ◌-◌, take, length}
use Rattle.midi_host.specs.Wrote.{Wrote}
use Rattle.midi_host.proofs.writing.write_all.Given as goal

abbrev pub invariant-loop-at : goal.invariant-loop-at
invariant-loop-at g l = record {
  within : l.at ≤ length l.text;
  wrote : Wrote (g.K.Sink.written l.initial.sink) (g.K.Sink.written l.sink) (take l.at l.text);
  counted : g.K.Sink.faults l.initial.sink ≤ g.K.Sink.faults l.sink;
}

abbrev pub decreases-loop-at : goal.decreases-loop-at
decreases-loop-at g l = length l.text - l.at
