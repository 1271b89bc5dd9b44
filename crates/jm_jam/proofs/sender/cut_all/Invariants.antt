use Rattle.std.proofs.Common.{◌+◌, ◌≤◌, length}
use Rattle.jm_desk.specs.Sharing.{IsOf}
use Rattle.jm_jam.specs.Working.{Cutting}
use Rattle.jm_jam.proofs.sender.cut_all.Given as goal

abbrev pub invariant-loop-step : goal.invariant-loop-step
invariant-loop-step g l = record {
  own : IsOf l.desk l.pass;
  room : 21100 ≤ l.out.spare + length l.out.octets;
  cutting : Cutting l.step l.initial.pass l.pass;
}
