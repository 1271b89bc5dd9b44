use Rattle.std.proofs.Common.{◌≡◌, ◌+◌, ◌≤◌, length}
use Rattle.jm_desk.specs.Sharing.{IsOf}
use Rattle.jm_jam.specs.Working.{Playing}
use Rattle.jm_jam.proofs.player.play_all.Given as goal

abbrev pub invariant-loop-step : goal.invariant-loop-step
invariant-loop-step g l = record {
  own : IsOf l.desk l.pass;
  room : 21100 ≤ l.out.spare + length l.out.octets;
  player : l.making.player ≡ l.initial.making.player;
  start : l.making.start ≡ l.initial.making.start;
  step : l.making.step ≡ l._step;
  playing : Playing l.initial.making.player l.initial.making.start l._step l.initial.pass l.pass;
}
