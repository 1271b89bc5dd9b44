use Rattle.std.proofs.Common.{◌+◌, ◌≤◌, length}
use Rattle.jm_desk.specs.Sharing.{IsOf}
use Rattle.jm_jam.specs.Made.{made, tick_at}
use Rattle.jm_jam.specs.Working.{Trying}
use Rattle.jm_jam.proofs.player.play_step.Given as goal

abbrev pub invariant-loop : goal.invariant-loop
invariant-loop g l = record {
  own : IsOf l.desk l.pass;
  room : 21100 ≤ l.out.spare + length l.out.octets;
  trying : Trying l.making.player (made l.making.player l.making.start l.making.step) (tick_at l.making.step) l.initial.pass l.pass;
}
