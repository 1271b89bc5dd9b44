use Rattle.std.proofs.Common.{◌+◌, ◌≤◌, length}
use Rattle.jm_desk.specs.Sharing.{IsOf}
use Rattle.jm_serve.specs.Acts.{GoesOn}
use Rattle.jm_serve.specs.Playing.{pace_of, scene_of, RetriesSoFar}
use Rattle.jm_serve.proofs.playing.play_command.Given as goal

abbrev pub invariant-loop-cut : goal.invariant-loop-cut
invariant-loop-cut g l = record {
  own : IsOf l.desk l.pass;
  rest : GoesOn l.initial.pass l.pass;
  room : 21100 ≤ l.out.spare + length l.out.octets;
  retried : RetriesSoFar l.desk l.player l.command l.now l._cut (pace_of l.initial.sender) (pace_of l.sender)
      (scene_of l.initial.pass (g.P.Port.wire l.initial.port) l.initial.sender) (scene_of l.pass (g.P.Port.wire l.port) l.sender);
}
