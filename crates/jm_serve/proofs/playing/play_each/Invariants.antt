use Rattle.std.proofs.Common.{◌+◌, ◌≤◌, length, drop}
use Rattle.jm_desk.specs.Sharing.{IsOf}
use Rattle.jm_serve.specs.Acts.{GoesOn}
use Rattle.jm_serve.specs.Playing.{pace_of, scene_of}
use Rattle.jm_serve.proofs.Retrying.{PlaysOn}
use Rattle.jm_serve.proofs.playing.play_each.Given as goal

abbrev pub invariant-loop-one : goal.invariant-loop-one
invariant-loop-one g l = record {
  own : IsOf l.desk l.pass;
  rest : GoesOn l.initial.pass l.pass;
  room : 21100 ≤ l.out.spare + length l.out.octets;
  plays : PlaysOn l.desk l.player l.now l.heard (drop l.one-index l.heard) (pace_of l.initial.sender) (pace_of l.sender)
      (scene_of l.initial.pass (g.P.Port.wire l.initial.port) l.initial.sender) (scene_of l.pass (g.P.Port.wire l.port) l.sender);
}
