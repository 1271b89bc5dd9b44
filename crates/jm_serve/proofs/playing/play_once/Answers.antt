use Rattle.std.proofs.Common.{refl}
use Rattle.jm_serve.proofs.Retrying.{once_uncopied, once_starved, once_answered}
use Rattle.jm_serve.proofs.playing.play_once.Goals as goal

pub returns-in_default-clause-plays : goal.returns-in_default-clause-plays
returns-in_default-clause-plays g c = once_uncopied c.args.desk.now c.args.player c.args.command.now c.args.now c.args.pass.now c.args.call.now

pub returns-in-Err-clause-plays : goal.returns-in-Err-clause-plays
returns-in-Err-clause-plays g c =
    once_starved c.args.desk.now c.args.player c.args.command.now c.in-Ok.copied c.args.now c.args.pass.now c.play-came.new.pass c.args.call.now _ c.in-Ok.ensures c.in-Err.ensures.turn refl

pub returns-in-Ok-came-clause-plays : goal.returns-in-Ok-came-clause-plays
returns-in-Ok-came-clause-plays g c =
    once_answered c.args.desk.now c.args.player c.args.command.now c.in-Ok.copied c.args.now c.in-Ok-came.turn.answer c.tried_of.result c.args.pass.now c.play-came.new.pass c.args.call.now _ c.in-Ok.ensures c.in-Ok-came.ensures.turn c.tried_of.ensures refl
