use Rattle.apple_session.specs.AnswerLaws.{byes_end}
use Rattle.apple_session.proofs.laws.byes_end.Goals as goal

pub returns : goal.returns
returns c = byes_end
