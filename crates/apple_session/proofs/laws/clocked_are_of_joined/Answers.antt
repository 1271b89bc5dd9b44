use Rattle.apple_session.specs.AnswerLaws.{clocked_are_of_joined}
use Rattle.apple_session.proofs.laws.clocked_are_of_joined.Goals as goal

pub returns : goal.returns
returns c = clocked_are_of_joined
