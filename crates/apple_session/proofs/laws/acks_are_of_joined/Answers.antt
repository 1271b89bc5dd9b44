use Rattle.apple_session.specs.AnswerLaws.{acks_are_of_joined}
use Rattle.apple_session.proofs.laws.acks_are_of_joined.Goals as goal

pub returns : goal.returns
returns c = acks_are_of_joined
