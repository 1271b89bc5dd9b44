use Rattle.apple_session.specs.AnswerLaws.{ok_is_of_listed}
use Rattle.apple_session.proofs.laws.ok_is_of_listed.Goals as goal

pub returns : goal.returns
returns c = ok_is_of_listed
