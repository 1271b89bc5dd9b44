use Rattle.apple_session.specs.AnswerLaws.{invited_keep_their_places}
use Rattle.apple_session.proofs.laws.invited_keep_their_places.Goals as goal

pub returns : goal.returns
returns c = invited_keep_their_places
