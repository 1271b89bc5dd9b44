use Rattle.apple_session.specs.AnswerLaws.{order_of_first_invitations}
use Rattle.apple_session.proofs.laws.order_of_first_invitations.Goals as goal

pub returns : goal.returns
returns c = order_of_first_invitations
