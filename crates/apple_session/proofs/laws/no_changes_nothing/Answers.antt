use Rattle.apple_session.specs.AnswerLaws.{no_changes_nothing}
use Rattle.apple_session.proofs.laws.no_changes_nothing.Goals as goal

pub returns : goal.returns
returns c = no_changes_nothing
