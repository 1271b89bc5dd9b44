use Rattle.jm_book.specs.InvitedLaws.{invited_stay}
use Rattle.jm_book.proofs.laws.members.invited_stay.Goals as goal

pub returns : goal.returns
returns c = invited_stay
