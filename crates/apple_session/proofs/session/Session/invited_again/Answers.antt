use Rattle.apple_session.proofs.session.Session.invited_again.Goals as goal

pub invariant_of-self : goal.invariant_of-self
invariant_of-self c = c.replace.ensures.orderly _ c.self.invariant
