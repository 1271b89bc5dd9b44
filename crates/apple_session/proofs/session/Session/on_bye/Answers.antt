use Rattle.apple_session.proofs.session.Session.on_bye.Goals as goal

pub invariant_of-self : goal.invariant_of-self
invariant_of-self c = c.remove.ensures.orderly _ c.self.invariant
