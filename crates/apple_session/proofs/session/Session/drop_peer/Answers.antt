use Rattle.apple_session.proofs.session.Session.drop_peer.Goals as goal

pub invariant_of-self : goal.invariant_of-self
invariant_of-self c = c.remove.ensures.orderly _ c.self.invariant

pub returns-clause-orderly : goal.returns-clause-orderly
returns-clause-orderly c = c.remove.ensures.orderly _ c.self.invariant
