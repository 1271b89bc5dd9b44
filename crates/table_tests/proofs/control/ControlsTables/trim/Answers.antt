use Rattle.table_tests.proofs.control.ControlsTables.trim.Goals as goal

pub invariant_of-self : goal.invariant_of-self
invariant_of-self c = λ later h. c.trim.ensures.order later (c.self.invariant later h)
