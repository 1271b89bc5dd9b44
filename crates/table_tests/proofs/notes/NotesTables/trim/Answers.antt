use Rattle.table_tests.proofs.notes.NotesTables.trim.Goals as goal

pub invariant_of-self : goal.invariant_of-self
invariant_of-self c = λ later h.
    let kept = c.self.invariant later h in
    (c.trim.ensures.order later kept.0, c.trim-2.ensures.order later kept.1, c.trim-3.ensures.order later kept.2)
