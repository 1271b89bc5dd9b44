use Rattle.std.proofs.Common.{arith, length-append}
use Rattle.jm_book.proofs.Weaving.{plays_push_other, woven_push_other}
use Rattle.jm_book.proofs.tape.Tape.push.Goals as goal

pub invariant_of-self : goal.invariant_of-self
invariant_of-self c =
    let room = rw (← c.self.view_is) at c.requires in
    record {
      all = rw (c.push_reserved.ensures.items, plays_push_other) c.self.invariant.all;
      within = c.self.invariant.within;
      out = c.self.invariant.out;
      room = rw c.push_reserved.ensures.items (simp length-append (omega arith));
    }

pub returns-clause-steps : goal.returns-clause-steps
returns-clause-steps c =
    let room = rw (← c.self.view_is) at c.requires in
    rw (← c.self.view_is) record {
      steps = rw c.push_reserved.ensures.items (woven_push_other _ _ _ (omega (arith, c.self.invariant.all)));
      spare = rw (c.push_reserved.ensures.items, c.push_reserved.ensures.capacity) (simp length-append (omega arith));
    }
