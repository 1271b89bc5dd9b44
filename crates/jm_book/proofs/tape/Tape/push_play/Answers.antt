use Rattle.std.proofs.Common.{arith, length-append}
use Rattle.jm_cmds.specs.Command.{IsCommand}
use Rattle.jm_cmds.specs.HistoryLaws.{AllByRecursion-append}
use Rattle.jm_book.proofs.Weaving.{plays_push_play, woven_push_play}
use Rattle.jm_book.proofs.tape.Tape.push_play.Goals as goal

pub invariant_of-self : goal.invariant_of-self
invariant_of-self c =
    let room = rw (← c.self.view_is) at c.requires in
    record {
      all = rw (c.push_reserved.ensures.items, c.push_reserved-2.ensures.items, plays_push_play) (simp length-append (omega (arith, c.self.invariant.all)));
      within = rw c.push_reserved-2.ensures.items (AllByRecursion-append (λ place. IsCommand place.command) _ _ c.self.invariant.within (c.size.ensures.command, tt));
      out = c.self.invariant.out;
      room = rw c.push_reserved.ensures.items (simp length-append (omega arith));
    }

pub returns-clause-steps : goal.returns-clause-steps
returns-clause-steps c =
    let room = rw (← c.self.view_is) at c.requires in
    rw (← c.self.view_is) record {
      steps = rw (c.push_reserved.ensures.items, c.push_reserved-2.ensures.items) (woven_push_play _ _ _ _ _ c.self.invariant.all);
      spare = rw (c.push_reserved.ensures.items, c.push_reserved-2.ensures.items, c.push_reserved.ensures.capacity, c.push_reserved-2.ensures.capacity) (simp length-append (omega arith));
    }
