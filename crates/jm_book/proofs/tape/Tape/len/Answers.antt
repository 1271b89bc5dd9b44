use Rattle.std.proofs.Common.{arith}
use Rattle.jm_book.proofs.Weaving.{length_woven, woven_have}
use Rattle.jm_book.proofs.tape.Tape.len.Goals as goal

pub returns-clause-number : goal.returns-clause-number
returns-clause-number c =
    let marks = c.self.inside.marks in
    let woven = length_woven marks.items c.self.inside.commands.items (omega (arith, c.self.invariant.all)) in
    rw (← c.self.view_is) (omega (arith, woven, c.len.ensures, marks.ok.0))

pub returns-clause-commands : goal.returns-clause-commands
returns-clause-commands c =
    rw (← c.self.view_is) (woven_have c.self.inside.marks.items c.self.inside.commands.items c.self.invariant.within)
