use Rattle.std.proofs.Common.{sym, ap, refl}
use Rattle.jm_book.specs.declared.steps.Step.TheVariants.{Hear}
use Rattle.jm_book.specs.Answers.{is_noted}
use Rattle.jm_book.specs.Legal.{IsTaken}
use Rattle.jm_book.proofs.OneMore.{kept_members}
use Rattle.jm_book.proofs.book.Book.hear.Goals as goal

pub invariant_of-self : goal.invariant_of-self
invariant_of-self c =
    let core = c.self.inside.core in
    let tape = c.self.inside.tape in
    let kept = c.self.invariant in
    let room = rw (← c.self.view_is) at c.has_room-room.ensures in
    let answer = rw (room, kept.stands.members) at c.in-Noted.ensures.answer in
    let taken : IsTaken core.config tape.steps (Hear c.args.ssrc c.args.seq) = ap is_noted (sym answer) in
    kept_members core c.hear-answer.new.self tape c.push.new.self (Hear c.args.ssrc c.args.seq) kept taken (λ stream. refl) c.in-Noted.ensures.after c.push.ensures.steps.steps c.push.ensures.commands
