use Rattle.std.proofs.Common.{sym, ap, refl}
use Rattle.jm_book.specs.declared.steps.Step.TheVariants.{Feedback}
use Rattle.jm_book.specs.Answers.{is_given}
use Rattle.jm_book.specs.Legal.{IsTaken}
use Rattle.jm_book.proofs.OneMore.{kept_members}
use Rattle.jm_book.proofs.book.Book.feedback.Goals as goal

pub invariant_of-self : goal.invariant_of-self
invariant_of-self c =
    let core = c.self.inside.core in
    let tape = c.self.inside.tape in
    let kept = c.self.invariant in
    let room = rw (← c.self.view_is) at c.has_room-room.ensures in
    let answer = rw room at c.in-Given.ensures.answer in
    let taken : IsTaken core.config tape.steps (Feedback) = ap is_given (sym answer) in
    kept_members core core tape c.push.new.self (Feedback) kept taken (λ stream. refl) refl c.push.ensures.steps.steps c.push.ensures.commands
