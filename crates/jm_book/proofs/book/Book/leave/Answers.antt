use Rattle.std.proofs.Common.{sym, ap, refl}
use Rattle.jm_book.specs.declared.steps.Step.TheVariants.{Leave}
use Rattle.jm_book.specs.Answers.{is_left}
use Rattle.jm_book.specs.Legal.{IsTaken}
use Rattle.jm_book.proofs.OneMore.{kept_members}
use Rattle.jm_book.proofs.book.Book.leave.Goals as goal

pub invariant_of-self : goal.invariant_of-self
invariant_of-self c =
    let core = c.self.inside.core in
    let tape = c.self.inside.tape in
    let kept = c.self.invariant in
    let room = rw (← c.self.view_is) at c.has_room-room.ensures in
    let answer = rw (room, kept.stands.members) at c.in-Left.ensures.answer in
    let taken : IsTaken core.config tape.steps (Leave c.args.ssrc) = ap is_left (sym answer) in
    kept_members core c.leave-answer.new.self tape c.push.new.self (Leave c.args.ssrc) kept taken (λ stream. refl) c.in-Left.ensures.after c.push.ensures.steps.steps c.push.ensures.commands
