use Rattle.std.proofs.Common.{sym, ap, refl}
use Rattle.jm_book.specs.declared.steps.Step.TheVariants.{Join}
use Rattle.jm_book.specs.Answers.{is_joined}
use Rattle.jm_book.specs.Legal.{IsTaken}
use Rattle.jm_book.proofs.OneMore.{kept_members}
use Rattle.jm_book.proofs.book.Book.join.Goals as goal

pub invariant_of-self : goal.invariant_of-self
invariant_of-self c =
    let core = c.self.inside.core in
    let tape = c.self.inside.tape in
    let kept = c.self.invariant in
    let room = rw (← c.self.view_is) at c.has_room-room.ensures in
    let answer = rw (room, kept.stands.members, kept.stands.stream.packets) at c.in-At.ensures.answer in
    let taken : IsTaken core.config tape.steps (Join c.args.ssrc) = ap is_joined (sym answer) in
    kept_members core c.join-answer.new.self tape c.push.new.self (Join c.args.ssrc) kept taken (λ stream. refl) c.in-At.ensures.after c.push.ensures.steps.steps c.push.ensures.commands
