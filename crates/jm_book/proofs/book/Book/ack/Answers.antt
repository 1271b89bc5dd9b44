use Rattle.std.proofs.Common.{sym, ap, refl}
use Rattle.jm_book.specs.declared.steps.Step.TheVariants.{Ack}
use Rattle.jm_book.specs.Answers.{is_moved}
use Rattle.jm_book.specs.Legal.{IsTaken}
use Rattle.jm_book.proofs.OneMore.{kept_members}
use Rattle.jm_book.proofs.book.Book.ack.Goals as goal

pub invariant_of-self : goal.invariant_of-self
invariant_of-self c =
    let core = c.self.inside.core in
    let tape = c.self.inside.tape in
    let kept = c.self.invariant in
    let room = rw (← c.self.view_is) at c.has_room-room.ensures in
    let answer = rw (room, kept.stands.members, kept.stands.stream.packets) at c.in-Moved.ensures.answer in
    let taken : IsTaken core.config tape.steps (Ack c.args.ssrc c.args.seq) = ap is_moved (sym answer) in
    kept_members core c.ack-answer.new.self tape c.push.new.self (Ack c.args.ssrc c.args.seq) kept taken (λ stream. refl) c.in-Moved.ensures.after c.push.ensures.steps.steps c.push.ensures.commands
