use Rattle.std.proofs.Common.{◌≡◌, ◌∙◌, true, sym, ap, refl}
use Rattle.jm_book.specs.declared.steps.Step.TheVariants.{Say}
use Rattle.jm_book.specs.Answers.{is_said}
use Rattle.jm_book.specs.Legal.{IsTaken}
use Rattle.jm_book.proofs.OneMore.{kept_members}
use Rattle.jm_book.proofs.book.Book.say.Goals as goal

pub invariant_of-self : goal.invariant_of-self
invariant_of-self c =
    let core = c.self.inside.core in
    let tape = c.self.inside.tape in
    let kept = c.self.invariant in
    let room = rw (← c.self.view_is) at c.has_room-room.ensures in
    let said : is_said c.say-answer.result ≡ true = sym c.is_taken.ensures ∙ c.if-is_taken.true in
    let answer = rw (room, kept.stands.members, kept.stands.stream.packets) at c.say-answer.ensures.answer in
    let taken : IsTaken core.config tape.steps (Say c.args.port c.args.from c.args.m.now c.args.now) = ap is_said (sym answer) ∙ said in
    let after = rw said at c.say-answer.ensures.after in
    kept_members core c.say-answer.new.self tape c.push.new.self (Say c.args.port c.args.from c.args.m.now c.args.now) kept taken (λ stream. refl) after (rw c.copy.ensures at c.push.ensures.steps.steps) c.push.ensures.commands
