use Rattle.std.proofs.Common.{arith}
use Rattle.jm_book.specs.declared.steps.Step.TheVariants.{Play}
use Rattle.jm_book.specs.Legal.{IsTaken}
use Rattle.jm_book.proofs.OneMore.{lent_all, kept_play, accepted_play, refused_play}
use Rattle.jm_book.proofs.book.Book.play.Goals as goal

pub play-answer-requires-clause-order : goal.play-answer-requires-clause-order
play-answer-requires-clause-order c = rw c.commands.ensures (lent_all c.self.inside.core c.self.inside.tape c.self.invariant).order

pub play-answer-requires-clause-limits : goal.play-answer-requires-clause-limits
play-answer-requires-clause-limits c = rw c.commands.ensures (lent_all c.self.inside.core c.self.inside.tape c.self.invariant).limits

pub number_of_pending-packet-requires : goal.number_of_pending-packet-requires
number_of_pending-packet-requires c =
    let kept = c.self.invariant in
    rw c.in-Accepted.ensures.after (omega (arith, kept.few_packets, kept.few_steps, kept.bounds.1))

pub invariant_of-self-in-Accepted : goal.invariant_of-self-in-Accepted
invariant_of-self-in-Accepted c =
    let core = c.self.inside.core in
    let tape = c.self.inside.tape in
    let kept = c.self.invariant in
    let room = rw (← c.self.view_is) at c.has_room-room.ensures in
    let answer = rw (room, c.commands.ensures) at c.in-Accepted.ensures.answer in
    let taken : IsTaken core.config tape.steps (Play c.args.player c.args.command c.args.tick) = (accepted_play core tape c.args.player c.args.command c.args.tick c.in-Accepted.serial c.in-Accepted.kept kept answer).0 in
    kept_play core c.play-answer.new.self tape c.push_play.new.self c.args.player c.args.command c.args.tick kept taken c.in-Accepted.ensures.after c.push_play.ensures.steps.steps
    (rw (c.number_of_pending-packet.ensures, c.tick-latest.ensures, c.in-Accepted.ensures.after) at c.push_play.ensures.commands)

pub returns-in-Refused-clause-answer : goal.returns-in-Refused-clause-answer
returns-in-Refused-clause-answer c =
    let core = c.self.inside.core in
    let tape = c.self.inside.tape in
    let kept = c.self.invariant in
    let room = rw (← c.self.view_is) at c.has_room-room.ensures in
    let answer = rw (room, c.commands.ensures) at c.in-Refused.ensures.answer in
    rw (← c.self.view_is) (refused_play core tape c.args.player c.args.command c.args.tick c.in-Refused.why kept answer)

pub returns-in-Accepted-clause-answer : goal.returns-in-Accepted-clause-answer
returns-in-Accepted-clause-answer c =
    let core = c.self.inside.core in
    let tape = c.self.inside.tape in
    let kept = c.self.invariant in
    let room = rw (← c.self.view_is) at c.has_room-room.ensures in
    let answer = rw (room, c.commands.ensures) at c.in-Accepted.ensures.answer in
    rw (← c.self.view_is) (accepted_play core tape c.args.player c.args.command c.args.tick c.in-Accepted.serial c.in-Accepted.kept kept answer).1
