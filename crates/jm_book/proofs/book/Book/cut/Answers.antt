use Rattle.std.proofs.Common.{sym, ap}
use Rattle.jm_book.specs.declared.steps.Step.TheVariants.{Cut}
use Rattle.jm_book.specs.Answers.{is_packet}
use Rattle.jm_book.specs.Legal.{IsTaken}
use Rattle.jm_book.proofs.OneMore.{lent_sent, pending_within, sent_first, kept_cut, packet_is, short_is}
use Rattle.jm_book.proofs.book.Book.cut.Goals as goal

pub overflow_sub-first_pending : goal.overflow_sub-first_pending
overflow_sub-first_pending c =
    rw (c.commands-commands.ensures, c.pending.ensures.number) (pending_within c.self.inside.core c.self.inside.tape c.self.invariant)

pub cut-answer-requires-clause-order : goal.cut-answer-requires-clause-order
cut-answer-requires-clause-order c =
    rw (c.commands-commands.ensures, c.pending.ensures.number, sent_first c.self.inside.core c.self.inside.tape c.self.invariant) (lent_sent c.self.inside.core c.self.inside.tape c.self.invariant).order

pub cut-answer-requires-clause-limits : goal.cut-answer-requires-clause-limits
cut-answer-requires-clause-limits c =
    rw (c.commands-commands.ensures, c.pending.ensures.number, sent_first c.self.inside.core c.self.inside.tape c.self.invariant) (lent_sent c.self.inside.core c.self.inside.tape c.self.invariant).limits

pub invariant_of-self : goal.invariant_of-self
invariant_of-self c =
    let core = c.self.inside.core in
    let tape = c.self.inside.tape in
    let kept = c.self.invariant in
    let room = rw (← c.self.view_is) at c.has_room-room.ensures in
    let answer = rw (room, kept.stands.members, kept.stands.stream.packets) at c.in-Packet.ensures.answer in
    let taken : IsTaken core.config tape.steps (Cut c.args.tick) = ap is_packet (sym answer) in
    kept_cut core c.cut-answer.new.self tape c.push.new.self c.args.tick kept taken c.in-Packet.ensures.after c.push.ensures.steps.steps c.push.ensures.commands

pub returns-in-Packet-clause-packet : goal.returns-in-Packet-clause-packet
returns-in-Packet-clause-packet c = λ is.
    let core = c.self.inside.core in
    let tape = c.self.inside.tape in
    let kept = c.self.invariant in
    let written = rw (c.commands-commands.ensures, c.pending.ensures.number, sent_first core tape kept, packet_is core tape c.args.tick kept) at (c.cut-answer.ensures.packet is) in
    rw (← c.self.view_is) written

pub returns-in-Packet-clause-parts : goal.returns-in-Packet-clause-parts
returns-in-Packet-clause-parts c = λ is.
    let core = c.self.inside.core in
    let tape = c.self.inside.tape in
    let kept = c.self.invariant in
    let short = rw (c.commands-commands.ensures, c.pending.ensures.number, sent_first core tape kept) at (c.cut-answer.ensures.parts is) in
    rw (← c.self.view_is) (short_is core tape c.args.tick kept short)
