use Rattle.std.proofs.Common.{◌∙◌, sym, ap}
use Rattle.apple_session.specs.declared.answer.Answer.{Answer}
use Rattle.jm_book.specs.Members.{Members}
use Rattle.jm_book.specs.LegalJoined.{said_joins}
use Rattle.jm_book.specs.SoundLaws.{sound_say, said_reports}
use Rattle.jm_book.proofs.roster.Roster.say.Goals as goal

pub carry_out-act-requires-clause-room : goal.carry_out-act-requires-clause-room
carry_out-act-requires-clause-room c = λ ssrc is absent.
    let members : Members = record { host = c.self.inside.host; entered = c.self.inside.entered; joined = c.self.inside.joined } in
    let answer = rw c.has_room_for-room.ensures at c.on_message-reply.ensures.answer in
    (said_joins members c.args.port c.args.from c.args.m.now c.args.now ssrc (ap (λ (a : Answer). a.act) (sym answer) ∙ is) absent).few

pub carry_out-act-requires-clause-known : goal.carry_out-act-requires-clause-known
carry_out-act-requires-clause-known c = λ ssrc seq is.
    let members : Members = record { host = c.self.inside.host; entered = c.self.inside.entered; joined = c.self.inside.joined } in
    let answer = rw c.has_room_for-room.ensures at c.on_message-reply.ensures.answer in
    said_reports members c.args.port c.args.from c.args.m.now c.args.now ssrc seq c.self.invariant (ap (λ (a : Answer). a.act) (sym answer) ∙ is)

pub invariant_of-self : goal.invariant_of-self
invariant_of-self c =
    let members : Members = record { host = c.self.inside.host; entered = c.self.inside.entered; joined = c.self.inside.joined } in
    rw (c.on_message-reply.ensures.peers, c.carry_out-act.ensures.after, c.on_message-reply.ensures.answer, c.has_room_for-room.ensures)
    (sound_say c.acts_tell.ensures c.args.packets members c.args.port c.args.from c.args.m.now c.args.now c.self.invariant)
