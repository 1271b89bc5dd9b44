use Rattle.std.proofs.Common.{◌∙◌, sym, ap, List, Some, None, get_or, eq-eqb, arith}
use Rattle.jm_book.specs.declared.participants.Participant.{Participant}
use Rattle.jm_book.specs.Participants.{noted}
use Rattle.jm_book.proofs.Changing.{changed-drop}
use Rattle.jm_book.proofs.participants.note_heard.Goals as goal

pub returns-then-one-ssrc : goal.returns-then-one-ssrc
returns-then-one-ssrc c =
    let none : Participant = record { ssrc = 0; mark = 0; slot = 0; heard = None } in
    let now = c.loop-one.joined in
    let i = c.loop-one.one-index in
    let hit = eq-eqb (get_or now i none).ssrc c.args.ssrc c.if-one-ssrc.true in
    sym (changed-drop (λ other. record other { heard = Some c.args.seq }) c.args.ssrc i now none (omega (arith, c.loop-one-test.true, c.loop-one.auto.joined)) hit)
    ∙ c.loop-one.invariant.rest ∙ ap (λ (xs : List Participant). noted c.args.ssrc c.args.seq xs) c.loop-one.invariant.same
