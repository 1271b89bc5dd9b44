use Rattle.std.proofs.Common.{◌≡◌, ◌%◌, [], ◌∷◌, Some, None, sym, refl, ap, ◌∙◌, subst, rules}
use Rattle.atomic_table.specs.Table.{rest}
use Rattle.jm_turn.proofs.Steps.{takes_turn}
use Rattle.jm_turn.proofs.Passes.{hand_waiting, sound_look, sound_take}
use Rattle.jm_turn.proofs.turn.Turn.come.Goals as goal

pub load-requires : goal.load-requires
load-requires g c = (search rules, search rules, takes_turn g.T.Told.stands c.args.self.now.table.shared.key.value _ _ c.pass.inside.seat.me c.pass.invariant.0.counts (ap (λ k. k.view.stage) c.pass.view_is ∙ c.requires.waiting))

pub invariant_of-pass : goal.invariant_of-pass
invariant_of-pass g c =
    let own : c.args.ticket ≡ c.pass.inside.seat.me.0.ticket % 18446744073709551616 = c.requires.ticket ∙ ap (λ k. k.view.ticket % 18446744073709551616) (sym c.pass.view_is) in
    let d = c.load.ensures.2.1 (λ e. c.if-load-ticket.true (e ∙ sym own)) in
    sound_look g.T.Told.stands c.pass.inside.seat.me _ _ c.pass.invariant d.0 d.1.sees

pub exchange-requires : goal.exchange-requires
exchange-requires g c =
    let own : c.args.ticket ≡ c.pass.inside.seat.me.0.ticket % 18446744073709551616 = c.requires.ticket ∙ ap (λ k. k.view.ticket % 18446744073709551616) (sym c.pass.view_is) in
    let d = c.load.ensures.2.0 (c.if-load-ticket.false ∙ own) in
    let e = ap (λ z. z.1) d.1 in
    (search rules, (Some (d.0), subst (λ l. l ≡ (0, Some (d.0)) ∷ rest l) (sym e) refl))

pub invariant_of-pass-2 : goal.invariant_of-pass-2
invariant_of-pass-2 g c =
    let own : c.args.ticket ≡ c.pass.inside.seat.me.0.ticket % 18446744073709551616 = c.requires.ticket ∙ ap (λ k. k.view.ticket % 18446744073709551616) (sym c.pass.view_is) in
    let d = c.load.ensures.2.0 (c.if-load-ticket.false ∙ own) in
    let waiting = ap (λ k. k.view.stage) c.pass.view_is ∙ c.requires.waiting in
    let q : rest c.load.new.seat.me.1 ≡ [] = ap (λ z. rest z.1) d.1 ∙ hand_waiting c.pass.inside.seat.me.0.stage c.pass.inside.seat.me.1 waiting c.pass.invariant.1 in
    let p = ap (λ z. z.0) d.1 in
    sound_take g.T.Told.stands c.pass.inside.seat.me _ c.load.new.seat.me.0.seen c.pass.invariant (c.exchange.ensures.3 ∙ λ i. (p i, (0, None) ∷ q i)) d.2.sees
