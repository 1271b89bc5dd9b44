use Rattle.std.proofs.Common.{[], ◌∷◌, ◌++◌, Some, sym, ap, ◌∙◌, subst, rules}
use Rattle.atomic_table.specs.Table.{rest}
use Rattle.jm_turn.specs.Turns.{made}
use Rattle.jm_turn.specs.Steps.{since}
use Rattle.jm_turn.specs.Known.{IsPass}
use Rattle.jm_turn.proofs.Steps.{commits}
use Rattle.jm_turn.proofs.Passes.{hand_holding, sound_give}
use Rattle.jm_turn.proofs.turn.Turn.give.Goals as goal

pub fetch_add-requires : goal.fetch_add-requires
fetch_add-requires g c =
    let holding = ap (λ k. k.view.stage) c.pass.view_is ∙ c.requires.turn in
    let is = ap (λ z. z.0) c.exchange.ensures.3 in
    let hand = ap (λ z. z.1) c.exchange.ensures.3 ∙ ap (λ l. (0, Some c.args.value) ∷ rest l) (hand_holding c.pass.inside.seat.me.0.stage c.pass.inside.seat.me.1 holding c.pass.invariant.1) in
    let good = subst (λ v. since g.T.Told.stands v.first c.args.value (v.seen ++ made v.number g.E.Entry.what ∷ [])) (ap (λ k. k.view) (sym c.pass.view_is) ∙ sym is) c.requires.stands in (
      search rules,
      search rules,
      commits g.T.Told.stands c.args.self.now.table.shared.key.value _ _ c.exchange.new.seat.me g.E.Entry.what c.args.value (subst (IsPass g.T.Told.stands) (sym is) c.pass.invariant.0).counts (ap (λ v. v.stage) is ∙ holding) c.args.self.now.sized.1 hand good,
    )

pub invariant_of-pass : goal.invariant_of-pass
invariant_of-pass g c =
    let holding = ap (λ k. k.view.stage) c.pass.view_is ∙ c.requires.turn in
    let is = ap (λ z. z.0) c.exchange.ensures.3 in
    let hand = ap (λ z. z.1) c.exchange.ensures.3 ∙ ap (λ l. (0, Some c.args.value) ∷ rest l) (hand_holding c.pass.inside.seat.me.0.stage c.pass.inside.seat.me.1 holding c.pass.invariant.1) in
    let good = subst (λ v. since g.T.Told.stands v.first c.args.value (v.seen ++ made v.number g.E.Entry.what ∷ [])) (ap (λ k. k.view) (sym c.pass.view_is) ∙ sym is) c.requires.stands in
    sound_give g.T.Told.stands c.exchange.new.seat.me _ g.E.Entry.what c.args.value (subst (IsPass g.T.Told.stands) (sym is) c.pass.invariant.0) hand good c.fetch_add.ensures.2
