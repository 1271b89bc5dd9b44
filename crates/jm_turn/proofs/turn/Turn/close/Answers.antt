use Rattle.std.proofs.Common.{◌≡◌, Some, None, sym, ap, ◌∙◌, subst}
use mathlib.Core.Option.{some-injective}
use Rattle.jm_turn.specs.Steps.{since}
use Rattle.jm_turn.specs.Closing.{Accounts}
use Rattle.jm_turn.proofs.Closings.{closes, once_of}
use Rattle.jm_turn.proofs.turn.Turn.close.Goals as goal

pub unreachable-requires : goal.unreachable-requires
unreachable-requires g c =
    let f = c.close_with-closed.ensures.values.2 in
    let opens = ap (λ k. k.view.kind) c.pass.view_is ∙ c.requires.opening in
    let idle = ap (λ k. k.view.stage) c.pass.view_is ∙ c.requires.idle in
    let alone = ap (λ k. k.view.out) c.pass.view_is ∙ c.requires.alone in
    let t = closes g.T.Told.stands c.args.self.table.shared.key.value f.0 f.1.0 c.pass.inside.seat.id c.pass.inside.seat.me.0 f.1.1 opens idle alone in
    let e = some-injective _ _ (sym c.take-last.ensures.value ∙ f.4 0 (Some (t.0)) t.1) in
    let none : None ≡ Some (t.0) = sym c.in-None.is ∙ e in
    absurd (cc)

pub returns-clause-value : goal.returns-clause-value
returns-clause-value g c =
    let f = c.close_with-closed.ensures.values.2 in
    let opens = ap (λ k. k.view.kind) c.pass.view_is ∙ c.requires.opening in
    let idle = ap (λ k. k.view.stage) c.pass.view_is ∙ c.requires.idle in
    let alone = ap (λ k. k.view.out) c.pass.view_is ∙ c.requires.alone in
    let t = closes g.T.Told.stands c.args.self.table.shared.key.value f.0 f.1.0 c.pass.inside.seat.id c.pass.inside.seat.me.0 f.1.1 opens idle alone in
    let e = some-injective _ _ (sym c.take-last.ensures.value ∙ f.4 0 (Some (t.0)) t.1) in
    let both : Some c.in-Some.value ≡ Some (t.0) = sym c.in-Some.is ∙ e in
    let same : t.0 ≡ c.in-Some.value = cc in
    subst (λ x. since g.T.Told.stands c.args.pass.view.first x c.args.pass.view.seen) same (subst (λ k. since g.T.Told.stands k.view.first (t.0) k.view.seen) c.pass.view_is t.3)

pub returns-clause-accounts : goal.returns-clause-accounts
returns-clause-accounts g c =
    let f = c.close_with-closed.ensures.values.2 in
    let opens = ap (λ k. k.view.kind) c.pass.view_is ∙ c.requires.opening in
    let idle = ap (λ k. k.view.stage) c.pass.view_is ∙ c.requires.idle in
    let alone = ap (λ k. k.view.out) c.pass.view_is ∙ c.requires.alone in
    let t = closes g.T.Told.stands c.args.self.table.shared.key.value f.0 f.1.0 c.pass.inside.seat.id c.pass.inside.seat.me.0 f.1.1 opens idle alone in
    subst (λ k. Accounts k.view) c.pass.view_is t.4

pub returns-clause-once : goal.returns-clause-once
returns-clause-once g c =
    let f = c.close_with-closed.ensures.values.2 in
    let opens = ap (λ k. k.view.kind) c.pass.view_is ∙ c.requires.opening in
    let idle = ap (λ k. k.view.stage) c.pass.view_is ∙ c.requires.idle in
    let alone = ap (λ k. k.view.out) c.pass.view_is ∙ c.requires.alone in
    let t = closes g.T.Told.stands c.args.self.table.shared.key.value f.0 f.1.0 c.pass.inside.seat.id c.pass.inside.seat.me.0 f.1.1 opens idle alone in
    once_of c.args.pass.view (subst (λ k. Accounts k.view) c.pass.view_is t.4)
