use Rattle.std.proofs.Common.{sym, ap, ◌∙◌, subst, rules}
use Rattle.jm_turn.specs.Rule.{counts}
use Rattle.jm_turn.specs.Steps.{Sees, Finds}
use Rattle.jm_turn.specs.Known.{HandOf}
use Rattle.jm_turn.proofs.Parts.{joins_part}
use Rattle.jm_turn.proofs.Steps.{looks}
use Rattle.jm_turn.proofs.Passes.{hand_idle, sound_seen, sees_joined}
use Rattle.jm_turn.proofs.pass.Pass.join.Goals as goal

pub join_seat-requires : goal.join_seat-requires
join_seat-requires g c =
    let idle = ap (λ k. k.view.stage) c.other.view_is ∙ c.requires.idle.1 in (
      search rules,
      search rules,
      hand_idle c.other.inside.seat.me.0.stage c.other.inside.seat.me.1 idle c.other.invariant.1,
      search rules,
      joins_part g.T.Told.stands c.args.turn.now.table.shared.key.value _ _ _ _ (ap (λ k. k.view.kind) c.self.view_is ∙ c.requires.kinds.0) (ap (λ k. k.view.kind) c.other.view_is ∙ c.requires.kinds.1)
          (ap (λ k. k.view.stage) c.self.view_is ∙ c.requires.idle.0) idle,
    )

pub load-requires : goal.load-requires
load-requires g c = (search rules, search rules, looks g.T.Told.stands c.args.turn.now.table.shared.key.value _ _ c.join_seat.new.seat.me (ap (λ m. counts m.0.kind) c.join_seat.ensures.2 ∙ c.self.invariant.0.counts))

pub invariant_of-self : goal.invariant_of-self
invariant_of-self g c =
    let j = c.join_seat.ensures.2 in
    sound_seen g.T.Told.stands c.join_seat.new.seat.me _ _ (ap (λ m. counts m.0.kind) j ∙ c.self.invariant.0.counts) (subst (λ m. HandOf m.0.stage m.1) (sym j) c.self.invariant.1) c.load.ensures.2.0 c.load.ensures.2.1.sees

pub returns-clause-seen : goal.returns-clause-seen
returns-clause-seen g c =
    let found = subst (λ m. Finds g.T.Told.stands m.0 c.load.new.seat.me.0.seen) c.join_seat.ensures.2 c.load.ensures.2.1 in
    subst (λ k. Sees g.T.Told.stands k.view c.load.new.seat.me.0.seen) c.self.view_is (sees_joined g.T.Told.stands c.self.inside.seat.me.0 c.other.inside.seat.me.0 c.load.new.seat.me.0.seen c.self.invariant.0 found)
