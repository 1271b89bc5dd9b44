use Rattle.std.proofs.Common.{[], ◌∷◌, ◌++◌, Some, sym, ap, ◌∙◌, subst}
use Rattle.jm_turn.proofs.Closings.{starts}
use Rattle.jm_turn.proofs.turn.Turn.new.Goals as goal

pub new-requires : goal.new-requires
new-requires g c = starts g.T.Told.stands c.of-first.result.value c.push.new.self.items (c.in_ok-push.ensures.items ∙ (ap (λ l. l ++ Some c.args.value ∷ []) c.new-slots.ensures.items ∙ ap (λ x. Some x ∷ []) (sym c.of-first.ensures))) (subst (λ x. g.T.Told.stands x x []) (sym c.of-first.ensures) c.requires)
