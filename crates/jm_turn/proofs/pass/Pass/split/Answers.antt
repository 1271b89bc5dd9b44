use Rattle.std.proofs.Common.{ap, ◌∙◌, rules}
use Rattle.jm_turn.proofs.Parts.{splits_part}
use Rattle.jm_turn.proofs.Passes.{sound_parted, sound_part_of}
use Rattle.jm_turn.proofs.pass.Pass.split.Goals as goal

pub split_seat-requires : goal.split_seat-requires
split_seat-requires g c = (search rules, search rules, splits_part g.T.Told.stands c.args.turn.now.table.shared.key.value _ _ (ap (λ k. k.view.kind) c.self.view_is ∙ c.requires.opening) (search rules))

pub invariant_of-self : goal.invariant_of-self
invariant_of-self g c = sound_parted g.T.Told.stands c.self.inside.seat.me _ c.self.invariant c.split_seat.ensures.2

pub invariant_of-result : goal.invariant_of-result
invariant_of-result g c = sound_part_of g.T.Told.stands c.self.inside.seat.me _ c.self.invariant (ap (λ k. k.view.kind) c.self.view_is ∙ c.requires.opening) c.split_seat.ensures.4
