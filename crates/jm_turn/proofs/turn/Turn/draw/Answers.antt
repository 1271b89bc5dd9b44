use Rattle.std.proofs.Common.{rules}
use Rattle.jm_turn.proofs.Steps.{draws}
use Rattle.jm_turn.proofs.Passes.{sound_draw}
use Rattle.jm_turn.proofs.turn.Turn.draw.Goals as goal

pub fetch_add-requires : goal.fetch_add-requires
fetch_add-requires g c = (search rules, search rules, draws g.T.Told.stands c.args.self.now.table.shared.key.value _ _ c.pass.inside.seat.me c.pass.invariant.0.counts (search rules))

pub invariant_of-pass : goal.invariant_of-pass
invariant_of-pass g c = let d = c.fetch_add.ensures.2 in sound_draw g.T.Told.stands c.pass.inside.seat.me _ d.0 c.pass.invariant (search rules) d.2
