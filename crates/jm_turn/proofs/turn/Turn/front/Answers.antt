use Rattle.std.proofs.Common.{rules}
use Rattle.jm_turn.proofs.Steps.{looks}
use Rattle.jm_turn.proofs.Passes.{sound_look}
use Rattle.jm_turn.proofs.turn.Turn.front.Goals as goal

pub load-requires : goal.load-requires
load-requires g c = (search rules, search rules, looks g.T.Told.stands c.args.self.now.table.shared.key.value _ _ c.pass.inside.seat.me c.pass.invariant.0.counts)

pub invariant_of-pass : goal.invariant_of-pass
invariant_of-pass g c = let d = c.load.ensures.2 in sound_look g.T.Told.stands c.pass.inside.seat.me _ _ c.pass.invariant d.0 d.1.sees
