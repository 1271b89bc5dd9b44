use Rattle.jm_desk.specs.OwnTurns.{turns_by-follows}
use Rattle.jm_desk.proofs.laws.learns_no_own_turn.Goals as goal

pub returns : goal.returns
returns c = λ n old new h. turns_by-follows n old new h
