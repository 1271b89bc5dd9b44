use Rattle.jm_desk.specs.SharingLaws.{adds_own}
use Rattle.jm_desk.proofs.laws.adds_own_turn.Goals as goal

pub returns : goal.returns
returns c = λ desk old new call came m. adds_own desk old new call came m
