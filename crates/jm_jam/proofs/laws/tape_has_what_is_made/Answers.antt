use Rattle.jm_jam.proofs.Plays.{tape_has}
use Rattle.jm_jam.proofs.laws.tape_has_what_is_made.Goals as goal

pub returns : goal.returns
returns c = λ seed count turns jam player few. tape_has seed count turns jam player few
