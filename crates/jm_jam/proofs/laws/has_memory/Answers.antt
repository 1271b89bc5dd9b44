use Rattle.jm_jam.proofs.Plays.{has_memory}
use Rattle.jm_jam.proofs.laws.has_memory.Goals as goal

pub returns : goal.returns
returns c = λ seed count turns jam. has_memory seed count turns jam
