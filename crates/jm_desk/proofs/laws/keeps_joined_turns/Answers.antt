use Rattle.jm_desk.specs.OwnTurns.{ended_turns}
use Rattle.jm_desk.proofs.laws.keeps_joined_turns.Goals as goal

pub returns : goal.returns
returns c = λ last n mine seen accounts has own begins. ended_turns last n mine seen accounts has own begins
