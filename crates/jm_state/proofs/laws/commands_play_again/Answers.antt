use Rattle.jm_state.specs.ReplayLaws.{plays_again}
use Rattle.jm_state.proofs.laws.commands_play_again.Goals as goal

pub returns : goal.returns
returns c = plays_again
