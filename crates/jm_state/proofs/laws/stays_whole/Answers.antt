use Rattle.jm_state.specs.KeptLaws.{no_state_is, state_after_is}
use Rattle.jm_state.proofs.laws.stays_whole.Goals as goal

-- src/laws.rt:8:1
pub returns : goal.returns
returns c = record { begins = no_state_is; goes_on = state_after_is }
