use Rattle.jm_state.specs.SettingLaws.{sets_alone, reads_as_set}
use Rattle.jm_state.proofs.laws.sets_one_part.Goals as goal

pub returns : goal.returns
returns c = λ s is. record { alone = sets_alone s is; as_set = reads_as_set s is }
