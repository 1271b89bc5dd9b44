use Rattle.jm_state.specs.ParamLaws.{entered_own, entered_few, entered_other, dropped_other}
use Rattle.jm_state.proofs.laws.enters_last.Goals as goal

pub returns : goal.returns
returns c = record { own = entered_own; few = entered_few; others = entered_other; taken = dropped_other }
