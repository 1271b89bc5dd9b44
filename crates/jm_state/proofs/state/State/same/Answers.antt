use Rattle.jm_state.specs.Sameness.{same_decided}
use Rattle.jm_state.proofs.state.State.same.Goals as goal

-- src/comparing.rt
pub returns-clause-test : goal.returns-clause-test
returns-clause-test c = same_decided c.are_same-same.result c.args.self.now c.args.other.now c.are_same-same.ensures.holds c.are_same-same.ensures.else_not
