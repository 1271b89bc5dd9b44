-- What a receiver is.
use Rattle.std.specs.Prelude.{ℕ, List, Option}
use Rattle.jm_state.specs.declared.state.State.{State}

-- whose stream it takes, the number of the last packet that it took, if there is one, the state after that packet, and the data octets
-- of a message whose segments have come so far, if one is unfinished
pub record Received : Type 0 where
  pub ssrc : ℕ
  pub last : Option ℕ
  pub state : State
  pub unfinished : Option (List ℕ)
