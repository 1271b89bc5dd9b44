-- What one receive gave.
use Rattle.std.specs.Prelude.{◌≡◌, [], ◌∷◌, Option}
use Rattle.jm_edge.specs.declared.Addr.{Addr}
use Rattle.jm_edge.specs.Wire.{Letter, Wire}
use Rattle.apple_msg.specs.declared.message.Message.{Message}
use Rattle.jm_edge.specs.Exchange.{Exchanges}
use Rattle.apple_call.specs.Turns.{message_of}

-- a datagram or none, and what it says
pub record Hears (heard : Option (Addr × Message)) (old new : Wire) : Type 0 where
  pub given : Option Letter
  pub says : heard ≡ message_of given
  pub exchanges : Exchanges (given ∷ []) [] old new
