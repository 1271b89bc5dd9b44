-- What a served session sends through a port, and the sends that it counts as failed.
use Rattle.std.specs.Prelude.{◌≡◌, ℕ, List, [], ◌∷◌, Option, if◌then◌else◌}
use Rattle.jm_edge.specs.declared.Addr.{Addr}
use Rattle.jm_edge.specs.Exchange.{Sending, letters_in, Exchanges}
use Rattle.jm_edge.specs.Faults.{one_more}
use Rattle.jm_edge.specs.Wire.{Letter, Wire}

-- these octets, to each of these addresses
abbrev pub letters_to : (octets : List ℕ) → List Addr → List Letter
letters_to octets [] = []
letters_to octets (addr ∷ addrs) = record { addr = addr; octets = octets } ∷ letters_to octets addrs

-- a count of failed sends after these: one more for each that failed
abbrev pub counted : (faults : ℕ) → List Sending → ℕ
counted faults [] = faults
counted faults (sending ∷ sendings) = counted (if sending.is_lost then one_more faults else faults) sendings

-- These datagrams were sent, with these receives between, and the sends that failed were counted.
pub record Posts (givens : List (Option Letter)) (letters : List Letter) (faults faults' : ℕ) (old new : Wire) : Type 0 where
  pub sendings : List Sending
  pub given : letters_in sendings ≡ letters
  pub exchanges : Exchanges givens sendings old new
  pub faults_are : faults' ≡ counted faults sendings
