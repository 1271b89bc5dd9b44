-- What a name is.
use Rattle.std.specs.Prelude.{ℕ, ◌≢◌, ◌≤◌, List, length, All}

-- at most 63 octets, none of them 0
pub record IsName (octets : List ℕ) : Type 0 where
  pub few : length octets ≤ 63
  pub none_ends : All (λ octet. octet ≢ 0) octets
