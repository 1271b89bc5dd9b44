-- What went through a port, over any number of its calls that did not fail to receive.
use Rattle.std.specs.Prelude.{◌≡◌, ℕ, ◌+◌, ◌-◌, ◌^◌, ◌≤◌, min, Bool, List, [], ◌∷◌, ◌++◌, Option, Some, None, IfSome, if◌then◌else◌}
use Rattle.std.specs.Option.{option_map}
use Rattle.jm_edge.specs.Wire.{Letter, Wire}

-- a datagram that was to be sent, and whether its send failed
pub record Sending : Type 0 where
  pub letter : Letter
  pub is_lost : Bool

abbrev pub went : List Sending → List Letter
went [] = []
went (sending ∷ sendings) = if sending.is_lost then went sendings else sending.letter ∷ went sendings

abbrev pub lost : List Sending → ℕ
lost [] = 0
lost (sending ∷ sendings) = (if sending.is_lost then 1 else 0) + lost sendings

abbrev pub letters_in : List Sending → List Letter
letters_in [] = []
letters_in (sending ∷ sendings) = sending.letter ∷ letters_in sendings

-- the datagrams that receives gave, each a datagram or none
abbrev pub taken : List (Option Letter) → List Letter
taken [] = []
taken (Some letter ∷ givens) = letter ∷ taken givens
taken (None ∷ givens) = taken givens

-- where a receive gave none, none came behind it and none is left
abbrev pub IsQuietAtEnd : List (Option Letter) → (left : List Letter) → Type 0
IsQuietAtEnd [] left = Unit {0}
IsQuietAtEnd (Some letter ∷ givens) left = IsQuietAtEnd givens left
IsQuietAtEnd (None ∷ givens) left = taken givens ++ left ≡ []

-- Where the port tells it, the datagrams that were taken stood at the front of those arriving, and what went out stands behind
-- what had. At most as many sends are missing as the count of failed ones rose.
pub record Exchanges (givens : List (Option Letter)) (sendings : List Sending) (old new : Wire) : Type 0 where
  pub takes : old.arriving ≡ option_map (λ rest. taken givens ++ rest) new.arriving
  pub quiet : IfSome new.arriving (IsQuietAtEnd givens)
  pub adds : new.gone ≡ option_map (λ gone. gone ++ went sendings) old.gone
  pub missing : min (old.send_faults + lost sendings) (2 ^ 64 - 1) ≤ new.send_faults
  pub counted : old.recv_faults ≤ new.recv_faults
