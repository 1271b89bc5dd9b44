-- What a read did, and to what is left.
use Rattle.std.specs.Prelude.{◌≡◌, ℕ, ◌+◌, ◌-◌, ◌^◌, ◌<◌, ◌≤◌, List, [], ◌++◌, take, Option, IfSome, ⊤}
use Rattle.std.specs.Option.{option_map}
use Rattle.jm_edge.specs.declared.source.Got.{Got}
use Rattle.jm_edge.specs.declared.source.Got.TheVariants.{Octets, Done, Failed}

-- octets came, at least one and at most `room`, if any
abbrev pub IsWithin : Got → (room : ℕ) → Type 0
IsWithin (Octets count) room = (0 < count) × (count ≤ room)
IsWithin Done room = ⊤
IsWithin Failed room = ⊤

-- What a read did to the octets that were left, where they are told: octets stand at the front of the
-- buffer and were the first of those left, an end comes only where none was left, and a fault takes none.
-- An object that tells goes on telling, and one that doesn't never begins.
abbrev pub Takes : Got → (buffer : List ℕ) (old new : Option (List ℕ)) → Type 0
Takes (Octets count) buffer old new = old ≡ option_map (λ rest. take count buffer ++ rest) new
Takes Done buffer old new = (new ≡ old) × IfSome old (λ rest. rest ≡ [])
Takes Failed buffer old new = new ≡ old

-- one call more was counted; nothing is said where the count is at the last value of 64 bits
abbrev pub OneMore : (before after : ℕ) → Type 0
OneMore before after = before < 2 ^ 64 - 1 → after ≡ before + 1

-- a fact for the one answer
abbrev pub OnFailed : Got → Type 0 → Type 0
OnFailed (Octets count) fact = ⊤
OnFailed Done fact = ⊤
OnFailed Failed fact = fact
