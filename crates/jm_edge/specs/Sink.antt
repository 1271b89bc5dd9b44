-- What a write did, and to what was written.
use Rattle.std.specs.Prelude.{◌≡◌, ℕ, ◌<◌, ◌≤◌, List, ◌++◌, take, Option, ⊤}
use Rattle.std.specs.Option.{option_map}
use Rattle.jm_edge.specs.declared.sink.Put.{Put}
use Rattle.jm_edge.specs.declared.sink.Put.TheVariants.{Took, Failed}

-- octets were taken, at least one and at most `offered`, if any
abbrev pub IsWithin : Put → (offered : ℕ) → Type 0
IsWithin (Took count) offered = (0 < count) × (count ≤ offered)
IsWithin Failed offered = ⊤

-- What a write did to the octets that were written, where they are told: the first of the piece follow
-- them, and a fault adds none. An object that tells goes on telling, and one that doesn't never begins.
abbrev pub Adds : Put → (piece : List ℕ) (old new : Option (List ℕ)) → Type 0
Adds (Took count) piece old new = new ≡ option_map (λ so_far. so_far ++ take count piece) old
Adds Failed piece old new = new ≡ old

-- a fact for the one answer
abbrev pub OnFailed : Put → Type 0 → Type 0
OnFailed (Took count) fact = ⊤
OnFailed Failed fact = fact
