-- What a socket took: as many octets as the buffer has, at most.
use Rattle.std.specs.Prelude.{ℕ, ◌≤◌, List, length, Option, IfSome}
use Rattle.std.specs.Counts.{IsPrefixLen}

abbrev pub OnTaken : {A : Type 0} → (buffer : List ℕ) → Option (ℕ × A) → Type 0
OnTaken buffer taken = IfSome taken (λ t. t.0 ≤ length buffer)
