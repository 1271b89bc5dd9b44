-- A history is a list of places in the order of time. A place says in which packet it was sent, and a
-- later place may end it. Nothing here knows what a place is: each part of the recovery journal has its
-- own notion of what ends what.
use Rattle.std.specs.Prelude.{◌≡◌, ℕ, ◌≤◌, Bool, false, List, [], ◌∷◌, nat_lt, nat_le, ◌==◌, if◌then◌else◌, filter}
use Rattle.std.specs.List.{list_any, AllByRecursion}

-- the places that no later place ends, in order
abbrev pub standing : {X : Type 0} → (X → X → Bool) → List X → List X
standing ends [] = []
standing ends (x ∷ xs) = if list_any (ends x) xs then standing ends xs else x ∷ standing ends xs

-- the places in packets before this one
abbrev pub below : {X : Type 0} → (X → ℕ) → (packet : ℕ) → List X → List X
below packet_at packet xs = filter (λ x. nat_lt (packet_at x) packet) xs

-- the places in packets from this one on
abbrev pub since : {X : Type 0} → (X → ℕ) → (packet : ℕ) → List X → List X
since packet_at packet xs = filter (λ x. nat_le packet (packet_at x)) xs

-- the places in this packet
abbrev pub within : {X : Type 0} → (X → ℕ) → (packet : ℕ) → List X → List X
within packet_at packet xs = filter (λ x. packet_at x == packet) xs

-- What a journal with this checkpoint codes: the places that no later one ends, from the checkpoint on
-- (RFC 6295, A.1: the checkpoint history).
abbrev pub coded : {X : Type 0} → (X → X → Bool) → (X → ℕ) → (checkpoint : ℕ) → List X → List X
coded ends packet_at checkpoint xs = since packet_at checkpoint (standing ends xs)

-- the numbers never fall along the list
abbrev pub InOrder : {X : Type 0} → (X → ℕ) → List X → Type 0
InOrder number_at [] = Unit {0}
InOrder number_at (x ∷ xs) = AllByRecursion (λ y. number_at x ≤ number_at y) xs × InOrder number_at xs

-- no place is ended by a later one
abbrev pub Unended : {X : Type 0} → (X → X → Bool) → List X → Type 0
Unended ends [] = Unit {0}
Unended ends (x ∷ xs) = AllByRecursion (λ y. ends x y ≡ false) xs × Unended ends xs

-- each place with the state before it
abbrev pub scanned : {S X : Type 0} → (S → X → S) → S → List X → List (S × X)
scanned step s [] = []
scanned step s (x ∷ xs) = (s, x) ∷ scanned step (step s x) xs
