-- Keys with stamps, in the order of their latest touch.
use Rattle.std.specs.Prelude.{◌≡◌, ℕ, ◌<◌, ◌≤◌, Bool, true, false, ◌||◌, List, [], ◌∷◌, ◌++◌, ◌==◌, not, nat_le, if◌then◌else◌, filter, Option, Some, None}
use Rattle.std.specs.List.{AllByRecursion}

-- whether the key is there
abbrev pub holds : (key : ℕ) → List (ℕ × ℕ) → Bool
holds key [] = false
holds key (e ∷ es) = e.0 == key || holds key es

-- without the key
abbrev pub without : (key : ℕ) → List (ℕ × ℕ) → List (ℕ × ℕ)
without key es = filter (λ e. not (e.0 == key)) es

-- the key is touched: it stands last, with this stamp
abbrev pub touched : (key stamp : ℕ) → List (ℕ × ℕ) → List (ℕ × ℕ)
touched key stamp es = without key es ++ (key, stamp) ∷ []

-- those of this stamp or a later one
abbrev pub since_stamp : (stamp : ℕ) → List (ℕ × ℕ) → List (ℕ × ℕ)
since_stamp stamp es = filter (λ e. nat_le stamp e.1) es

-- no stamp is past this one
abbrev pub AreUpTo : (stamp : ℕ) → List (ℕ × ℕ) → Type 0
AreUpTo stamp es = AllByRecursion (λ e. e.1 ≤ stamp) es

-- the key that was touched longest ago
abbrev pub first_key : List (ℕ × ℕ) → Option ℕ
first_key [] = None
first_key (e ∷ es) = Some e.0

-- the key behind this one
abbrev pub next_key : (key : ℕ) → List (ℕ × ℕ) → Option ℕ
next_key key [] = None
next_key key (e ∷ es) = if e.0 == key then first_key es else next_key key es

-- the key's stamp
abbrev pub stamp_of : (key : ℕ) → List (ℕ × ℕ) → Option ℕ
stamp_of key [] = None
stamp_of key (e ∷ es) = if e.0 == key then Some e.1 else stamp_of key es

-- Keys below n, each once, with stamps from `low` on that never fall.
abbrev pub IsRecency : (n low : ℕ) → List (ℕ × ℕ) → Type 0
IsRecency n low [] = Unit {0}
IsRecency n low (e ∷ es) = (e.0 < n) × (low ≤ e.1) × (holds e.0 es ≡ false) × IsRecency n e.1 es

-- ## Going along the keys

-- the entries from the key at which a walk is; none at its end
abbrev pub from_key : List (ℕ × ℕ) → Option ℕ → List (ℕ × ℕ)
from_key [] at = []
from_key (e ∷ es) None = []
from_key (e ∷ es) (Some key) = if e.0 == key then e ∷ es else from_key es (Some key)

-- a walk is at a key that is there, or at its end
abbrev pub IsAtKey : List (ℕ × ℕ) → Option ℕ → Type 0
IsAtKey es None = Unit {0}
IsAtKey es (Some key) = holds key es ≡ true
