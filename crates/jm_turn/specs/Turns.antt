-- Lists of turns: which places are whose, and how one list goes on from another.
use Rattle.std.specs.Prelude.{◌≡◌, ◌≢◌, ℕ, ◌+◌, List, [], ◌∷◌, ◌++◌, length, nat_lt, ◌==◌, if◌then◌else◌}
use Rattle.jm_turn.specs.declared.view.Made.{Made}

module _ {C : Type 0} where
  abbrev pub made : ℕ → C → Made C
  made by what = record { by = by; what = what }

  -- the places of the turns of pass n, where the first turn of the list has this place
  abbrev pub places : (n place : ℕ) → List (Made C) → List ℕ
  places n place [] = []
  places n place (m ∷ ms) = if m.by == n then place ∷ places n (place + 1) ms else places n (place + 1) ms

  -- each turn is of a pass whose number has P
  abbrev pub Everyone : (ℕ → Type 0) → List (Made C) → Type 0
  Everyone P [] = Unit {0}
  Everyone P (m ∷ ms) = P m.by × Everyone P ms

  -- no turn is of pass n
  abbrev pub AllOthers : ℕ → List (Made C) → Type 0
  AllOthers n ms = Everyone (λ by. by ≢ n) ms

  -- ys begins with xs
  abbrev pub Begins : List (Made C) → List (Made C) → Type 0
  Begins xs ys = (more : List (Made C)) × (ys ≡ xs ++ more)

  -- ys is xs, and then turns of other passes than n
  abbrev pub Follows : ℕ → List (Made C) → List (Made C) → Type 0
  Follows n xs ys = (more : List (Made C)) × (ys ≡ xs ++ more) × AllOthers n more

  -- the longer of two lists; the second where both are as long
  abbrev pub longer : List (Made C) → List (Made C) → List (Made C)
  longer xs ys = if nat_lt (length ys) (length xs) then xs else ys
