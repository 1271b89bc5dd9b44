-- The moments that a clock gave.
use Rattle.std.specs.Prelude.{◌≡◌, ℕ, List, [], ◌∷◌, Option, IfSome}
use Rattle.std.specs.Option.{option_map}
use Rattle.jm_edge.specs.Ticks.{later}

abbrev pub AreFirst : List ℕ → (coming : ℕ → ℕ) → Type 0
AreFirst [] coming = Unit {0}
AreFirst (moment ∷ moments) coming = (moment ≡ coming 0) × AreFirst moments (later coming)

abbrev pub coming_behind : List ℕ → (coming : ℕ → ℕ) → (ℕ → ℕ)
coming_behind [] coming = coming
coming_behind (moment ∷ moments) coming = coming_behind moments (later coming)

-- the clock gave these moments, which are the first of those that it tells
pub record Gave (moments : List ℕ) (old new : Option (ℕ → ℕ)) : Type 0 where
  pub first : IfSome old (AreFirst moments)
  pub others : new ≡ option_map (coming_behind moments) old
