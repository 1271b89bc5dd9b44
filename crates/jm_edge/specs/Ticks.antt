-- Moments: whole numbers of 100 microseconds, at most 2^62.
use Rattle.std.specs.Prelude.{◌≡◌, ℕ, ◌+◌, ◌*◌, ◌^◌, ◌≤◌, min, Option, IfSome}
use Rattle.std.specs.Option.{option_map}

-- the moments of the next calls, from one call later on
abbrev pub later : (ℕ → ℕ) → (ℕ → ℕ)
later coming k = coming (k + 1)

-- A call gave a moment: the first of those that were coming, where they are told. Then the others are.
pub record Ticks (moment : ℕ) (before after : Option (ℕ → ℕ)) : Type 0 where
  pub first : IfSome before (λ coming. moment ≡ coming 0)
  pub others : after ≡ option_map later before

-- a clock that begins at a moment and goes on by a step at each call, up to 2^62
abbrev pub stepping : (moment step : ℕ) → (ℕ → ℕ)
stepping moment step k = min (moment + k * step) (2 ^ 62)
