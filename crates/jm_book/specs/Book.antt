-- What contracts see of a book.
use Rattle.std.specs.Prelude.{ℕ, ◌≡◌, ◌+◌, ◌≤◌, ◌<◌, Bool, List, [], ◌∷◌, ◌++◌, length, if◌then◌else◌}
use Rattle.jm_book.specs.declared.steps.Config.{Config}
use Rattle.jm_book.specs.declared.steps.Step.{Step}

-- the configuration, the steps that were taken, and for how many further ones there is room
pub record Told : Type 0 where
  pub config : Config
  pub steps : List Step
  pub spare : ℕ

-- there is room for a step, or none may be taken
abbrev pub IsReady : Told → Type 0
IsReady book = length book.steps < book.config.events → 1 ≤ book.spare

-- just this step was taken where `taken`, else nothing changed
pub record Takes (old new : Told) (taken : Bool) (step : Step) : Type 0 where
  pub config : new.config ≡ old.config
  pub steps : new.steps ≡ (if taken then old.steps ++ step ∷ [] else old.steps)
  pub spare : old.spare ≤ new.spare + (if taken then 1 else 0)
