-- What was written to a sink, where it tells that.
use Rattle.std.specs.Prelude.{◌≡◌, ℕ, List, ◌++◌, Option}
use Rattle.std.specs.Option.{option_map}

-- the text was written whole
abbrev pub Wrote : Option (List ℕ) → Option (List ℕ) → List ℕ → Type 0
Wrote old new text = new ≡ option_map (λ so_far. so_far ++ text) old

-- a front of the text was written
pub record WrotePart (old new : Option (List ℕ)) (text : List ℕ) : Type 0 where
  pub front : List ℕ
  pub rest : List ℕ
  pub split : text ≡ front ++ rest
  pub wrote : Wrote old new front
