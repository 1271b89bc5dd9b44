-- Workers side by side.
use Rattle.std.specs.Prelude.{ℕ, Bool}
use Rattle.jm_desk.specs.Sharing.{Shared, PassView, IsOf}
use Rattle.jm_jam.specs.declared.hand.Hand.{Hand}
use Rattle.jm_jam.specs.Workers.{Program, Worked}

-- a worker's pass came back from its work, with a flag that says whether there was memory for all of it
pub record Serves (desk : Shared) (seed count : ℕ) (hand : Hand) (back : PassView × Bool) : Type 0 where
  pub own : IsOf desk back.0
  pub worked : Worked (Program hand.job seed count) back.1 hand.pass back.0

abbrev pub AreOf : Shared → Hand × Hand → Type 0
AreOf desk hands = IsOf desk hands.0.pass × IsOf desk hands.1.pass

pub record ServesTwo (desk : Shared) (seed count : ℕ) (hands : Hand × Hand) (back : (PassView × Bool) × (PassView × Bool)) : Type 0 where
  pub one : Serves desk seed count hands.0 back.0
  pub other : Serves desk seed count hands.1 back.1
