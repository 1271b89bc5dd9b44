-- What contracts see of a pass, and what is always so of it.
use Rattle.std.specs.Prelude.{◌≡◌, ℕ, List, [], ◌∷◌, Option, None}
use Rattle.atomic_table.specs.Seated.{TableId}
use Rattle.jm_turn.specs.declared.view.Made.{Made}
use Rattle.jm_turn.specs.declared.view.View.{View}
use Rattle.jm_turn.specs.declared.view.Stage.{Stage}
use Rattle.jm_turn.specs.declared.view.Stage.TheVariants.{Idle, Waiting, Holding}
use Rattle.jm_turn.specs.Turns.{places}
use Rattle.jm_turn.specs.Rule.{counts}
use Rattle.jm_turn.specs.Steps.{since, Named}

-- which table and seat it is of, and what it knows
pub record Known (T C : Type 0) : Type 0 where
  pub table : TableId
  pub seat : ℕ
  pub view : View T C

-- The pass can take turns. What it has seen is legal, its places are those of its own turns, and the opening pass gave out the numbers
pub record IsPass {T C : Type 0} (stands : T → T → List (Made C) → Type 0) (v : View T C) : Type 0 where
  pub counts : counts v.kind ≡ 1
  pub legal : (x : T) × since stands v.first x v.seen
  pub own : v.mine ≡ places v.number 0 v.seen
  pub named : Named v v.seen

-- the slot is out with the pass while its turn has come, and is empty then
abbrev pub HandOf : {T : Type 0} → Stage → List (ℕ × Option T) → Type 0
HandOf Idle hand = hand ≡ []
HandOf Waiting hand = hand ≡ []
HandOf Holding hand = hand ≡ (0, None) ∷ []
