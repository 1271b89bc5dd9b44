-- What each kind of step tells the pass that steps.
use Rattle.std.specs.Prelude.{◌≡◌, ◌≢◌, ℕ, ◌%◌, ◌<◌, List, ◌∷◌, length, Option, Some, None}
use Rattle.atomic_table.specs.Table.{Me, Step, rest}
use Rattle.jm_turn.specs.declared.view.Made.{Made}
use Rattle.jm_turn.specs.declared.view.View.{View}
use Rattle.jm_turn.specs.declared.view.Stage.TheVariants.{Holding}
use Rattle.jm_turn.specs.declared.view.Kind.TheVariants.{Opening}
use Rattle.jm_turn.specs.Turns.{places, Everyone, Begins, Follows}
use Rattle.jm_turn.specs.Views.{drew, saw, took, gave}

-- what the value stands for, from the value that a pass says was shared at first
abbrev pub since : {T C : Type 0} → (T → T → List (Made C) → Type 0) → Option T → T → List (Made C) → Type 0
since stands None x log = ⊥
since stands (Some first) x log = stands first x log

-- the opening pass knows that the numbers that take turns are those that it gave out, its own among them
abbrev pub Named : {T C : Type 0} → View T C → List (Made C) → Type 0
Named v seen = v.kind ≡ Opening → (v.number < v.next) × Everyone (λ by. by < v.next) seen

-- From the view v the list `seen` was found: all that v had seen, then turns of others. It is legal.
pub record Sees {T C : Type 0} (stands : T → T → List (Made C) → Type 0) (v : View T C) (seen : List (Made C)) : Type 0 where
  pub more : Follows v.number v.seen seen
  pub legal : (x : T) × since stands v.first x seen
  pub own : v.mine ≡ places v.number 0 seen
  pub named : Named v seen

-- The same, and it begins with what this view learned last.
pub record Finds {T C : Type 0} (stands : T → T → List (Made C) → Type 0) (v : View T C) (seen : List (Made C)) : Type 0 where
  pub sees : Sees stands v seen
  pub before : Begins v.before seen
  pub told : Begins v.told seen

-- the pass at the table: its view, and the slot if it has it
abbrev pub Sat : Type 0 → Type 0 → Type 0
Sat T C = Me (Option T) (View T C)

module _ {T C : Type 0} where
  abbrev pub Draws : Step (Option T) → Sat T C → ℕ → Sat T C → Type 0
  Draws st m found m' = (ticket : ℕ) × (found ≡ ticket % 18446744073709551616) × (m' ≡ (drew ticket m.0, m.1))

  -- nothing changed but what was seen, which is as long as the word tells. A pass that has the value sees nothing new
  abbrev pub Looks : (T → T → List (Made C) → Type 0) → Step (Option T) → Sat T C → ℕ → Sat T C → Type 0
  Looks stands st m found m' =
      (m' ≡ (saw m'.0.seen m.0, m.1)) × Finds stands m.0 m'.0.seen × (found ≡ length m'.0.seen % 18446744073709551616) × (m.0.stage ≡ Holding → m'.0.seen ≡ m.0.seen)

  -- at the own ticket the value is taken, and stands for the whole history; else it was a look
  abbrev pub Takes : (T → T → List (Made C) → Type 0) → Step (Option T) → Sat T C → ℕ → Sat T C → Type 0
  Takes stands st m found m' =
      (found ≡ m.0.ticket % 18446744073709551616
      → (x : T) × (m' ≡ (took m'.0.seen m.0, (0, Some x) ∷ m.1)) × Finds stands m.0 m'.0.seen × since stands m.0.first x m'.0.seen)
      × (found ≢ m.0.ticket % 18446744073709551616 → (m' ≡ (saw m'.0.seen m.0, m.1)) × Finds stands m.0 m'.0.seen)

  -- the turn was made
  abbrev pub Commits : C → Step (Option T) → Sat T C → ℕ → Sat T C → Type 0
  Commits what st m found m' = m' ≡ (gave what m.0, rest m.1)
