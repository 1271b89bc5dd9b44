-- The rule of a shared value: what holds of the table between any two steps.
-- Word 0 counts the tickets that were drawn, word 1 the turns that were made, both modulo 2^64. The one slot is at home while no pass has the value.
use Rattle.std.specs.Prelude.{◌≡◌, ◌≢◌, ℕ, ◌+◌, ◌%◌, ◌<◌, ◌≤◌, List, [], ◌∷◌, length, nat_lt, ◌==◌, if◌then◌else◌, Option, Some}
use mathlib.Core.Option.{some}
use lib.ListN.{get_elem?}
use Rattle.atomic_table.specs.Table.{State}
use Rattle.jm_turn.specs.declared.view.Made.{Made}
use Rattle.jm_turn.specs.declared.view.View.{View}
use Rattle.jm_turn.specs.declared.view.Stage.{Stage}
use Rattle.jm_turn.specs.declared.view.Stage.TheVariants.{Idle, Waiting, Holding}
use Rattle.jm_turn.specs.declared.view.Kind.{Kind}
use Rattle.jm_turn.specs.declared.view.Kind.TheVariants.{Opening, Split, Note, Spent}
use Rattle.jm_turn.specs.Turns.{places, Everyone, Begins, Follows}

-- what f gives for each, added up
abbrev pub total : {A : Type 0} → (A → ℕ) → List A → ℕ
total f [] = 0
total f (x ∷ xs) = f x + total f xs

-- how many tickets
abbrev pub tickets : Stage → ℕ
tickets Idle = 0
tickets Waiting = 1
tickets Holding = 1

-- 1 for a pass that can take turns, 0 for notes and what is spent
abbrev pub counts : Kind → ℕ
counts Opening = 1
counts Split = 1
counts Note = 0
counts Spent = 0

-- 1 for the one number, 0 for the others
abbrev pub one_at : (n k : ℕ) → ℕ
one_at n k = if k == n then 1 else 0

-- 1 for the pass of this number
abbrev pub numbered : {T C : Type 0} → ℕ → View T C → ℕ
numbered n v = if v.number == n then counts v.kind else 0

abbrev pub queued : {T C : Type 0} → View T C → ℕ
queued v = tickets v.stage

abbrev pub counted : {T C : Type 0} → View T C → ℕ
counted v = counts v.kind

-- 1 for the passes of this number that have ended
abbrev pub ended_as : ℕ → ℕ × List ℕ → ℕ
ended_as n e = one_at n e.0

abbrev pub once_below : (n next : ℕ) → ℕ
once_below n next = if nat_lt n next then 1 else 0

-- What one view says is so. The history is `log`, the value shared at first is `first`, and so many tickets are out.
pub record Fits {T C : Type 0} (first : T) (log : List (Made C)) (out : ℕ) (v : View T C) : Type 0 where
  -- it knows the first value, unless it is spent
  pub given : v.kind ≢ Spent → v.first ≡ Some first
  -- what it has seen begins the history
  pub begins : Begins v.seen log
  -- where it can take turns, it has seen all turns of its own, and these are its places
  pub others : counts v.kind ≡ 1 → Follows v.number v.seen log
  pub own : counts v.kind ≡ 1 → v.mine ≡ places v.number 0 v.seen
  -- what it learned last begins what it has seen
  pub before : Begins v.before v.seen
  pub told : Begins v.told v.seen
  -- a ticket belongs to a pass that can take turns, and is one of those from the next turn on
  pub waits : tickets v.stage ≡ 1 → (counts v.kind ≡ 1) × (length log ≤ v.ticket) × (v.ticket < length log + out)
  -- where its turn has come, its ticket is the next turn's and it has seen the whole history
  pub holds : v.stage ≡ Holding → (v.ticket ≡ length log) × (v.seen ≡ log)

-- The words, the tickets and the slot.
pub record Line {T C : Type 0} (first : T) (stands : T → List (Made C) → Type 0) (log : List (Made C)) (s : State (Option T) (View T C)) : Type 0 where
  pub words : s.words ≡ (length log + total queued s.views) % 18446744073709551616 ∷ length log % 18446744073709551616 ∷ []
  -- the history is legal: some value stands for it
  pub legal : (x : T) × stands x log
  pub each_seat : (j : ℕ) (v : View T C) → get_elem? s.views j ≡ some v → Fits first log (total queued s.views) v
  -- no two passes have one ticket. There are as many tickets as there are numbers for them, so they are all of these
  pub apart : (j k : ℕ) (v w : View T C) → get_elem? s.views j ≡ some v → get_elem? s.views k ≡ some w → tickets v.stage ≡ 1 → tickets w.stage ≡ 1 → v.ticket ≡ w.ticket → j ≡ k
  -- unless some pass has the value it is at home, and stands for the history
  pub home : ((j : ℕ) (v : View T C) → get_elem? s.views j ≡ some v → v.stage ≢ Holding) → (x : T) × (s.homes ≡ some (Some x) ∷ []) × stands x log

-- each pass that has ended has just the places of its number
abbrev pub EndedOwn : {C : Type 0} → List (Made C) → List (ℕ × List ℕ) → Type 0
EndedOwn log [] = Unit {0}
EndedOwn log (e ∷ es) = (e.1 ≡ places e.0 0 log) × EndedOwn log es

-- The passes. The opening pass, at the first seat, has the view `o`.
pub record Roster {T C : Type 0} (log : List (Made C)) (o : View T C) (views : List (View T C)) : Type 0 where
  pub at : get_elem? views 0 ≡ some o
  pub opens : o.kind ≡ Opening
  pub alone : (j : ℕ) (v : View T C) → get_elem? views j ≡ some v → v.kind ≡ Opening → j ≡ 0
  -- so many passes are out besides it
  pub out : total counted views ≡ o.out + 1
  -- so few that the tickets, one a pass at most, differ modulo 2^64 as well
  pub few : o.out < 4294967296
  -- each number below `next` belongs to just one pass, which is there or has ended, and no other number to any
  pub numbers : (n : ℕ) → total (numbered n) views + total (ended_as n) o.ended ≡ once_below n o.next
  -- each turn is of a number that was given out
  pub named : Everyone (λ by. by < o.next) log
  pub ended : EndedOwn log o.ended
  -- some pass has seen the whole history
  pub longest : (j : ℕ) × (v : View T C) × (get_elem? views j ≡ some v) × (counts v.kind ≡ 1) × (v.seen ≡ log)

-- The rule, for a value shared at first: there is one legal history
abbrev pub Keyed : {T C : Type 0} → (T → T → List (Made C) → Type 0) → T → State (Option T) (View T C) → Type 0
Keyed {T} {C} stands first s = (log : List (Made C)) × (o : View T C) × Line first (stands first) log s × Roster log o s.views
