-- Whose the turns are, at the end.
use Rattle.std.specs.Prelude.{◌≡◌, ℕ, ◌+◌, ◌<◌, List, length}
use Rattle.jm_turn.specs.declared.view.View.{View}
use Rattle.jm_turn.specs.Turns.{places, Everyone}
use Rattle.jm_turn.specs.Rule.{total, one_at, ended_as, EndedOwn}

-- how often k stands in the list
abbrev pub times : ℕ → List ℕ → ℕ
times k xs = total (one_at k) xs

-- `mine` and each list of `ended` are exactly the places of their numbers, and each turn is of just one of these passes
pub record Accounts {T C : Type 0} (v : View T C) : Type 0 where
  pub own : v.mine ≡ places v.number 0 v.seen
  pub ended : EndedOwn v.seen v.ended
  pub each : Everyone (λ by. one_at by v.number + total (ended_as by) v.ended ≡ 1) v.seen

-- each place of the history stands in `mine` or in a list of `ended`, in just one of these, and once
abbrev pub StandsOnce : {T C : Type 0} → View T C → Type 0
StandsOnce v = (k : ℕ) → k < length v.seen → times k v.mine + total (λ (e : ℕ × List ℕ). times k e.1) v.ended ≡ 1
