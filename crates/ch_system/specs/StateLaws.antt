-- Where an item is coded, its state is there.
use Rattle.std.proofs.Common.{◌≡◌, ℕ, Bool, true, false, ◌||◌, ◌&&◌, List, [], ◌∷◌, Option, Some, None, fold, leb, refl, inl, inr}
use Rattle.std.specs.List.{list_any, AllByRecursion, filter}
use Rattle.std.specs.Option.{is_some}
use Rattle.std.proofs.lemmas.Bool.{cases_Bool}
use Rattle.jm_cmds.specs.declared.history.Sent.{Sent}
use Rattle.jm_cmds.specs.Control.{is_reset}
use Rattle.jm_cmds.specs.History.{standing, below}
use Rattle.jm_cmds.specs.HistoryLaws.{all_unended}
use Rattle.jm_cmds.specs.Sent.{packet_of}
use Rattle.ch_system.specs.declared.items.SystemItem.{SystemItem}
use Rattle.ch_system.specs.Items.{is_of, is_place_of, item_ends, item_coded}

pub record Value {A : Type 0} (o : Option A) : Type 0 where
  pub value : A
  pub is : o ≡ Some value

pub value_of : {A : Type 0} (o : Option A) → is_some o ≡ true → Value o
value_of None e = absurd cc
value_of (Some a) e = record { value = a; is = refl }

-- a state that the item's commands make, and that only a Reset State command drops
pub record Lasts {S : Type 0} (item : SystemItem) (step : Option S → Sent → Option S) : Type 0 where
  pub made : (state : Option S) (place : Sent) → is_of item place.command ≡ true → is_some (step state place) ≡ true
  pub kept : (state : Option S) (place : Sent) → is_reset place.command ≡ false → is_some state ≡ true → is_some (step state place) ≡ true

kept_along : {S : Type 0} (item : SystemItem) (step : Option S → Sent → Option S) → Lasts item step → (state : Option S) (x : Sent) (xs : List Sent) →
    is_of item x.command ≡ true → AllByRecursion (λ later. item_ends item x later ≡ false) xs → is_some state ≡ true → is_some (fold step state xs) ≡ true
kept_along item step lasts state x [] t h s = s
kept_along item step lasts state x (y ∷ ys) t h s =
    kept_along item step lasts (step state y) x ys t h.1
    (lasts.kept state y (no_reset (is_of item x.command) (is_of item y.command) (is_reset y.command) t h.0) s)
  where
    no_reset : (a b c : Bool) → a ≡ true → (a && (b || c)) ≡ false → c ≡ false
    no_reset true true c t e = absurd cc
    no_reset true false c t e = e
    no_reset false b c t e = absurd cc

standing_there : {S : Type 0} (item : SystemItem) (step : Option S → Sent → Option S) → Lasts item step → (state : Option S) (xs : List Sent) →
    list_any (is_place_of item) (standing (item_ends item) xs) ≡ true → is_some (fold step state xs) ≡ true
standing_there item step lasts state [] h = absurd cc
standing_there item step lasts state (x ∷ xs) h =
    elim (cases_Bool (list_any (item_ends item x) xs)) [
      | inl t ↦ standing_there item step lasts (step state x) xs (rw t at h)
      | inr f ↦ elim (cases_Bool (is_of item x.command)) [
        | inl a ↦ kept_along item step lasts (step state x) x xs a (all_unended (item_ends item x) xs f) (lasts.made state x a)
        | inr b ↦ standing_there item step lasts (step state x) xs (rw (f, b) at h)
      ]
    ]

-- what two filters leave is there
any-left : {X : Type 0} (p q : X → Bool) (ys : List X) (x : X) (rest : List X) → filter p (filter q ys) ≡ x ∷ rest → list_any p ys ≡ true
any-left p q [] x rest e = absurd cc
any-left p q (y ∷ ys) x rest e =
    elim (cases_Bool (p y)) [
      | inl t ↦ rw t refl
      | inr f ↦ elim (cases_Bool (q y)) [
        | inl a ↦ rw f (any-left p q ys x rest (rw (a, f) at e))
        | inr b ↦ rw f (any-left p q ys x rest (rw b at e))
      ]
    ]

pub coded_there : {S : Type 0} (item : SystemItem) (step : Option S → Sent → Option S) → Lasts item step → (checkpoint packet : ℕ) (sent : List Sent) (x : Sent) (rest : List Sent) →
    item_coded item checkpoint packet sent ≡ x ∷ rest → is_some (fold step None (below packet_of packet sent)) ≡ true
unfolding item_coded
coded_there item step lasts checkpoint packet sent x rest e =
    let seen = below packet_of packet sent in
    standing_there item step lasts None seen (any-left (is_place_of item) (λ (place : Sent). leb checkpoint (packet_of place)) (standing (item_ends item) seen) x rest e)
