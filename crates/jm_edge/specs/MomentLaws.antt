-- The moments that a clock gave first and those that it gave then are those that it gave.
use Rattle.std.proofs.Common.{◌≡◌, ℕ, List, [], ◌∷◌, ◌++◌, Option, Some, None, refl, sym, ap, subst, ◌∙◌}
use Rattle.std.specs.Prelude.{IfSome}
use Rattle.std.specs.Option.{option_map}
use Rattle.jm_edge.specs.Moments.{AreFirst, coming_behind, Gave}
use Rattle.jm_edge.specs.Ticks.{later, Ticks}

first-append : (xs ys : List ℕ) (coming : ℕ → ℕ) → AreFirst xs coming → AreFirst ys (coming_behind xs coming) → AreFirst (xs ++ ys) coming
first-append [] ys coming first second = second
first-append (x ∷ xs) ys coming first second = (first.0, first-append xs ys (later coming) first.1 second)

coming_behind-append : (xs ys : List ℕ) (coming : ℕ → ℕ) → coming_behind (xs ++ ys) coming ≡ coming_behind ys (coming_behind xs coming)
coming_behind-append [] ys coming = refl
coming_behind-append (x ∷ xs) ys coming = coming_behind-append xs ys (later coming)

first-then : (xs ys : List ℕ) (old middle : Option (ℕ → ℕ)) → middle ≡ option_map (coming_behind xs) old → IfSome old (AreFirst xs) → IfSome middle (AreFirst ys) → IfSome old (AreFirst (xs ++ ys))
first-then xs ys None middle e first second = tt
first-then xs ys (Some coming) middle e first second =
    first-append xs ys coming first (subst (λ (o : Option (ℕ → ℕ)). IfSome o (AreFirst ys)) e second)

others-then : (xs ys : List ℕ) (old : Option (ℕ → ℕ)) → option_map (coming_behind ys) (option_map (coming_behind xs) old) ≡ option_map (coming_behind (xs ++ ys)) old
others-then xs ys None = refl
others-then xs ys (Some coming) = ap (λ (k : ℕ → ℕ). Some k) (sym (coming_behind-append xs ys coming))

pub gave-then : {xs ys : List ℕ} {old middle new : Option (ℕ → ℕ)} → Gave xs old middle → Gave ys middle new → Gave (xs ++ ys) old new
gave-then {xs} {ys} {old} {middle} {new} first second = record {
  first = first-then xs ys old middle first.others first.first second.first;
  others = second.others ∙ ap (λ (o : Option (ℕ → ℕ)). option_map (coming_behind ys) o) first.others ∙ others-then xs ys old;
}

gave_first : (moment : ℕ) (old : Option (ℕ → ℕ)) → IfSome old (λ coming. moment ≡ coming 0) → IfSome old (AreFirst (moment ∷ []))
gave_first moment None h = tt
gave_first moment (Some coming) h = (h, tt)

gave_others : (moment : ℕ) (old : Option (ℕ → ℕ)) → option_map later old ≡ option_map (coming_behind (moment ∷ [])) old
gave_others moment None = refl
gave_others moment (Some coming) = refl

pub gave_one : (moment : ℕ) (old new : Option (ℕ → ℕ)) → Ticks moment old new → Gave (moment ∷ []) old new
gave_one moment old new t = record { first = gave_first moment old t.first; others = t.others ∙ gave_others moment old }

gave_same : (old : Option (ℕ → ℕ)) → old ≡ option_map (coming_behind []) old
gave_same None = refl
gave_same (Some coming) = refl

gave_quiet : (old : Option (ℕ → ℕ)) → IfSome old (AreFirst [])
gave_quiet None = tt
gave_quiet (Some coming) = tt

pub gave_nothing : (old : Option (ℕ → ℕ)) → Gave [] old old
gave_nothing old = record { first = gave_quiet old; others = gave_same old }
