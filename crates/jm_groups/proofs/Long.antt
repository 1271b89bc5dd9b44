-- Where no route has more bits than a host, each has as many at most.
use Rattle.std.proofs.Common.{◌≡◌, ℕ, ◌+◌, ◌≤◌, List, [], ◌∷◌, length, drop, All, inl, inr, sym, ap, ◌∙◌, arith}
use Rattle.std.proofs.lemmas.List.{drop_all}
use Rattle.std.proofs.lemmas.Bool.{cases_Bool}
use Rattle.std.proofs.lemmas.Bool.Decides.{nat_tests}
use Rattle.std.proofs.lemmas.List.Elements.{All-from_recursion}
use Rattle.std.specs.Prelude.{false, Some, None, nat_lt}
use Rattle.std.specs.List.{position_from, AllByRecursion}
use Rattle.jm_groups.specs.declared.route.Route.{Route}
use Rattle.jm_groups.specs.Opening.{is_long, long_route}

abbrev IsShort : Route → Type 0
IsShort r = r.bits ≤ 32

some_none : (k : ℕ) → Some k ≡ None → ⊥
some_none k e = absurd cc

short : (r : Route) → nat_lt 32 r.bits ≡ false → IsShort r
short r t = grind (arith, nat_tests, t)

none_long : (k : ℕ) (routes : List Route) → position_from is_long k routes ≡ None → AllByRecursion IsShort routes
none_long k [] e = tt
none_long k (r ∷ routes) e =
    elim (cases_Bool (nat_lt 32 r.bits)) [ inl t ↦ absurd (some_none k (rw t at e)) | inr t ↦ (short r t, none_long (k + 1) routes (rw t at e)) ]

all_short : (routes : List Route) → long_route routes ≡ None → All (λ (r : Route). r.bits ≤ 32) routes
all_short routes e = All-from_recursion IsShort routes (none_long 0 routes e)

-- none was met in the whole of the list
pub none_met : (routes : List Route) (k : ℕ) → length routes ≤ k → position_from is_long k (drop k routes) ≡ position_from is_long 0 routes → All (λ (r : Route). r.bits ≤ 32) routes
none_met routes k l same = all_short routes (sym same ∙ ap (λ rest. position_from is_long k rest) (drop_all k routes l))
