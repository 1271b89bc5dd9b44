-- What stays of the passes when one of them was lent, when each has split, and when each has taken in another one.
use Rattle.std.proofs.Common.{◌≡◌, ℕ, zero, suc, ◌+◌, ◌<◌, List, [], ◌∷◌, map, All, refl, sym, ap, subst, ◌∙◌, arith}
use Rattle.std.proofs.Math.ListN.{get_or-map}
use Rattle.std.proofs.lemmas.List.{length-map}
use Rattle.std.proofs.lemmas.List.Elements.{All-map, All-from_recursion, recursion_from_All}
use Rattle.std.specs.Prelude.{Some, slice_get, slice_set}
use Rattle.std.specs.List.{AllZip, zip, AllByRecursion}
use Rattle.jm_turn.specs.declared.view.View.{View}
use Rattle.jm_turn.specs.declared.view.Kind.TheVariants.{Split}
use Rattle.jm_desk.specs.declared.held.Held.{Held}
use Rattle.jm_desk.specs.declared.turn.DeskTurn.{DeskTurn}
use Rattle.jm_desk.specs.Sharing.{Shared, PassView, IsOf}
use Rattle.jm_groups.specs.Sharing.{Grouped, AreOf, IsOpening, IsSplit, HasOut, TakesInPair, after_split, split_view, view_of}

-- what stands at one place of two lists
pub each_there : {A B : Type 0} (R : A → B → Type 0) (xs : List A) (ys : List B) (k : ℕ) (x : A) (y : B) → AllZip R xs ys → slice_get xs k ≡ Some x → slice_get ys k ≡ Some y → R x y
each_there R [] ys k x y h at_x at_y = absurd cc
each_there R (a ∷ xs) [] k x y h at_x at_y = absurd h
each_there R (a ∷ xs) (b ∷ ys) zero x y h at_x at_y =
    let e : a ≡ x = cc in
    let f : b ≡ y = cc in
    subst (λ c. R c y) e (subst (λ c. R a c) f h.0)
each_there R (a ∷ xs) (b ∷ ys) (suc k) x y h at_x at_y = each_there R xs ys k x y h.1 at_x at_y

-- one place of the second list is written
pub each_set : {A B : Type 0} (R : A → B → Type 0) (xs : List A) (ys : List B) (k : ℕ) (x : A) (y : B) → AllZip R xs ys → slice_get xs k ≡ Some x → R x y → AllZip R xs (slice_set ys k y)
each_set R [] ys k x y h at_x r = absurd cc
each_set R (a ∷ xs) [] k x y h at_x r = absurd h
each_set R (a ∷ xs) (b ∷ ys) zero x y h at_x r =
    let e : x ≡ a = cc in
    (subst (λ c. R c y) e r, h.1)
each_set R (a ∷ xs) (b ∷ ys) (suc k) x y h at_x r = (h.0, each_set R xs ys k x y h.1 at_x r)

-- the pass that is lent is of the desk of its group
pub lent_of : (groups : Grouped) (passes : List PassView) (g : ℕ) (desk : Shared) (pass : PassView) → AreOf groups passes → slice_get groups.desks g ≡ Some desk → slice_get passes g ≡ Some pass → IsOf desk pass
lent_of groups passes g desk pass h at_desk at_pass = each_there IsOf groups.desks passes g desk pass h at_desk at_pass

-- and if it still is when it comes back, there is a pass for each desk as before
pub returned_own : (groups : Grouped) (passes : List PassView) (g : ℕ) (desk : Shared) (pass : PassView) → AreOf groups passes → slice_get groups.desks g ≡ Some desk → IsOf desk pass → AreOf groups (slice_set passes g pass)
returned_own groups passes g desk pass h at_desk own = each_set IsOf groups.desks passes g desk pass h at_desk own

-- after a split there is a pass for each desk as before
pub split_own : (desks : List Shared) (passes : List PassView) → AllZip IsOf desks passes → AllZip IsOf desks (map after_split passes)
split_own [] [] h = tt
split_own [] (p ∷ ps) h = absurd h
split_own (d ∷ ds) [] h = absurd h
split_own (d ∷ ds) (p ∷ ps) h = (record { table = h.0.table; first = h.0.first }, split_own ds ps h.1)

pub split_opening : (passes : List PassView) → All IsOpening passes → All IsOpening (map after_split passes)
split_opening passes h = All-map IsOpening after_split passes h

pub split_out : (n : ℕ) (passes : List PassView) → All (HasOut n) passes → All (HasOut (n + 1)) (map after_split passes)
split_out n passes h = All-map (HasOut (n + 1)) after_split passes (λ k d l. ap (λ (m : ℕ). m + 1) (h k d l))

-- those that were split off are no opening passes
abbrev IsSplitView : View Held DeskTurn → Type 0
IsSplitView v = v.kind ≡ Split

pub split_parts : (passes others : List PassView) → map view_of others ≡ map split_view passes → All IsSplit others
split_parts passes others given k d l =
    let all : All IsSplitView (map split_view passes) = All-map IsSplitView split_view passes (λ k d l. refl) in
    let each : All IsSplitView (map view_of others) = subst (All IsSplitView) (sym given) all in
    subst IsSplitView (get_or-map view_of others k d) (each k (view_of d) (subst (λ (n : ℕ). k < n) (sym (length-map others view_of)) l))

-- what each new value keeps of an old one beside another
each_kept : {A B C : Type 0} (R : A × B → C → Type 0) (P : A → Type 0) (Q : C → Type 0) → ((a : A) (b : B) (c : C) → R (a, b) c → P a → Q c)
    → (xs : List A) (ys : List B) (zs : List C) → AllZip R (zip xs ys) zs → AllByRecursion P xs → AllByRecursion Q zs
each_kept R P Q keeps [] ys [] h p = tt
each_kept R P Q keeps [] ys (c ∷ zs) h p = absurd h
each_kept R P Q keeps (a ∷ xs) [] [] h p = tt
each_kept R P Q keeps (a ∷ xs) [] (c ∷ zs) h p = absurd h
each_kept R P Q keeps (a ∷ xs) (b ∷ ys) [] h p = absurd h
each_kept R P Q keeps (a ∷ xs) (b ∷ ys) (c ∷ zs) h p = (keeps a b c h.0 p.0, each_kept R P Q keeps xs ys zs h.1 p.1)

pub joined_opening : (olds others news : List PassView) → AllZip TakesInPair (zip olds others) news → All IsOpening olds → All IsOpening news
joined_opening olds others news each h =
    All-from_recursion IsOpening news (each_kept TakesInPair IsOpening IsOpening (λ a b c takes p. ap (λ (v : PassView). v.view.kind) takes.joined ∙ p) olds others news each (recursion_from_All IsOpening olds h))

pub joined_out : (n : ℕ) (olds others news : List PassView) → AllZip TakesInPair (zip olds others) news → All (HasOut (n + 1)) olds → All (HasOut n) news
joined_out n olds others news each h =
    All-from_recursion (HasOut n) news (each_kept TakesInPair (HasOut (n + 1)) (HasOut n) (λ a b c takes p. omega (arith, ap (λ (v : PassView). v.view.out) takes.joined, p)) olds others news each (recursion_from_All (HasOut (n + 1)) olds h))
