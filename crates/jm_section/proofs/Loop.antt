-- Reading items one after the other, as a loop does.
use Rattle.std.proofs.Common.{◌≡◌, ℕ, suc, ◌-◌, ◌+◌, ◌≤◌, ◌<◌, Bool, false, List, [], ◌∷◌, ◌++◌, drop, length, Option, Some, None, Result, Ok, Err, refl, sym, ap, ◌∙◌, append_assoc, length-drop, arith}
use Rattle.std.proofs.lemmas.List.{append-nil}
use Rattle.jm_cmds.specs.declared.outcome.ReadError.{ReadError}
use Rattle.jm_cmds.specs.declared.outcome.ReadError.TheVariants as errors
use Rattle.jm_cmds.specs.Gives.{Gives}
use Rattle.jm_section.specs.declared.item.Item.{Item}
use Rattle.jm_section.specs.declared.reading.SectionFault.{SectionFault}
use Rattle.jm_section.specs.Grammar.{running_behind}
use Rattle.jm_wire.specs.Readers.{◌>>=◌}
use Rattle.jm_section.specs.Reading.{item_read, items_read}

abbrev pub failed : {A : Type 0} → ReadError SectionFault → Result A (ReadError SectionFault)
failed e = Err e

-- what was read before, and what is still read
abbrev pub with_front : List Item → Result (List Item) SectionFault → Result (List Item) SectionFault
with_front front read = read >>= λ items. Ok (front ++ items)

-- at most n items are still read, which stand in rest from this place on
pub record ReadsOn (total : Result (List Item) SectionFault) (last : ℕ) (front : List Item) (n place : ℕ) (bare : Bool) (running : Option ℕ) (rest : List ℕ) : Type 0 where
  pub gives : with_front front (items_read n place bare running rest) ≡ total
  pub inside : place + length rest ≡ last

pub reads_all : (n place : ℕ) (bare : Bool) (running : Option ℕ) (rest : List ℕ) → ReadsOn (items_read n place bare running rest) (place + length rest) [] n place bare running rest
reads_all n place bare running rest = record { gives = same (items_read n place bare running rest); inside = refl }
  where
    same : (read : Result (List Item) SectionFault) → with_front [] read ≡ read
    same (Ok items) = refl
    same (Err f) = refl

pub regroup : (front : List Item) (item : Item) (read : Result (List Item) SectionFault) → with_front front (read >>= λ items. Ok (item ∷ items)) ≡ with_front (front ++ item ∷ []) read
regroup front item (Ok items) = ap (λ (all : List Item). Ok all) (simp append_assoc)
regroup front item (Err f) = refl

pub goes_on : (total : Result (List Item) SectionFault) (last : ℕ) (front : List Item) (n i place : ℕ) (bare : Bool) (running : Option ℕ) (rest : List ℕ) (item : Item) (used : ℕ) → i < n
    → item_read place bare running rest ≡ Ok (Some (item, used)) → used ≤ length rest → ReadsOn total last front (n - i) place bare running rest
    → ReadsOn total last (front ++ item ∷ []) (n - (i + 1)) (place + used) false (running_behind running item.what) (drop used rest)
unfolding items_read
goes_on total last front n i place bare running rest item used lt e within r =
    let k : n - i ≡ suc (n - (i + 1)) = omega arith in
    let later = items_read (n - (i + 1)) (place + used) false (running_behind running item.what) (drop used rest) in
    let one : with_front front (items_read (n - i) place bare running rest) ≡ with_front (front ++ item ∷ []) later = rw (k, e) (regroup front item later) in
    record { gives = sym one ∙ r.gives; inside = omega (arith, r.inside, length-drop used rest) }

pub ends_here : (total : Result (List Item) SectionFault) (last : ℕ) (front : List Item) (n i place : ℕ) (bare : Bool) (running : Option ℕ) (rest : List ℕ) → i < n
    → item_read place bare running rest ≡ Ok None → ReadsOn total last front (n - i) place bare running rest → total ≡ Ok front
unfolding items_read
ends_here total last front n i place bare running rest lt e r =
    let k : n - i ≡ suc (n - (i + 1)) = omega arith in
    let one : with_front front (items_read (n - i) place bare running rest) ≡ Ok front = rw (k, e) (ap (λ (all : List Item). Ok all) (append-nil front)) in
    sym r.gives ∙ one

pub fails_here : (e : ReadError SectionFault) (total : Result (List Item) SectionFault) (last : ℕ) (front : List Item) (n i place : ℕ) (bare : Bool) (running : Option ℕ) (rest : List ℕ) → i < n
    → Gives (failed e) (item_read place bare running rest) → ReadsOn total last front (n - i) place bare running rest → Gives (failed e) total
unfolding items_read
fails_here errors.Memory total last front n i place bare running rest lt e r = tt
fails_here (errors.Fault f) total last front n i place bare running rest lt e r =
    let k : n - i ≡ suc (n - (i + 1)) = omega arith in
    let one : with_front front (items_read (n - i) place bare running rest) ≡ Err f = rw (k, e) refl in
    sym r.gives ∙ one

pub all_read : (total : Result (List Item) SectionFault) (last : ℕ) (front : List Item) (n i place : ℕ) (bare : Bool) (running : Option ℕ) (rest : List ℕ) → n ≤ i
    → ReadsOn total last front (n - i) place bare running rest → total ≡ Ok front
unfolding items_read
all_read total last front n i place bare running rest le r =
    let k : n - i ≡ 0 = omega arith in
    let one : with_front front (items_read (n - i) place bare running rest) ≡ Ok front = rw k (ap (λ (all : List Item). Ok all) (append-nil front)) in
    sym r.gives ∙ one
