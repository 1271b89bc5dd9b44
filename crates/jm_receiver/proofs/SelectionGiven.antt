-- A selection that is given by its halves, those of its kind last.
use Rattle.std.proofs.Common.{◌≡◌, ℕ, Bool, true, false, cond, ◌&&◌, ◌||◌, Option, Some, None, refl, sym, ap, ◌∙◌, inl, inr}
use Rattle.std.specs.Prelude.{is_some}
use Rattle.std.proofs.Math.Bool.{beq}
use Rattle.std.proofs.lemmas.Bool.{cases_Bool}
use Rattle.jm_cmds.specs.declared.selection.ParamCommand.{ParamCommand}
use Rattle.jm_cmds.specs.declared.selection.ParamCommand.TheVariants.{Select, Enter, Unselect, Clear, Pass}
use Rattle.jm_cmds.specs.declared.selection.Selection.{Selection}
use Rattle.jm_state.specs.Says.{selection_behind}
use Rattle.jm_receiver.specs.SelectionLaw.{half_of, half_in, half_key, kind_in, same_selection}

-- one half, if it is there
abbrev pub half_given : Option Selection → (nrpn high : Bool) → Option ℕ → Option Selection
half_given s nrpn high None = s
half_given s nrpn high (Some value) = selection_behind s (Select nrpn high value)

abbrev pub rpn_given : Option Selection → Selection → Option Selection
rpn_given s r = half_given (half_given s false true r.rpn_high) false false r.rpn_low

abbrev pub nrpn_given : Option Selection → Selection → Option Selection
nrpn_given s r = half_given (half_given s true true r.nrpn_high) true false r.nrpn_low

abbrev pub all_given : Option Selection → Selection → Option Selection
all_given s r = cond r.nrpn (nrpn_given (rpn_given s r) r) (rpn_given (nrpn_given s r) r)

-- It has a half of its kind.
abbrev pub IsChosen : Selection → Type 0
IsChosen r = (is_some (half_of r.nrpn true r) || is_some (half_of r.nrpn false r)) ≡ true

abbrev pick : Option ℕ → Option ℕ → Option ℕ
pick None old = old
pick (Some value) old = Some value

same_both : {A : Type 0} (b : Bool) (x : A) → cond b x x ≡ x
same_both true x = refl
same_both false x = refl

given_half : (s : Option Selection) (kind part : Bool) (o : Option ℕ) (nrpn high : Bool) → half_in nrpn high (half_given s kind part o) ≡ cond (beq kind nrpn && beq part high) (pick o (half_in nrpn high s)) (half_in nrpn high s)
given_half s kind part None nrpn high = sym (same_both (beq kind nrpn && beq part high) (half_in nrpn high s))
given_half s kind part (Some value) nrpn high =
    (half_key nrpn high).behind s (Select kind part value)
    ∙ elim (cases_Bool (beq kind nrpn && beq part high)) [ inl t ↦ rw t refl | inr f ↦ rw f refl ]

-- what two given halves leave of a half of the other kind
rpn_high : (s : Option Selection) (r : Selection) → half_in false true (rpn_given s r) ≡ pick r.rpn_high (half_in false true s)
rpn_high s r = given_half (half_given s false true r.rpn_high) false false r.rpn_low false true ∙ given_half s false true r.rpn_high false true

rpn_low : (s : Option Selection) (r : Selection) → half_in false false (rpn_given s r) ≡ pick r.rpn_low (half_in false false s)
rpn_low s r = given_half (half_given s false true r.rpn_high) false false r.rpn_low false false ∙ ap (pick r.rpn_low) (given_half s false true r.rpn_high false false)

rpn_other : (s : Option Selection) (r : Selection) (high : Bool) → half_in true high (rpn_given s r) ≡ half_in true high s
rpn_other s r high = given_half (half_given s false true r.rpn_high) false false r.rpn_low true high ∙ given_half s false true r.rpn_high true high

nrpn_high : (s : Option Selection) (r : Selection) → half_in true true (nrpn_given s r) ≡ pick r.nrpn_high (half_in true true s)
nrpn_high s r = given_half (half_given s true true r.nrpn_high) true false r.nrpn_low true true ∙ given_half s true true r.nrpn_high true true

nrpn_low : (s : Option Selection) (r : Selection) → half_in true false (nrpn_given s r) ≡ pick r.nrpn_low (half_in true false s)
nrpn_low s r = given_half (half_given s true true r.nrpn_high) true false r.nrpn_low true false ∙ ap (pick r.nrpn_low) (given_half s true true r.nrpn_high true false)

nrpn_other : (s : Option Selection) (r : Selection) (high : Bool) → half_in false high (nrpn_given s r) ≡ half_in false high s
nrpn_other s r high = given_half (half_given s true true r.nrpn_high) true false r.nrpn_low false high ∙ given_half s true true r.nrpn_high false high

all_half : (s : Option Selection) (r : Selection) (nrpn high : Bool) → half_in nrpn high (all_given s r) ≡ pick (half_of nrpn high r) (half_in nrpn high s)
all_half s r nrpn high = by_kind r.nrpn
  where
    first : (nrpn high : Bool) → half_in nrpn high (nrpn_given (rpn_given s r) r) ≡ pick (half_of nrpn high r) (half_in nrpn high s)
    first true true = nrpn_high (rpn_given s r) r ∙ ap (pick r.nrpn_high) (rpn_other s r true)
    first true false = nrpn_low (rpn_given s r) r ∙ ap (pick r.nrpn_low) (rpn_other s r false)
    first false true = nrpn_other (rpn_given s r) r true ∙ rpn_high s r
    first false false = nrpn_other (rpn_given s r) r false ∙ rpn_low s r

    second : (nrpn high : Bool) → half_in nrpn high (rpn_given (nrpn_given s r) r) ≡ pick (half_of nrpn high r) (half_in nrpn high s)
    second true true = rpn_other (nrpn_given s r) r true ∙ nrpn_high s r
    second true false = rpn_other (nrpn_given s r) r false ∙ nrpn_low s r
    second false true = rpn_high (nrpn_given s r) r ∙ ap (pick r.rpn_high) (nrpn_other s r true)
    second false false = rpn_low (nrpn_given s r) r ∙ ap (pick r.rpn_low) (nrpn_other s r false)

    by_kind : (b : Bool) → half_in nrpn high (cond b (nrpn_given (rpn_given s r) r) (rpn_given (nrpn_given s r) r)) ≡ pick (half_of nrpn high r) (half_in nrpn high s)
    by_kind true = first nrpn high
    by_kind false = second nrpn high

kind_given : (s : Option Selection) (kind : Bool) (a b : Option ℕ) → (is_some a || is_some b) ≡ true → kind_in (half_given (half_given s kind true a) kind false b) ≡ Some kind
kind_given s true a (Some b) h = refl
kind_given s false a (Some b) h = refl
kind_given s true (Some a) None h = refl
kind_given s false (Some a) None h = refl
kind_given s kind None None h = absurd (let f : false ≡ true = h in cc)

all_kind : (s : Option Selection) (r : Selection) → IsChosen r → kind_in (all_given s r) ≡ Some r.nrpn
all_kind s r h = by_kind r.nrpn h
  where
    by_kind : (b : Bool) → (is_some (half_of b true r) || is_some (half_of b false r)) ≡ true → kind_in (cond b (nrpn_given (rpn_given s r) r) (rpn_given (nrpn_given s r) r)) ≡ Some b
    by_kind true h = kind_given (rpn_given s r) true r.nrpn_high r.nrpn_low h
    by_kind false h = kind_given (nrpn_given s r) false r.rpn_high r.rpn_low h

picked : (o old : Option ℕ) → (o ≡ None → old ≡ None) → pick o old ≡ o
picked None old h = h refl
picked (Some value) old h = refl

-- Given to one that has no halves that it lacks, it is that selection.
pub given_whole : (s : Option Selection) (r : Selection) → IsChosen r → ((nrpn high : Bool) → half_of nrpn high r ≡ None → half_in nrpn high s ≡ None) → all_given s r ≡ Some r
given_whole s r chosen less =
    same_selection (all_given s r) (Some r) (all_kind s r chosen)
    (λ nrpn high. all_half s r nrpn high ∙ picked (half_of nrpn high r) (half_in nrpn high s) (less nrpn high))

-- ## Every selection has a half of its kind

abbrev pub AreChosen : Option Selection → Type 0
AreChosen None = Unit {0}
AreChosen (Some r) = IsChosen r

or_true : (b : Bool) → (b || true) ≡ true
or_true true = refl
or_true false = refl

pub chosen_behind : (s : Option Selection) (command : ParamCommand) → AreChosen s → AreChosen (selection_behind s command)
chosen_behind s (Select true true value) h = refl
chosen_behind s (Select true false value) h = or_true _
chosen_behind s (Select false true value) h = refl
chosen_behind s (Select false false value) h = or_true _
chosen_behind s (Enter high value) h = h
chosen_behind s Unselect h = tt
chosen_behind s Clear h = tt
chosen_behind s Pass h = h
