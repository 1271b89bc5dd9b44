-- What reading gave: a value or a fault, and not both.
use Rattle.std.proofs.Common.{◌≡◌, ℕ, ◌+◌, ◌-◌, Result, Ok, Err, sym, ◌∙◌, arith}
use Rattle.jm_smf.specs.declared.fault.FileFault.{FileFault}

pub record IsTold {A : Type 0} (r : Result A FileFault) : Type 0 where
  pub value : A
  pub told : r ≡ Ok value

not_both : {A : Type 0} (value : A) (f : FileFault) → ◌≡◌ {A = Result A FileFault} (Ok value) (Err f) → ⊥
not_both value f e = cc

pub never_told : {A : Type 0} (r : Result A FileFault) (f : FileFault) → IsTold r → r ≡ Err f → ⊥
never_told r f t e = not_both t.value f (sym t.told ∙ e)

pub same_value : {A : Type 0} (a b : A) → ◌≡◌ {A = Result A FileFault} (Ok a) (Ok b) → a ≡ b
same_value a b e = cc

pub same_fault : {A : Type 0} (f g : FileFault) → ◌≡◌ {A = Result A FileFault} (Err f) (Err g) → f ≡ g
same_fault f g e = cc

-- ---- places

pub no_length : (place : ℕ) → place ≡ place + 0
no_length place = omega arith

pub less_eight : (n : ℕ) → 8 + n - 8 ≡ n
less_eight n = omega arith
