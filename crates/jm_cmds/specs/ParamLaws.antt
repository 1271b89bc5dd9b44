-- Parameters that are the same are equal.
use Rattle.std.proofs.Common.{◌≡◌, ℕ, Bool, true, false, ◌&&◌, eqb, refl}
use Rattle.std.proofs.Math.Bool.{beq}
use Rattle.std.proofs.lemmas.Bool.{and_parts, eqb-true}
use Rattle.jm_cmds.specs.declared.param.Param.{Param}
use Rattle.jm_cmds.specs.Param.{same_param}

-- a parameter with this kind and number
numbered : (nrpn : Bool) (high low : ℕ) → Param
numbered nrpn high low = record { nrpn = nrpn; high = high; low = low }

pub beq-true : (a b : Bool) → beq a b ≡ true → a ≡ b
beq-true true true e = refl
beq-true true false e = cc
beq-true false true e = cc
beq-true false false e = refl

same_parts : (m n : Bool) (h i j k : ℕ) → m ≡ n → h ≡ i → j ≡ k → numbered m h j ≡ numbered n i k
same_parts m n h i j k p q r = cc

pub same_param-equal : (a b : Param) → same_param a b ≡ true → a ≡ b
unfolding numbered
same_param-equal a b e =
    let parts = and_parts (beq a.nrpn b.nrpn && eqb a.high b.high) (eqb a.low b.low) e in
    let front = and_parts (beq a.nrpn b.nrpn) (eqb a.high b.high) parts.0 in
    same_parts a.nrpn b.nrpn a.high b.high a.low b.low (beq-true a.nrpn b.nrpn front.0) (eqb-true a.high b.high front.1) (eqb-true a.low b.low parts.1)
