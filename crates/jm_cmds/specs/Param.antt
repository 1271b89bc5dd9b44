-- Parameters by their kind and number.
use Rattle.std.specs.Prelude.{ℕ, Bool, ◌&&◌, Option, Some, None, ◌==◌, if◌then◌else◌}
use Rattle.std.proofs.Math.Bool.{beq}
use Rattle.jm_cmds.specs.declared.param.Param.{Param}

-- The parameter with these halves of its number. That both are needed is this project's own rule; both being 127 stand for
-- the null parameter (RFC 6295, A.1 and A.3.4).
abbrev pub param_of : (nrpn : Bool) (high low : Option ℕ) → Option Param
param_of nrpn (Some high) (Some low) =
    if high == 127 && low == 127 then None else Some (record { nrpn = nrpn; high = high; low = low })
param_of nrpn (Some high) None = None
param_of nrpn None low = None

abbrev pub same_param : Param → Param → Bool
same_param a b = beq a.nrpn b.nrpn && a.high == b.high && a.low == b.low
