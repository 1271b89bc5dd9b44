-- The octets of logs.
use Rattle.std.proofs.Common.{◌≡◌, ℕ, ◌*◌, ◌≤◌, true, false, List, [], ◌∷◌, Option, Some, None, length, refl, arith, length-append}
use Rattle.std.specs.Prelude.{option_to_list}
use Rattle.std.specs.List.{flat_map}
use Rattle.jm_cmds.specs.Sent.{s_bit}
use Rattle.jm_cmds.specs.declared.param.Param.{Param}
use Rattle.ch_param.specs.Event.{Place}
use Rattle.ch_param.specs.ChapterM.{Entered, coded_half, entered_log, param_log}

option_short : (o : Option ℕ) → length (option_to_list o) ≤ 1
option_short (Some value) = omega arith
option_short None = omega arith

pub param_log_short : (s : ℕ) (param : Param) (high low : Option ℕ) → length (param_log s param high low) ≤ 5
param_log_short s param high low =
    let both = length-append (option_to_list high) (option_to_list low) in
    omega (arith, both, option_short high, option_short low)

-- a log has at most five octets
pub logs_short : (channel checkpoint packet : ℕ) (places : List Place) (params : List Entered) → length (flat_map (entered_log channel checkpoint packet places) params) ≤ 5 * length params
logs_short channel checkpoint packet places [] = omega arith
logs_short channel checkpoint packet places (e ∷ es) =
    let all = length-append (entered_log channel checkpoint packet places e) (flat_map (entered_log channel checkpoint packet places) es) in
    let one = param_log_short (s_bit packet e.latest) e.param (coded_half channel checkpoint places e.param true) (coded_half channel checkpoint places e.param false) in
    omega (arith, all, one, logs_short channel checkpoint packet places es)

pub same_log : (s : ℕ) (a b : Param) (high low h l : Option ℕ) → a ≡ b → high ≡ h → low ≡ l → param_log s a high low ≡ param_log s b h l
same_log s a b high low h l p q r = rw (p, q, r) refl
