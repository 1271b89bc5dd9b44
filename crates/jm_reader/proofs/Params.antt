-- The logs of Chapter M as they are read.
use Rattle.std.proofs.Common.{◌≡◌, ℕ, ◌+◌, ◌<◌, List, [], ◌∷◌, ◌++◌, length, drop, Option, Some, None, refl, sym, add-one, arith, append_assoc, drop-cons, option_map, get_or, true, false, ◌==◌}
use Rattle.std.proofs.lemmas.List.{append-nil}
use Rattle.std.proofs.lemmas.Bool.Decides.{nat_tests}
use Rattle.jm_reader.specs.declared.logs.Log.{Log}
use Rattle.jm_reader.specs.ChapterM.{known, param_read, params_read, before_others}

-- the logs in the end, where these stood before the chapter, these stand now, and these are still read
abbrev pub kept : List Log → List Log → Option (List Log) → List Log
kept before now None = before
kept before now (Some more) = now ++ more

pub kept_start : (before : List Log) (read : Option (List Log)) → kept before before read ≡ before ++ known read
kept_start before None = sym (append-nil before)
kept_start before (Some more) = refl

-- no octets are left
pub kept_end : (channel : ℕ) (before now : List Log) (count rest : List ℕ) → true ≡ (length rest == 0) →
    kept before now (params_read channel count rest) ≡ now
kept_end channel before now [] [] e = append-nil now
kept_end channel before now (x ∷ count) [] e = append-nil now
kept_end channel before now count (x ∷ rest) e = absurd (grind (arith, nat_tests))

params_step : (channel x : ℕ) (count rest : List ℕ) → false ≡ (length rest == 0) →
    params_read channel (x ∷ count) rest ≡ before_others (param_read channel rest) (params_read channel count)
params_step channel x count [] h = absurd cc
params_step channel x count (octet ∷ rest) h = refl

-- one log more of those that are still counted
params_at : (channel i : ℕ) (octets rest : List ℕ) → i < length octets → false ≡ (length rest == 0) →
    params_read channel (drop i octets) rest ≡ before_others (param_read channel rest) (params_read channel (drop (i + 1) octets))
params_at channel i octets rest h k = rw (add-one, drop-cons octets i 0) (params_step channel (get_or octets i 0) _ rest k)

-- a log hasn't the written form
pub kept_none : (channel i : ℕ) (before now : List Log) (octets rest : List ℕ) → i < length octets → false ≡ (length rest == 0) →
    param_read channel rest ≡ None → kept before now (params_read channel (drop i octets) rest) ≡ before
kept_none channel i before now octets rest h k e = rw (params_at channel i octets rest h k, e) refl

push_kept : (before now : List Log) (log : Log) (read : Option (List Log)) →
    kept before now (option_map (λ logs. log ∷ logs) read) ≡ kept before (now ++ log ∷ []) read
push_kept before now log None = refl
push_kept before now log (Some more) = simp append_assoc

-- a log has it
pub kept_some : (channel i : ℕ) (before now : List Log) (octets rest behind : List ℕ) (log : Log) → i < length octets → false ≡ (length rest == 0) →
    param_read channel rest ≡ Some (log, behind) →
    kept before now (params_read channel (drop i octets) rest) ≡ kept before (now ++ log ∷ []) (params_read channel (drop (i + 1) octets) behind)
kept_some channel i before now octets rest behind log h k e = rw (params_at channel i octets rest h k, e) (push_kept before now log _)
