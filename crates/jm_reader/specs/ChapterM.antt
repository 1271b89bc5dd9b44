-- Chapter M (RFC 6295, A.4, Figure A.4.1, and A.4.2, Figures A.4.2 to A.4.4).
use Rattle.std.specs.Prelude.{ℕ, ◌-◌, ◌%◌, Bool, true, false, ◌||◌, List, [], ◌∷◌, Option, Some, None, length, take, nat_lt, ◌==◌, if◌then◌else◌, option_map}
use Rattle.jm_wire.specs.declared.heads.ParamHead.{ParamHead}
use Rattle.jm_wire.specs.Heads.{is_set, param_fields}
use Rattle.jm_reader.specs.declared.logs.Log.{Log}
use Rattle.jm_reader.specs.declared.logs.LogKind.TheVariants.{Param}
use Rattle.jm_reader.specs.Chapter.{Chapter}

-- ## A log

-- A half of a value, where its flag is set, and the octets behind it. The high bit of its octet isn't looked at.
abbrev pub half_read : Bool → List ℕ → Option (Option ℕ × List ℕ)
half_read false octets = Some (None, octets)
half_read true [] = None
half_read true (octet ∷ octets) = Some (Some (octet % 128), octets)

abbrev pub param_log : (channel first second : ℕ) → (entry_high entry_low : Option ℕ) → Log
param_log channel first second entry_high entry_low = record {
  fresh = nat_lt first 128;
  what = Param channel (is_set 128 second) (second % 128) (first % 128) entry_high entry_low;
}

-- the low half behind a high one, or behind none
abbrev pub low_read : (channel first second : ℕ) → (entry_high : Option ℕ) → Option (Option ℕ × List ℕ) → Option (Log × List ℕ)
low_read channel first second entry_high None = None
low_read channel first second entry_high (Some low) = Some (param_log channel first second entry_high low.0, low.1)

abbrev pub halves_read : (channel first second flags : ℕ) → Option (Option ℕ × List ℕ) → Option (Log × List ℕ)
halves_read channel first second flags None = None
halves_read channel first second flags (Some high) = low_read channel first second high.0 (half_read (is_set 64 flags) high.1)

-- S PNUM-LSB, Q PNUM-MSB, J K L M N T V R, and the halves that J and K tell: the log at the front and the octets behind
-- it. None where the octets end inside it, or of the six last flags not V alone is set.
abbrev pub param_read : ℕ → List ℕ → Option (Log × List ℕ)
param_read channel (first ∷ second ∷ flags ∷ octets) =
    if flags % 64 == 2 then halves_read channel first second flags (half_read (is_set 128 flags) octets) else None
param_read channel _ = None

-- ## The logs

abbrev pub before_others : Option (Log × List ℕ) → (List ℕ → Option (List Log)) → Option (List Log)
before_others None others = None
before_others (Some read) others = option_map (λ logs. read.0 ∷ logs) (others read.1)

-- The logs that these octets are, where they are logs. There are fewer logs than octets, so that the chapter's own
-- octets serve as their count.
abbrev pub params_read : ℕ → List ℕ → List ℕ → Option (List Log)
params_read channel [] octets = Some []
params_read channel (_ ∷ count) [] = Some []
params_read channel (_ ∷ count) (octet ∷ octets) = before_others (param_read channel (octet ∷ octets)) (params_read channel count)

-- ## The chapter

-- P, E, U, W and Z are 0
abbrev pub is_written : ParamHead → Bool
is_written head = if head.p || head.e || head.u || head.w || head.z then false else true

-- the logs; none where the chapter is passed over
abbrev pub known : Option (List Log) → List Log
known None = []
known (Some logs) = logs

abbrev pub m_logs : ℕ → Bool → List ℕ → List Log
m_logs channel true octets = known (params_read channel octets octets)
m_logs channel false octets = []

-- S P E U W Z LENGTH
abbrev pub m_read : ℕ → List ℕ → Chapter
m_read channel (first ∷ second ∷ octets) =
    let head = param_fields (first ∷ second ∷ []) in
    if nat_lt head.length 2 then None
    else (if nat_lt (length octets) (head.length - 2) then None
    else Some (m_logs channel (is_written head) (take (head.length - 2) octets), head.length))
m_read channel _ = None
