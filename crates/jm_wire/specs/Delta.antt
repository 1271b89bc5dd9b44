-- The delta field of RFC 6295, section 3.1, Figure 4: octets of seven bits each, the high bit set on all but the last.
use Rattle.std.specs.Prelude.{◌≡◌, ℕ, ◌+◌, ◌*◌, ◌/◌, ◌%◌, ◌^◌, ◌<◌, ◌≤◌, Bool, false, ◌&&◌, List, [], ◌∷◌, ◌++◌, length, take, nat_lt, nat_le, if◌then◌else◌, IsTrue, Result, Ok, Err}
use Rattle.jm_wire.specs.declared.delta.DeltaFault.{DeltaFault}
use Rattle.jm_wire.specs.declared.delta.DeltaFault.TheVariants.{Short, TooLong}

-- the number in base 128 of the seven-bit parts of octets, the first part the highest
abbrev pub value : List ℕ → ℕ
value [] = 0
value (o ∷ os) = o % 128 * 128 ^ length os + value os

-- each octet but the last has the high bit
abbrev pub ends_at_last : List ℕ → Bool
ends_at_last [] = false
ends_at_last (o ∷ []) = nat_lt o 128
ends_at_last (o ∷ p ∷ os) = nat_le 128 o && ends_at_last (p ∷ os)

-- one to four octets that are a field
pub record IsField (text : List ℕ) : Type 0 where
  pub ended : IsTrue (ends_at_last text)
  pub few : length text ≤ 4

-- the shortest field of a number below 2^28
unfoldable pub delta : ℕ → List ℕ
delta v =
    if nat_lt v 128 then v ∷ []
    else if nat_lt v 16384 then (128 + v / 128) ∷ v % 128 ∷ []
    else if nat_lt v 2097152 then (128 + v / 16384) ∷ (128 + v / 128 % 128) ∷ v % 128 ∷ []
    else (128 + v / 2097152) ∷ (128 + v / 16384 % 128) ∷ (128 + v / 128 % 128) ∷ v % 128 ∷ []

-- how many octets with the high bit a list begins with
abbrev pub high_run : List ℕ → ℕ
high_run [] = 0
high_run (o ∷ os) = if nat_lt o 128 then 0 else high_run os + 1

-- the value of the field at the front and how many octets it has, or why there is none
unfoldable pub delta_at : List ℕ → Result (ℕ × ℕ) DeltaFault
delta_at b =
    if nat_le 4 (high_run b) then Err TooLong
    else if nat_le (length b) (high_run b) then Err Short
    else Ok (value (take (high_run b + 1) b), high_run b + 1)

-- a field of n octets with the value v stands at the front
pub record IsReadAs (b : List ℕ) (v n : ℕ) : Type 0 where
  pub inside : n ≤ length b
  pub field : IsField (take n b)
  pub value_is : value (take n b) ≡ v
  pub some : 1 ≤ n
  pub few : n ≤ 4
  pub below : v < 2 ^ 28

-- ---- laws

-- what was written is a field of that value, and read again whatever follows
pub record IsWrittenDelta (v : ℕ) : Type 0 where
  pub field : IsField (delta v)
  pub value_is : value (delta v) ≡ v
  pub shortest : (text : List ℕ) → IsField text → value text ≡ v → length (delta v) ≤ length text
  pub again : (rest : List ℕ) → delta_at (delta v ++ rest) ≡ Ok (v, length (delta v))

abbrev pub DeltasReadBack : Type 0
DeltasReadBack = (v : ℕ) → v < 2 ^ 28 → IsWrittenDelta v
