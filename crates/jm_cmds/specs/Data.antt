-- Data octets: those of a command behind its status octet.
use Rattle.std.specs.Prelude.{◌≡◌, ℕ, ◌≤◌, Bool, true, List, length, nat_lt, nat_le}
use Rattle.std.specs.List.{list_all, prefix_len}

-- the high bit of a data octet is 0
abbrev pub is_data : ℕ → Bool
is_data octet = nat_lt octet 128

-- each octet is a data octet
abbrev pub IsData : List ℕ → Type 0
IsData octets = list_all is_data octets ≡ true

-- how many data octets stand at the front
abbrev pub data_len : List ℕ → ℕ
data_len octets = prefix_len is_data octets

-- The data octets of a whole System Exclusive message: at most 65,536, which is this project's own bound.
pub record IsSysex (octets : List ℕ) : Type 0 where
  pub octets_are_data : IsData octets
  pub few : length octets ≤ 65536

-- The data octets of a long message: more than 2,046, so that no packet holds it whole. It is sent in segments. The bound is this
-- project's own.
abbrev pub is_long_message : List ℕ → Bool
is_long_message octets = nat_lt 2046 (length octets)

-- The data octets of a message that is kept for repair: no more than 254, which is this project's own bound.
abbrev pub is_kept_message : List ℕ → Bool
is_kept_message octets = nat_le (length octets) 254
