-- What a player's name is.
use Rattle.std.specs.Prelude.{ℕ, ◌≡◌, ◌≤◌, Bool, true, false, ◌&&◌, ◌||◌, List, [], ◌∷◌, length, nat_lt, Option, Some, None, if◌then◌else◌}
use Rattle.std.specs.List.{list_all}
use Rattle.std.specs.Char.{is_ascii_lowercase, is_ascii_digit}

abbrev pub is_name_octet : ℕ → Bool
is_name_octet octet = is_ascii_lowercase octet || is_ascii_digit octet

-- 1 to 16 octets from a to z and 0 to 9, the first a letter
abbrev pub is_player_name : List ℕ → Bool
is_player_name [] = false
is_player_name (first ∷ rest) = is_ascii_lowercase first && list_all is_name_octet rest && nat_lt (length rest) 16

-- the name that octets are, if they are one
abbrev pub player_name_of : List ℕ → Option (List ℕ)
player_name_of octets = if is_player_name octets then Some octets else None

pub record IsPlayerName (octets : List ℕ) : Type 0 where
  pub name : is_player_name octets ≡ true
  pub few : length octets ≤ 16
