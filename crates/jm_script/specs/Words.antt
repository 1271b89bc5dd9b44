-- The words of a line, which one space parts, and what they write.
use Rattle.std.specs.Prelude.{ℕ, Bool, false, ◌==◌, ◌&&◌, ◌||◌, not, if◌then◌else◌, nat_le, List, [], ◌∷◌, length, Option, Some, None, option_map, codes}
use Rattle.std.specs.Result.{result_ok}
use Rattle.std.specs.Str.{bytes_eq}
use Rattle.std.specs.Int.{w32, from_be_bytes}
use Rattle.std.specs.List.{list_all}
use Rattle.std.specs.Char.{is_ascii_digit}
use Rattle.std.specs.Str.Parse.{digits_value}
use Rattle.hex.specs.Hex.{decode_of, decode_sized}
use Rattle.jm_edge.specs.declared.Addr.{Addr}
use Rattle.apple_session.specs.declared.answer.PortKind.{PortKind}
use Rattle.apple_session.specs.declared.answer.PortKind.TheVariants.{Ctl, Rtp}

-- what stands before the first such octet, or all
abbrev pub front_part : ℕ → List ℕ → List ℕ
front_part separator [] = []
front_part separator (b ∷ bs) = if b == separator then [] else b ∷ front_part separator bs

-- what stands behind the first such octet, if there is one
abbrev pub back_part : ℕ → List ℕ → Option (List ℕ)
back_part separator [] = None
back_part separator (b ∷ bs) = if b == separator then Some bs else back_part separator bs

abbrev pub first_word : List ℕ → List ℕ
first_word = front_part 32

abbrev pub other_words : List ℕ → Option (List ℕ)
other_words = back_part 32

-- decimal digits, no zero before others
abbrev pub is_number : List ℕ → Bool
is_number [] = false
is_number (c ∷ cs) = list_all is_ascii_digit (c ∷ cs) && (not (c == 48) || (length cs == 0))

-- the number that a word writes, where it is at most `most`
abbrev pub number_of : ℕ → List ℕ → Option ℕ
number_of most word =
    if is_number word && nat_le (digits_value 10 word) most then Some (digits_value 10 word) else None

-- eight hexadecimal digits of either case, the high digit first: a number of 32 bits
abbrev pub ssrc_of : List ℕ → Option ℕ
ssrc_of word = option_map (from_be_bytes w32) (result_ok (decode_sized word 4))

-- one or more pairs of hexadecimal digits of either case
abbrev pub hex_of : List ℕ → Option (List ℕ)
hex_of [] = None
hex_of (c ∷ cs) = result_ok (decode_of (c ∷ cs))

-- an address: eight hexadecimal digits, a colon, and a port of at most 65,535
abbrev pub addr_from : Option ℕ → Option ℕ → Option Addr
addr_from (Some host) (Some port) = Some (record { host = host; port = port })
addr_from (Some host) None = None
addr_from None port = None

-- the port that stands behind a colon, if one stands there
abbrev pub port_behind : Option (List ℕ) → Option ℕ
port_behind None = None
port_behind (Some word) = number_of 65535 word

abbrev pub addr_of : List ℕ → Option Addr
addr_of word = addr_from (ssrc_of (front_part 58 word)) (port_behind (back_part 58 word))

-- which of the host's ports a word names
abbrev pub port_of : List ℕ → Option PortKind
port_of word =
    if bytes_eq word (codes "control") then Some Ctl
    else if bytes_eq word (codes "data") then Some Rtp
    else None
