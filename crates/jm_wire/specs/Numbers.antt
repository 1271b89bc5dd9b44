-- Numbers as octets, the high octet first, and numbers of which the low 16 bits alone are sent.
use Rattle.std.specs.Prelude.{◌≡◌, ℕ, ◌+◌, ◌-◌, ◌%◌, ◌≤◌, List}
use Rattle.std.specs.Int.{w16, w32, w64, to_be_bytes}

-- two, four and eight octets of a number
abbrev pub be16 : ℕ → List ℕ
be16 n = to_be_bytes w16 n

abbrev pub be32 : ℕ → List ℕ
be32 n = to_be_bytes w32 n

abbrev pub be64 : ℕ → List ℕ
be64 n = to_be_bytes w64 n

-- a number that is not below near, with these low 16 bits, and the least such
pub record IsNextWith (near low n : ℕ) : Type 0 where
  pub not_below : near ≤ n
  pub low_bits : n % 65536 ≡ low
  pub least : (other : ℕ) → near ≤ other → other % 65536 ≡ low → n ≤ other

abbrev pub extend16 : (near low : ℕ) → ℕ
extend16 near low = near + (low + (65536 - near % 65536)) % 65536
