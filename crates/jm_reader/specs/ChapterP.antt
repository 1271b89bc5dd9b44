-- Chapter P (RFC 6295, A.2, Figure A.2.1).
use Rattle.std.specs.Prelude.{ℕ, ◌%◌, List, [], ◌∷◌, Option, Some, None, nat_lt, if◌then◌else◌}
use Rattle.jm_reader.specs.declared.logs.Log.{Log}
use Rattle.jm_reader.specs.declared.logs.LogKind.TheVariants.{Program}
use Rattle.jm_reader.specs.Chapter.{Chapter}

-- B BANK-MSB, X BANK-LSB: a bank is there where B is 1. X isn't kept.
abbrev pub bank_read : (high low : ℕ) → Option (ℕ × ℕ)
bank_read high low = if nat_lt high 128 then None else Some (high % 128, low % 128)

-- S PROGRAM and the bank
abbrev pub program_log : (channel first high low : ℕ) → Log
program_log channel first high low = record {
  fresh = nat_lt first 128;
  what = Program channel (first % 128) (bank_read high low);
}

abbrev pub p_read : ℕ → List ℕ → Chapter
p_read channel (first ∷ high ∷ low ∷ rest) = Some (program_log channel first high low ∷ [], 3)
p_read channel _ = None
