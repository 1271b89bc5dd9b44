-- An octet with S, as its high bit, before a number of seven bits.
use Rattle.std.proofs.Common.{◌≡◌, ℕ, ◌+◌, ◌%◌, ◌<◌, Bool, true, false, ltb, arith}
use Rattle.std.proofs.lemmas.Bool.{lt-ltb, le-ltb}
use Rattle.jm_cmds.specs.Sent.{s_of}

pub shows : (fresh : Bool) (number : ℕ) → number < 128 → ltb (s_of fresh + number) 128 ≡ fresh
shows true number l = lt-ltb (0 + number) 128 (omega arith)
shows false number l = le-ltb (128 + number) 128 (omega arith)

pub low_bits : (fresh : Bool) (number : ℕ) → number < 128 → (s_of fresh + number) % 128 ≡ number
low_bits true number l = omega arith
low_bits false number l = omega arith
