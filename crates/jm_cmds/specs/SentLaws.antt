-- What holds of S bits.
use Rattle.std.proofs.Common.{◌≡◌, ℕ, ◌+◌, ◌<◌, Bool, true, false, ltb, arith}
use Rattle.std.proofs.lemmas.Bool.{lt-ltb, le-ltb}
use Rattle.jm_cmds.specs.Sent.{s_of}

-- a number of seven bits behind an S bit shows it
pub s-shows : (fresh : Bool) (number : ℕ) → number < 128 → ltb (s_of fresh + number) 128 ≡ fresh
s-shows true number l = lt-ltb (0 + number) 128 (omega arith)
s-shows false number l = le-ltb (128 + number) 128 (omega arith)
