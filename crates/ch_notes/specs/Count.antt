-- What is known of the numbers that Chapter N stands on.
use Rattle.std.specs.Prelude.{◌≡◌, ◌+◌, ◌≤◌}
use Rattle.ch_notes.specs.declared.shape.Shape.{Shape}

-- there are 128 notes in all, in 16 octets of bits
pub record IsCount (s : Shape) : Type 0 where
  pub low : s.low ≤ 15
  pub high : s.high ≤ 15
  pub notes : s.logs + s.off ≤ 128
  pub none_low : s.off ≡ 0 → s.low ≡ 15
  pub none_high : s.off ≡ 0 → s.high ≡ 0
  pub one : s.off ≡ 1 → s.low ≡ s.high
  pub some : 1 ≤ s.off → s.low ≤ s.high
