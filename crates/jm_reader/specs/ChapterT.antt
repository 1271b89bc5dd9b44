-- Chapter T (RFC 6295, A.8, Figure A.8.1).
use Rattle.std.specs.Prelude.{ℕ, ◌%◌, List, [], ◌∷◌, Some, None, nat_lt}
use Rattle.jm_reader.specs.declared.logs.LogKind.TheVariants.{Pressure}
use Rattle.jm_reader.specs.Chapter.{Chapter}

-- S PRESSURE
abbrev pub t_read : ℕ → List ℕ → Chapter
t_read channel (first ∷ rest) = Some (record { fresh = nat_lt first 128; what = Pressure channel (first % 128) } ∷ [], 1)
t_read channel [] = None
