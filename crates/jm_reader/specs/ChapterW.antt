-- Chapter W (RFC 6295, A.5, Figure A.5.1).
use Rattle.std.specs.Prelude.{ℕ, ◌%◌, List, [], ◌∷◌, Some, None, nat_lt}
use Rattle.jm_reader.specs.declared.logs.LogKind.TheVariants.{Wheel}
use Rattle.jm_reader.specs.Chapter.{Chapter}

-- S FIRST, R SECOND
abbrev pub w_read : ℕ → List ℕ → Chapter
w_read channel (first ∷ second ∷ rest) = Some (record { fresh = nat_lt first 128; what = Wheel channel (first % 128) (second % 128) } ∷ [], 2)
w_read channel _ = None
