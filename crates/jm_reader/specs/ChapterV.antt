-- Chapter V (RFC 6295, B.2, Figure B.2.1).
use Rattle.std.specs.Prelude.{ℕ, ◌%◌, List, [], ◌∷◌, Some, None, nat_lt}
use Rattle.jm_reader.specs.declared.logs.LogKind.TheVariants.{Sensing}
use Rattle.jm_reader.specs.Chapter.{Chapter}

-- S COUNT
abbrev pub v_read : List ℕ → Chapter
v_read [] = None
v_read (octet ∷ rest) = Some (record { fresh = nat_lt octet 128; what = Sensing (octet % 128) } ∷ [], 1)
