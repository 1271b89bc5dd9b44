-- Chapter D (RFC 6295, B.1, Figures B.1.1 to B.1.3).
use Rattle.std.specs.Prelude.{ℕ, ◌%◌, Bool, true, false, ◌==◌, List, [], ◌∷◌, drop, Some, None, nat_lt, if◌then◌else◌}
use Rattle.jm_wire.specs.Heads.{is_set}
use Rattle.jm_reader.specs.declared.logs.LogKind.{LogKind}
use Rattle.jm_reader.specs.declared.logs.LogKind.TheVariants.{Reset, Tune, Song}
use Rattle.jm_reader.specs.declared.d.Part.{Part}
use Rattle.jm_reader.specs.declared.d.Part.TheVariants as part
use Rattle.jm_reader.specs.Chapter.{Chapter, joined, and_then}

-- what a log says by its seven bits
abbrev pub kind_of : Part → ℕ → LogKind
kind_of part.Resets bits = Reset bits
kind_of part.Tunes bits = Tune bits
kind_of part.Songs bits = Song bits

-- the log of one octet at the front, where its flag is set: S COUNT, or S VALUE
abbrev pub part_read : Part → Bool → List ℕ → Chapter
part_read part false octets = Some ([], 0)
part_read part true [] = None
part_read part true (octet ∷ rest) = Some (record { fresh = nat_lt octet 128; what = kind_of part (octet % 128) } ∷ [], 1)

-- the logs behind the head, in this order
abbrev pub parts_read : (head : ℕ) → List ℕ → Chapter
parts_read head rest =
    and_then (part_read part.Resets (is_set 64 head) rest) (λ resets.
    and_then (part_read part.Tunes (is_set 32 head) (drop resets rest)) (λ tunes.
    part_read part.Songs (is_set 16 head) (drop tunes (drop resets rest))))

-- S B G H J K Y Z
abbrev pub d_read : List ℕ → Chapter
d_read [] = None
d_read (head ∷ rest) = joined ([], 1) (parts_read head rest)

-- The rest of the system journal is passed over: J, K, Y or Z is set, for logs of undefined commands.
abbrev pub d_ends : List ℕ → Bool
d_ends [] = false
d_ends (head ∷ rest) = if head % 16 == 0 then false else true
