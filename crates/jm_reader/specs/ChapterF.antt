-- Chapter F (RFC 6295, B.4, Figure B.4.1).
use Rattle.std.specs.Prelude.{ℕ, ◌+◌, Bool, true, false, ◌&&◌, List, [], ◌∷◌, drop, Option, Some, None, if◌then◌else◌}
use Rattle.std.specs.Int.{w32, from_be_bytes}
use Rattle.jm_wire.specs.declared.heads.TimeHead.{TimeHead}
use Rattle.jm_wire.specs.Heads.{time_fields}
use Rattle.jm_reader.specs.declared.logs.Log.{Log}
use Rattle.jm_reader.specs.declared.logs.LogKind.TheVariants.{TimeCode}
use Rattle.jm_reader.specs.Chapter.{Chapter}

-- A word at the front, where its flag is set, and the octets that it has.
abbrev pub word_read : Bool → List ℕ → Option (Option ℕ × ℕ)
word_read false octets = Some (None, 0)
word_read true (a ∷ b ∷ c ∷ d ∷ rest) = Some (Some (from_be_bytes w32 (a ∷ b ∷ c ∷ d ∷ [])), 4)
word_read true _ = None

-- With C=1 and Q=0 COMPLETE is of a Full Frame command, and there is no log. With C=0 Q is not looked at.
abbrev pub time_logs : TimeHead → (complete partial : Option ℕ) → List Log
time_logs head complete partial =
    if head.c && (if head.q then false else true) then []
    else record {
      fresh = if head.s then false else true;
      what = TimeCode complete partial head.d head.point;
    } ∷ []

-- PARTIAL behind so many octets of the fields before it
abbrev pub partial_read : TimeHead → (complete : Option ℕ) (used : ℕ) → Option (Option ℕ × ℕ) → Chapter
partial_read head complete used None = None
partial_read head complete used (Some partial) = Some (time_logs head complete partial.0, 1 + used + partial.1)

abbrev pub complete_read : TimeHead → List ℕ → Option (Option ℕ × ℕ) → Chapter
complete_read head rest None = None
complete_read head rest (Some complete) = partial_read head complete.0 complete.1 (word_read head.p (drop complete.1 rest))

-- S C P Q D POINT, COMPLETE where C=1, PARTIAL where P=1
abbrev pub f_at : TimeHead → List ℕ → Chapter
f_at head rest = complete_read head rest (word_read head.c rest)

abbrev pub f_read : List ℕ → Chapter
f_read [] = None
f_read (first ∷ rest) = f_at (time_fields (first ∷ [])) rest
