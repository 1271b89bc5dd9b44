-- Chapter Q (RFC 6295, B.3, Figure B.3.1).
use Rattle.std.specs.Prelude.{ℕ, ◌+◌, ◌*◌, Bool, true, false, List, [], ◌∷◌, Some, None, if◌then◌else◌}
use Rattle.jm_wire.specs.declared.heads.SeqHead.{SeqHead}
use Rattle.jm_wire.specs.Heads.{seq_fields}
use Rattle.jm_reader.specs.declared.logs.Log.{Log}
use Rattle.jm_reader.specs.declared.logs.LogKind.TheVariants.{Sequencer}
use Rattle.jm_reader.specs.Chapter.{Chapter}

-- the log of this head and position
abbrev pub sequencer_log : SeqHead → ℕ → Log
sequencer_log head position = record { fresh = if head.s then false else true; what = Sequencer head.n head.d position }

-- With C=1 TOP and CLOCK(16) are the position.
abbrev pub clocked : SeqHead → List ℕ → Chapter
clocked head (high ∷ low ∷ rest) = Some (sequencer_log head (65536 * head.top + (256 * high + low)) ∷ [], 3)
clocked head _ = None

-- With C=0 the position is 0, whatever TOP is. With T=1 nothing behind the first octet is read.
abbrev pub q_at : SeqHead → List ℕ → Chapter
q_at head rest =
    if head.t then Some ([], 1)
    else (if head.c then clocked head rest else Some (sequencer_log head 0 ∷ [], 1))

abbrev pub q_read : List ℕ → Chapter
q_read [] = None
q_read (first ∷ rest) = q_at (seq_fields (first ∷ [])) rest

-- The rest of the system journal is passed over: T=1.
abbrev pub q_ends : List ℕ → Bool
q_ends [] = false
q_ends (first ∷ rest) = (seq_fields (first ∷ [])).t
