-- A source over memory: the octets that are left, and which of its calls fail.
use Rattle.std.specs.Prelude.{ℕ, ◌+◌, ◌-◌, ◌^◌, min, Bool, List, [], ◌∷◌, ◌++◌, length, take, drop, if◌then◌else◌, ◌==◌}
use Rattle.std.specs.List.{list_any}
use Rattle.jm_edge.specs.declared.source.Got.{Got}
use Rattle.jm_edge.specs.declared.source.Got.TheVariants.{Octets, Done, Failed}
use Rattle.jm_edge.specs.Faults.{one_more}

-- `fails` are the numbers of the calls that fail, and `call` is the number of the next one. It stays at
-- 2^128 - 1 once it is there, where no call fails, since the list holds numbers of 64 bits.
pub record Reading : Type 0 where
  pub left : List ℕ
  pub fails : List ℕ
  pub call : ℕ
  pub faults : ℕ

-- the number after this one
abbrev pub next_call : ℕ → ℕ
next_call call = min (call + 1) (2 ^ 128 - 1)

-- whether the next call fails
abbrev pub is_due : (fails : List ℕ) (call : ℕ) → Bool
is_due fails call = list_any (λ number. number == call) fails

-- as many octets as there are and as fit
abbrev pub got_of : (left : List ℕ) (room : ℕ) → Got
got_of [] room = Done
got_of (octet ∷ octets) room = Octets (min room (length (octet ∷ octets)))

-- the answer of the next read
abbrev pub read_answer : Reading → (room : ℕ) → Got
read_answer s room = if is_due s.fails s.call then Failed else got_of s.left room

-- the source after it
abbrev pub after_read : Reading → (room : ℕ) → Reading
after_read s room = if is_due s.fails s.call
    then record s { call = next_call s.call; faults = one_more s.faults }
    else record s { left = drop room s.left; call = next_call s.call }

-- the buffer after it: the octets that came, and then what stood there
abbrev pub filled : Reading → (buffer : List ℕ) → List ℕ
filled s buffer = if is_due s.fails s.call
    then buffer
    else take (length buffer) s.left ++ drop (length s.left) buffer
