-- A sink over memory: what was written, the octets for which there is room, and which of its calls fail.
use Rattle.std.specs.Prelude.{ℕ, ◌-◌, ◌==◌, ◌||◌, min, Bool, List, ◌++◌, length, take, if◌then◌else◌}
use Rattle.jm_edge.specs.declared.sink.Put.{Put}
use Rattle.jm_edge.specs.declared.sink.Put.TheVariants.{Took, Failed}
use Rattle.jm_edge.specs.Faults.{one_more}
use Rattle.jm_edge.specs.MemSource.{is_due, next_call}

-- `room` is the number of octets that may still be written. `fails` and `call` are as for a source.
pub record Writing : Type 0 where
  pub written : List ℕ
  pub room : ℕ
  pub fails : List ℕ
  pub call : ℕ
  pub faults : ℕ

-- whether the next write fails: its number is in the list, or there is no octet of room
abbrev pub is_refused : Writing → Bool
is_refused s = is_due s.fails s.call || s.room == 0

-- the answer of the next write
abbrev pub write_answer : Writing → List ℕ → Put
write_answer s piece = if is_refused s then Failed else Took (min s.room (length piece))

-- the sink after it
abbrev pub after_write : Writing → List ℕ → Writing
after_write s piece = if is_refused s
    then record s { call = next_call s.call; faults = one_more s.faults }
    else record s {
      written = s.written ++ take s.room piece;
      room = s.room - length piece;
      call = next_call s.call;
    }
