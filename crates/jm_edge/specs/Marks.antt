-- Datagrams that stand one behind the other in one list of octets, each with the place where it begins and where it ends.
use Rattle.std.specs.Prelude.{◌≡◌, ℕ, ◌-◌, ◌≤◌, List, [], ◌∷◌, ◌++◌, length, take, drop, map}
use Rattle.jm_edge.specs.declared.memory_port.Mark.{Mark}
use Rattle.jm_edge.specs.Wire.{Letter}

-- the datagram of a mark
abbrev pub letter_at : (octets : List ℕ) → Mark → Letter
letter_at octets mark = record { addr = mark.to; octets = take (mark.past - mark.start) (drop mark.start octets) }

abbrev pub letters : (octets : List ℕ) → List Mark → List Letter
letters octets marks = map (letter_at octets) marks

-- each mark lies within so many octets
abbrev pub AreWithin : ℕ → List Mark → Type 0
AreWithin len [] = Unit {0}
AreWithin len (mark ∷ marks) = (mark.start ≤ mark.past) × (mark.past ≤ len) × AreWithin len marks
