use Rattle.std.proofs.Common.{◌+◌, ◌-◌, map}
use Rattle.std.specs.List.{range_with_len}
use Rattle.jm_wire.specs.Octets.{Owes}
use Rattle.ch_notes.specs.Shape.{mark_octet, mark_octets}
use Rattle.ch_notes.proofs.shape.Shape.write_bits.Given as goal

abbrev pub invariant-loop-k : goal.invariant-loop-k
invariant-loop-k l =
    Owes l.initial.out l.out (mark_octets l.self) (map (mark_octet l.self.released) (range_with_len l.k (l.self.high + 1 - l.k)))
