use Rattle.std.proofs.Common.{take}
use Rattle.jm_wire.specs.Octets.{Appends}
use Rattle.jm_wire.proofs.octets.Octets.push_slice.Given as goal

abbrev pub invariant-loop-o : goal.invariant-loop-o
invariant-loop-o l = Appends l.fn.self l.self (take l.o-index l.text)
